-- The law is a lemma on judged rasters.
use Rattle.drain_laws.proofs.PartLocal as lemmas
use Rattle.drain_laws.proofs.parts.part_is_local.Goals as goal

pub returns : goal.returns
returns c = lemmas.part_is_local
