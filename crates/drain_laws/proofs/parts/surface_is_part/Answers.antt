-- The law is a lemma on filled surfaces.
use Rattle.drain_laws.proofs.SurfacePart as lemmas
use Rattle.drain_laws.proofs.parts.surface_is_part.Goals as goal

pub returns : goal.returns
returns c = lemmas.surface_is_part
