use Rattle.drain_flood.proofs.Looking as lemmas
use Rattle.drain_flood.proofs.laws.flood_is_filled.Goals as goal

pub returns : goal.returns
returns c = lemmas.flood_is_filled
