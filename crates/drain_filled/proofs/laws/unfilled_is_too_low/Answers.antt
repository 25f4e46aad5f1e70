use Rattle.drain_filled.proofs.LeastSurfaces as lemmas
use Rattle.drain_filled.proofs.laws.unfilled_is_too_low.Goals as goal

pub returns : goal.returns
returns c = lemmas.unfilled_is_too_low
