use Rattle.drain_filled.proofs.LeastSurfaces as lemmas
use Rattle.drain_filled.proofs.laws.rules_keep_con_low.Goals as goal

pub returns : goal.returns
returns c = lemmas.rules_keep_con_low
