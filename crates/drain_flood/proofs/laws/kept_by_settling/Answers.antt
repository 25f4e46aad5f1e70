use Rattle.drain_flood.proofs.Settling as lemmas
use Rattle.drain_flood.proofs.laws.kept_by_settling.Goals as goal

pub returns : goal.returns
returns c = lemmas.kept_by_settling
