use Rattle.drain_flood.proofs.Settling as lemmas
use Rattle.drain_flood.proofs.laws.all_are_settled.Goals as goal

pub returns : goal.returns
returns c = lemmas.all_are_settled
