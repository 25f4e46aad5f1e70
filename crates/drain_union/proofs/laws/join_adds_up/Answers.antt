-- The law is a lemma.
use Rattle.drain_union.proofs.JoinedCounts as lemmas
use Rattle.drain_union.proofs.laws.join_adds_up.Goals as goal

pub returns : goal.returns
returns c = lemmas.join_adds_up
