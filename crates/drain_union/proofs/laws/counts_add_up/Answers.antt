-- The law is a lemma.
use Rattle.drain_union.proofs.JudgedCounts as lemmas
use Rattle.drain_union.proofs.laws.counts_add_up.Goals as goal

pub returns : goal.returns
returns c = lemmas.counts_add_up
