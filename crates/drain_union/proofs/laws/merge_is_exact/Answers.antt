-- The law is a lemma.
use Rattle.drain_union.proofs.ReportMerges as lemmas
use Rattle.drain_union.proofs.laws.merge_is_exact.Goals as goal

pub returns : goal.returns
returns c = lemmas.merge_is_exact
