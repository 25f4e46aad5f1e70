-- The law is a lemma.
use Rattle.drain_union.proofs.JoinedReports as lemmas
use Rattle.drain_union.proofs.laws.join_is_report.Goals as goal

pub returns : goal.returns
returns c = lemmas.join_is_report
