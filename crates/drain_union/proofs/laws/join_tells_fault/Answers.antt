-- The law is a lemma.
use Rattle.drain_union.proofs.JoinedFaults as lemmas
use Rattle.drain_union.proofs.laws.join_tells_fault.Goals as goal

pub returns : goal.returns
returns c = lemmas.join_tells_fault
