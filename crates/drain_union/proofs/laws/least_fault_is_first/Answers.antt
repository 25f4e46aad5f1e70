-- The law is a lemma.
use Rattle.drain_union.proofs.FirstFaults as lemmas
use Rattle.drain_union.proofs.laws.least_fault_is_first.Goals as goal

pub returns : goal.returns
returns c = lemmas.least_fault_is_first
