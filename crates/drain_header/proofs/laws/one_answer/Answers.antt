-- The law is a lemma on the places of faults.
use Rattle.drain_header.proofs.OneAnswer as lemmas
use Rattle.drain_header.proofs.laws.one_answer.Goals as goal

pub returns : goal.returns
returns c = lemmas.one_answer_of
