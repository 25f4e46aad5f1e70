-- The law is a lemma.
use Rattle.drain_union.proofs.Merges as lemmas
use Rattle.drain_union.proofs.laws.four_numbers.Goals as goal

pub returns : goal.returns
returns c = lemmas.four_numbers
