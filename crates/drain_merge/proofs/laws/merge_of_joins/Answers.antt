-- The law is a lemma.
use Rattle.drain_merge.proofs.Trees as lemmas
use Rattle.drain_merge.proofs.laws.merge_of_joins.Goals as goal

pub returns : goal.returns
returns c = lemmas.merge_of_joins
