-- The law is a lemma.
use Rattle.drain_merge.proofs.Trees as lemmas
use Rattle.drain_merge.proofs.laws.join_stands.Goals as goal

pub returns : goal.returns
returns c = lemmas.join_stands
