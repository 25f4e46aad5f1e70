-- The law is a lemma.
use Rattle.drain_merge.proofs.Trees as lemmas
use Rattle.drain_merge.proofs.laws.joins_stand_for_all.Goals as goal

pub returns : goal.returns
returns c = lemmas.joins_stand_for_all
