-- The law is a lemma.
use Rattle.drain_merge.proofs.SingleWindows as lemmas
use Rattle.drain_merge.proofs.laws.window_stands.Goals as goal

pub returns : goal.returns
returns c = lemmas.window_stands
