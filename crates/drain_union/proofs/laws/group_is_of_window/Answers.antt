-- The law is a lemma.
use Rattle.drain_union.proofs.GroupWindows as lemmas
use Rattle.drain_union.proofs.laws.group_is_of_window.Goals as goal

pub returns : goal.returns
returns c = lemmas.group_is_of_window
