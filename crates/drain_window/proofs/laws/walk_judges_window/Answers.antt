-- The law is a lemma.
use Rattle.drain_window.proofs.JudgedWindows as lemmas
use Rattle.drain_window.proofs.laws.walk_judges_window.Goals as goal

pub returns : goal.returns
returns c = lemmas.walk_judges_window
