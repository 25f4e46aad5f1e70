-- The law is a lemma.
use Rattle.drain_union.proofs.WindowPatches as lemmas
use Rattle.drain_union.proofs.laws.open_in_window.Goals as goal

pub returns : goal.returns
returns c = lemmas.open_in_window
