-- The law is a lemma.
use Rattle.drain_union.proofs.WindowPatches as lemmas
use Rattle.drain_union.proofs.laws.patch_of_window.Goals as goal

pub returns : goal.returns
returns c = lemmas.patch_of_window
