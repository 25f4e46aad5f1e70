-- The law is a lemma on products with other ranks.
use Rattle.drain_grid.proofs.Exactly as lemmas
use Rattle.drain_grid.proofs.laws.sound_from_correct.Goals as goal

pub returns : goal.returns
returns c = lemmas.sound_from_correct
