-- The law is a lemma on floats and their places.
use Rattle.drain_grid.proofs.SingleHeights as lemmas
use Rattle.drain_grid.proofs.laws.numbers_order_heights.Goals as goal

pub returns : goal.returns
returns c = lemmas.numbers_order
