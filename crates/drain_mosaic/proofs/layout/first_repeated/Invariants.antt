use Rattle.drain_mosaic.proofs.Names.{ℕ, ◌<◌, Corner, IsRepeatedAt}
use Rattle.drain_mosaic.proofs.layout.first_repeated.Given as goal

abbrev pub invariant-loop-i : goal.invariant-loop-i
invariant-loop-i l = (k : ℕ) (c : Corner) → k < l.i → ¬ IsRepeatedAt l.names k c
