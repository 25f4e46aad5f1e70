use Rattle.drain_mosaic.proofs.Names.{ℕ, ◌<◌, IsRefusedAt}
use Rattle.drain_mosaic.proofs.overlay.first_refused.Given as goal

abbrev pub invariant-loop-k : goal.invariant-loop-k
invariant-loop-k l = (k : ℕ) → k < l.k → ¬ IsRefusedAt l.here l.other k
