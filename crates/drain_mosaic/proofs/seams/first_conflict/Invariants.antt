use Rattle.drain_mosaic.proofs.Names.{ℕ, ◌<◌, ConflictAt}
use Rattle.drain_mosaic.proofs.seams.first_conflict.Given as goal

abbrev pub invariant-loop-k : goal.invariant-loop-k
invariant-loop-k l = (k : ℕ) → k < l.k → ¬ ConflictAt l.here l.other k
