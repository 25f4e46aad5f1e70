use Rattle.std.proofs.Common.{◌<◌, ℕ, pos, get_or}
use Rattle.drain_grid.proofs.Alike.{IsCopied}
use Rattle.drain_grid.proofs.row_copy.copy_heights.Given as goal

-- the heights that were passed are there
abbrev pub invariant-loop-k : goal.invariant-loop-k
invariant-loop-k l = (i : ℕ) → i < l.k → IsCopied l.heights i (get_or l.out i (pos 0))
