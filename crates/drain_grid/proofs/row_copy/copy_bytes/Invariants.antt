use Rattle.std.proofs.Common.{◌≡◌, ◌<◌, ℕ, pos, get_or}
use Rattle.drain_grid.proofs.row_copy.copy_bytes.Given as goal

-- the bytes that were passed are there
abbrev pub invariant-loop-k : goal.invariant-loop-k
invariant-loop-k l = (i : ℕ) → i < l.k → get_or l.out i (pos 0) ≡ pos (get_or l.bytes i 0)
