-- The gaps so far.
use Rattle.std.proofs.Common.{◌≡◌, ℕ, ◌<◌, length, slice_index}
use Rattle.drain_flood.proofs.open_cells.mark_gaps.Given as goal

abbrev pub invariant-loop-k : goal.invariant-loop-k
invariant-loop-k l = record {
  len : length l.marks ≡ length l.fn.marks;
  gaps : (k : ℕ) → k < l.k → slice_index l.marks k ≡ 0;
}
