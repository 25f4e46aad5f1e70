-- The marks so far.
use Rattle.drain_flood.proofs.Names.{◌≡◌, ℕ, ◌<◌, ◌+◌, false, length, slice_index, slice_index_or, IsMarkOf, least_around}
use Rattle.drain_flood.proofs.open_cells.put_marks.Given as goal

abbrev pub invariant-loop-k : goal.invariant-loop-k
invariant-loop-k l = record {
  len : length l.marks ≡ length l.fn.marks;
  row : (k : ℕ) → k < l.k →
      IsMarkOf (slice_index l.here (k + 1)) (slice_index_or l.listed k false) (least_around l.above l.here l.below k) (slice_index l.marks (l.start + k));
  others : (i : ℕ) → i < l.start → slice_index l.marks i ≡ slice_index l.fn.marks i;
}
