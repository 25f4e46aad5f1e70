-- The lanes so far, between two gaps.
use Rattle.drain_flood.proofs.Names.{◌≡◌, ℕ, ◌<◌, ◌+◌, pos, length, slice_index, slice_index_or, GAP, IsLane}
use Rattle.drain_flood.proofs.falls.lay_heights.Given as goal

abbrev pub invariant-loop-k : goal.invariant-loop-k
invariant-loop-k l = record {
  len : length l.lanes ≡ l.cols + 2;
  first : slice_index l.lanes 0 ≡ GAP;
  last : slice_index l.lanes (l.cols + 1) ≡ GAP;
  lanes : (k : ℕ) → k < l.k → IsLane (slice_index_or l.heights (l.start + k) (pos 0)) (slice_index l.lanes (k + 1));
}
