-- The bytes so far, between two gaps.
use Rattle.drain_flood.proofs.Names.{◌≡◌, ◌↔◌, ℕ, ◌<◌, ◌+◌, pos, length, slice_index, slice_index_or, NO_HEIGHT}
use Rattle.drain_flood.proofs.open_cells.mark_data.Given as goal

abbrev pub invariant-loop-k : goal.invariant-loop-k
invariant-loop-k l = record {
  len : length l.marks ≡ l.cols + 2;
  first : slice_index l.marks 0 ≡ 0;
  last : slice_index l.marks (l.cols + 1) ≡ 0;
  marks : (k : ℕ) → k < l.k → (slice_index l.marks (k + 1) ≡ 0 ↔ slice_index_or l.con (l.start + k) (pos 0) ≡ NO_HEIGHT);
}
