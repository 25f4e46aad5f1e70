-- The samples so far.
use Rattle.std.proofs.Common.{◌≡◌, ℕ, ◌<◌, ◌+◌, pos, length, slice_index_or}
use Rattle.drain_flood.proofs.open_cells.put_samples.Given as goal

abbrev pub invariant-loop-k : goal.invariant-loop-k
invariant-loop-k l = record {
  len : length l.con ≡ length l.fn.con;
  row : (k : ℕ) → k < l.k → slice_index_or l.con (l.start + k) (pos 0) ≡ slice_index_or l.samples k (pos 0);
  others : (i : ℕ) → i < l.start → slice_index_or l.con i (pos 0) ≡ slice_index_or l.fn.con i (pos 0);
}
