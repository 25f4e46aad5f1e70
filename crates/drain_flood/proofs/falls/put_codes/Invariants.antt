-- The codes that were put so far.
use Rattle.std.proofs.Common.{◌≡◌, ℕ, ◌<◌, ◌+◌, ◌==◌, length, slice_index, if◌then◌else◌}
use Rattle.drain_flood.proofs.falls.put_codes.Given as goal

abbrev pub invariant-loop-k : goal.invariant-loop-k
invariant-loop-k l = record {
  len : length l.dirs ≡ length l.marks;
  row : (k : ℕ) → k < l.k → slice_index l.codes k < 256 →
      slice_index l.dirs (l.start + k) ≡ (if slice_index l.codes k == 0 then slice_index l.marks (l.start + k) else slice_index l.codes k);
  others : (i : ℕ) → i < l.start → slice_index l.dirs i ≡ slice_index l.fn.dirs i;
}
