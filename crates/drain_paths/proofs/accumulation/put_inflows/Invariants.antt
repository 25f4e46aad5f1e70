-- The inflows so far.
use Rattle.drain_paths.proofs.Names.{◌≡◌, ℕ, ◌<◌, ◌+◌, length, slice_index, inflow_at}
use Rattle.drain_paths.proofs.accumulation.put_inflows.Given as goal

abbrev pub invariant-loop-k : goal.invariant-loop-k
invariant-loop-k l = record {
  len : length l.waits ≡ length l.fn.waits;
  row : (k : ℕ) → k < l.k → slice_index l.waits (l.start + k) ≡ inflow_at l.above l.here l.below k;
  others : (i : ℕ) → i < l.start → slice_index l.waits i ≡ slice_index l.fn.waits i;
}
