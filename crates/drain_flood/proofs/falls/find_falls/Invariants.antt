-- The codes so far.
use Rattle.drain_flood.proofs.Names.{◌≡◌, ℕ, ◌<◌, ◌+◌, length, slice_index, fall_at}
use Rattle.drain_flood.proofs.falls.find_falls.Given as goal

abbrev pub invariant-loop-k : goal.invariant-loop-k
invariant-loop-k l = record {
  len : length l.codes + 2 ≡ length l.here;
  falls : (k : ℕ) → k < l.k → slice_index l.codes k ≡ fall_at l.above l.here l.below k;
}
