-- The gaps so far.
use Rattle.drain_flood.proofs.Names.{◌≡◌, ℕ, ◌<◌, length, slice_index, GAP}
use Rattle.drain_flood.proofs.falls.lay_gaps.Given as goal

abbrev pub invariant-loop-k : goal.invariant-loop-k
invariant-loop-k l = record {
  len : length l.lanes ≡ length l.fn.lanes;
  gaps : (k : ℕ) → k < l.k → slice_index l.lanes k ≡ GAP;
}
