-- The codes so far, between two voids.
use Rattle.drain_paths.proofs.Names.{◌≡◌, ℕ, ◌<◌, ◌+◌, length, slice_index, slice_index_or, NO_CODE, byte_flow}
use Rattle.drain_paths.specs.declared.flow.Flow.TheVariants.{Void}
use Rattle.drain_paths.proofs.accumulation.lay_codes.Given as goal

abbrev pub invariant-loop-k : goal.invariant-loop-k
invariant-loop-k t l = record {
  len : length l.codes ≡ l.cols + 2;
  first : slice_index l.codes 0 ≡ NO_CODE;
  last : slice_index l.codes (l.cols + 1) ≡ NO_CODE;
  codes : (k : ℕ) → k < l.k → byte_flow (slice_index l.codes (k + 1)) ≡ slice_index_or (t.O.Onward.flows l.onward) (l.start + k) Void;
}
