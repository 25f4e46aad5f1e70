-- The voids so far.
use Rattle.drain_paths.proofs.Names.{◌≡◌, ℕ, ◌<◌, length, slice_index, NO_CODE}
use Rattle.drain_paths.proofs.accumulation.lay_voids.Given as goal

abbrev pub invariant-loop-k : goal.invariant-loop-k
invariant-loop-k l = record {
  len : length l.codes ≡ length l.fn.codes;
  voids : (k : ℕ) → k < l.k → slice_index l.codes k ≡ NO_CODE;
}
