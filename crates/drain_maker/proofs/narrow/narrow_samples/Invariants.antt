-- The samples so far.
use Rattle.drain_maker.proofs.Names.{◌≡◌, ◌<◌, ℕ, pos, length, slice_index_or, IsSampleOf}
use Rattle.drain_maker.proofs.narrow.narrow_samples.Given as goal

abbrev pub invariant-loop-place : goal.invariant-loop-place
invariant-loop-place l = record {
  long : length l.samples.items ≡ l.place;
  each : (k : ℕ) → k < l.place → IsSampleOf l.nodata (slice_index_or l.numbers k (pos 0)) (slice_index_or l.samples.items k (pos 0));
}
