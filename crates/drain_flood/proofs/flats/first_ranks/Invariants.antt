-- The ranks of the cells so far.
use Rattle.drain_flood.proofs.Names.{◌≡◌, ℕ, ◌<◌, length, slice_index_or, first_rank}
use Rattle.drain_flood.proofs.flats.first_ranks.Given as goal

abbrev pub invariant-loop-place : goal.invariant-loop-place
invariant-loop-place l = record {
  counted : length l.ranks.items ≡ l.place;
  ranks : (i : ℕ) → i < l.place → slice_index_or l.ranks.items i 0 ≡ first_rank (slice_index_or l.way i 0);
}
