-- The numbers so far.
use Rattle.drain_maker.proofs.Names.{◌≡◌, ◌<◌, pos, length, slice_index_or, Cell, IsCellOf, index_of, IsHeightAt}
use Rattle.drain_maker.proofs.dem.heights_of.Given as goal

abbrev pub invariant-loop-place : goal.invariant-loop-place
invariant-loop-place l = record {
  long : length l.heights.items ≡ l.place;
  heights : (c : Cell) → IsCellOf l.dem.extent c → index_of l.dem.extent c < l.place → IsHeightAt l.dem c (slice_index_or l.heights.items (index_of l.dem.extent c) (pos 0));
}
