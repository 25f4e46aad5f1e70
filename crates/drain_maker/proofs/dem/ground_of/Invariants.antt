-- The marks so far.
use Rattle.drain_maker.proofs.Names.{◌≡◌, ◌<◌, length, slice_index_or, Cell, IsCellOf, index_of, IsMarkedBy}
use Rattle.drain_maker.proofs.dem.ground_of.Given as goal

abbrev pub invariant-loop-place : goal.invariant-loop-place
invariant-loop-place l = record {
  long : length l.marks.items ≡ l.place;
  marks : (c : Cell) → IsCellOf l.dem.extent c → index_of l.dem.extent c < l.place → IsMarkedBy l.dem c (slice_index_or l.marks.items (index_of l.dem.extent c) 0);
}
