-- The marks so far.
use Rattle.drain_filled.proofs.Names.{HasDataCells, IsFirstMark, index_of, Grid, IsInside, Cell, length, slice_index_or, ◌<◌, ◌≡◌}
use Rattle.drain_filled.proofs.first_marks.marks_of.Given as goal

abbrev pub invariant-loop-place : goal.invariant-loop-place
invariant-loop-place l = record {
  long : length l.marks.items ≡ l.place;
  marks : (g : Grid) → HasDataCells g l.ground l.sinks → (c : Cell) → IsInside g c → index_of g.extent c < l.place →
      IsFirstMark g c (slice_index_or l.marks.items (index_of g.extent c) 0);
}
