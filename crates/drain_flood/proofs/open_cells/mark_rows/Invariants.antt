-- The marks of the rows so far.
use Rattle.drain_flood.proofs.Names.{◌≡◌, ◌+◌, ◌*◌, ℕ, length, Distances, spaced_grid, AreDataMarks, AreFirstMarks}
use Rattle.drain_flood.proofs.open_cells.mark_rows.Given as goal

abbrev pub invariant-loop-row : goal.invariant-loop-row
invariant-loop-row l = record {
  counted : length l.marks ≡ l.elevation.extent.rows * l.elevation.extent.cols;
  listed : length l.listed ≡ l.elevation.extent.cols;
  above : AreDataMarks l.elevation l.row l.rows.here.items;
  here : AreDataMarks l.elevation (l.row + 1) l.rows.below.items;
  room : length l.rows.above.items ≡ l.elevation.extent.cols + 2;
  marks : (spacing : ℕ → Distances) → AreFirstMarks (spaced_grid spacing l.elevation l.sinks) l.row l.marks;
}
