-- The grounds of the rows so far.
use Rattle.drain_flood.proofs.Names.{◌≡◌, ℕ, ◌<◌, ◌*◌, pos, length, slice_index_or, IsGround}
use Rattle.drain_flood.proofs.open_cells.put_rows.Given as goal

abbrev pub invariant-loop-row : goal.invariant-loop-row
invariant-loop-row l = record {
  counted : length l.con ≡ l.elevation.extent.rows * l.elevation.extent.cols;
  each : (place : ℕ) → place < l.row * l.elevation.extent.cols → IsGround l.elevation place (slice_index_or l.con place (pos 0));
}
