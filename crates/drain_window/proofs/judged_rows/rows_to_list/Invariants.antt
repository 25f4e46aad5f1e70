use Rattle.drain_grid.specs.Spacing.{spacing_of}
use Rattle.drain_window.proofs.RowLists.{AreListedSoFar}
use Rattle.drain_window.proofs.judged_rows.rows_to_list.Given as goal

abbrev pub invariant-loop-row : goal.invariant-loop-row
invariant-loop-row l = AreListedSoFar (spacing_of l.spacings) l.place l.row l.rows l.last
