use Rattle.drain_grid.specs.Spacing.{spacing_of}
use Rattle.drain_window.proofs.RowLists.{AreFirst}
use Rattle.drain_window.proofs.judged_rows.judged_spacings.Given as goal

abbrev pub invariant-loop-row : goal.invariant-loop-row
invariant-loop-row l = AreFirst (spacing_of l.spacings) l.place l.row l.listed.items
