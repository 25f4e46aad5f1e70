use Rattle.drain_merge.proofs.Names.{AllWithin, HasRow}
use Rattle.drain_merge.proofs.joined_spacings.spacing_of_row.Given as goal

-- none of the windows before has the row
abbrev pub invariant-loop-window : goal.invariant-loop-window
invariant-loop-window l = AllWithin (λ w. ¬ HasRow w l.row) l.windows 0 l.window-index
