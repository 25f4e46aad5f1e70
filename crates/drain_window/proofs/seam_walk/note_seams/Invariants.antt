use Rattle.drain_window.proofs.Names.{◌-◌, ◌≤◌, Grid, Products, AddsSeams, OfSeamRow}
use Rattle.drain_window.proofs.seam_walk.note_seams.Given as goal

abbrev pub decreases-loop-col : goal.decreases-loop-col
decreases-loop-col g l = l.end - l.col

-- what is shown at the columns that were passed is listed
abbrev pub invariant-loop-col : goal.invariant-loop-col
invariant-loop-col g l =
    (l.col ≤ l.end)
    × OfSeamRow l.place l.row (g.R.PatchRow.len l.patches) (g.R.PatchRow.shown l.patches)
    (λ (grid : Grid) (ps : Products). AddsSeams l.origin l.place grid ps l.row l.col l.initial.seams.items l.seams.items)
