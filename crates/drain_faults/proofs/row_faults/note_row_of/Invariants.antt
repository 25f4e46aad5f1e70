use Rattle.drain_faults.proofs.Names.{◌-◌, ◌≤◌, Grid, Products, IsAtMost, CountsAlong, IsMapOfCells, OfRowDrawn, IsFoundBefore, OfRowFound, OfRowPatches, cells_before}
use Rattle.std.proofs.Common.{◌↔◌}
use Rattle.std.specs.Prelude.{IsSome}
use Rattle.drain_faults.proofs.row_faults.note_row_of.Given as goal

-- what was found, the map and the counts are right of the cells that were passed
abbrev pub invariant-loop-col : goal.invariant-loop-col
invariant-loop-col g l = record {
  within : l.col ≤ g.R.PatchRow.len l.patches;
  found : OfRowFound l.rules l.row (g.R.PatchRow.len l.patches) (g.R.PatchRow.shown l.patches) l.fn.found
      (λ (grid : Grid) (ps : Products). IsFoundBefore l.rules grid ps l.row l.col l.found);
  map : OfRowDrawn l.rules l.row (g.R.PatchRow.len l.patches) (g.R.PatchRow.shown l.patches) l.fn.found l.fn.map
      (λ (grid : Grid) (ps : Products). IsMapOfCells l.rules grid ps (cells_before grid l.row l.col) l.map);
  counted : OfRowPatches l.row (g.R.PatchRow.len l.patches) (g.R.PatchRow.shown l.patches) (λ (grid : Grid) (ps : Products). CountsAlong grid ps l.row l.col l.tally);
  bounds : IsAtMost l.col l.tally;
  drawn : IsSome l.map ↔ IsSome l.fn.map;
}

abbrev pub decreases-loop-col : goal.decreases-loop-col
decreases-loop-col g l = g.R.PatchRow.len l.patches - l.col
