use Rattle.drain_rules.proofs.Names.{◌≡◌, ◌-◌, ◌≤◌, min, Grid, Products, tried, OfAreaRow, IsTriedIf, IsAtMost, place}
use Rattle.drain_rules.proofs.PassedCells.{IsPassed}
use Rattle.drain_rules.proofs.walk.check_row.Given as goal

-- the cells that were passed keep the rules, are counted, and their outlets are kept
abbrev pub invariant-loop-col : goal.invariant-loop-col
invariant-loop-col g l = record {
  past : min (g.L.Labels.judges l.fn.labels).left l.end ≤ l.col;
  within : l.col ≤ l.end;
  passed : OfAreaRow l.row (g.R.PatchRow.len l.patches) (g.R.PatchRow.shown l.patches) (λ (grid : Grid) (ps : Products). g.L.Labels.are_before grid ps (place l.row 0) l.fn.labels)
      (λ (grid : Grid) (ps : Products). IsPassed (tried l.rules) (IsTriedIf g.L.Labels.compares l.rules.judged) grid ps l.row (min (g.L.Labels.judges l.fn.labels).left l.end) l.col l.tally
      × g.L.Labels.are_before grid ps (place l.row l.col) l.labels);
  judges : g.L.Labels.judges l.labels ≡ g.L.Labels.judges l.fn.labels;
  bounds : IsAtMost l.col l.tally;
}

abbrev pub decreases-loop-col : goal.decreases-loop-col
decreases-loop-col g l = l.end - l.col
