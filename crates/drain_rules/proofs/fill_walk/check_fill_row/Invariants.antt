use Rattle.drain_rules.proofs.Names.{◌≤◌, ◌+◌, ◌≡◌, ℕ, IsTrue, IsFillRule, fill_rules, HasDataAcross, parts_grid, parts_products, HoldAlong, CountsAlong}
use Rattle.drain_rules.proofs.fill_walk.check_fill_row.Given as goal

-- the cells that were passed keep the rules and are counted, and it is known of this column and the one before it where they have data
abbrev pub invariant-loop-col : goal.invariant-loop-col
invariant-loop-col l = record {
  holds : HoldAlong fill_rules IsFillRule (parts_grid l.input) (parts_products l.input) l.row l.col;
  counted : CountsAlong (parts_grid l.input) (parts_products l.input) l.row l.col l.tally;
  data_bound : l.tally.data_cells ≤ l.col;
  raised_bound : l.tally.raised ≤ l.tally.data_cells;
  outlets_bound : l.tally.outlets ≤ l.tally.data_cells;
  west_data : IsTrue l.west → (before : ℕ) × (before + 1 ≡ l.col) × HasDataAcross (parts_grid l.input) l.row before;
  here_data : IsTrue l.here → HasDataAcross (parts_grid l.input) l.row l.col;
}
