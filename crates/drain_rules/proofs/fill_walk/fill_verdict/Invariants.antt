use Rattle.drain_rules.proofs.Names.{ℕ, ◌<◌, IsFillRule, fill_rules, parts_grid, parts_products, HoldAlong, CountsAbove}
use Rattle.drain_rules.proofs.fill_walk.fill_verdict.Given as goal

-- the rows that were passed keep the rules and are counted
abbrev pub invariant-loop-row : goal.invariant-loop-row
invariant-loop-row l = record {
  holds : (row : ℕ) → row < l.row → HoldAlong fill_rules IsFillRule (parts_grid l.input) (parts_products l.input) row l.input.shape.rows;
  counted : CountsAbove (parts_grid l.input) (parts_products l.input) l.row l.total;
}
