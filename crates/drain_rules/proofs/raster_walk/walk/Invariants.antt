use Rattle.drain_rules.proofs.Names.{◌≡◌, grid_of, products_of, IsRightOfAll}
use Rattle.drain_rules.proofs.raster_walk.walk.Given as goal

-- the rows that were passed were checked, and what was found is right of them
abbrev pub invariant-loop-row : goal.invariant-loop-row
invariant-loop-row l = record {
  counted : l.walk.rows ≡ l.row;
  right : IsRightOfAll l.rules (grid_of l.elevation l.sinks) (products_of l.products) l.walk.rows l.walk.labels l.walk.outcome;
}
