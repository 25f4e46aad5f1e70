-- The names of other crates that this crate's definitions and contracts use, passed on from one place. Declares nothing.
pub use Rattle.drain_grid.specs.Correct.{IsBlankAt, IsCorrect}
pub use Rattle.drain_grid.specs.Grid.{Grid, HasData, IsInside, IsOpenCell, Products}
pub use Rattle.drain_grid.specs.GridRules.{HoldsAt, IsFirstFault, RulesHold, data_count, is_data, raised_count}
pub use Rattle.drain_grid.specs.Run.{RunEnds, ShareBasin, run, upstream_count}
pub use Rattle.drain_grid.specs.Values.{NoDataNumbers}
pub use Rattle.drain_grid.specs.declared.cell.Cell.{Cell}
pub use Rattle.std.specs.Prelude.{Bool, IsNone, ℕ}
