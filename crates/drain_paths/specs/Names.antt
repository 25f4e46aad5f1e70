-- The names of other crates that this crate's definitions and contracts use, passed on from one place. Declares nothing.
pub use Rattle.drain_grid.specs.Direction.{IsCode, Names, code_of, cols_right, named_direction, rows_down}
pub use Rattle.drain_grid.specs.Extent.{Extent, IsCellOf, cells, index_of, step}
pub use Rattle.drain_grid.specs.Grid.{Grid, HasData, Heights, IsInside, Pixels, Products}
pub use Rattle.drain_grid.specs.Run.{IsFlatCell, IsOutlet, RunEnds, ShareBasin, next, run_end, upstream_count}
pub use Rattle.drain_grid.specs.Unranked.{IsFirstEndless, run_steps}
pub use Rattle.drain_grid.specs.Values.{IsPixel, NoDataNumbers}
pub use Rattle.drain_grid.specs.WholeGrid.{elevation_at, grid_of, number_at}
pub use Rattle.drain_grid.specs.declared.cell.Cell.{Cell}
pub use Rattle.drain_grid.specs.declared.cell.TheConstants.{MAX_LENGTH}
pub use Rattle.drain_grid.specs.declared.direction.Direction.{Direction}
pub use Rattle.drain_grid.specs.declared.direction.Direction.TheVariants.{East, North, NorthEast, NorthWest, South, SouthEast, SouthWest, West}
pub use Rattle.std.specs.Ordering.{int_eq}
pub use Rattle.std.specs.Prelude.{All, Bool, IfErr, IfOk, IfSome, IsNone, IsSome, IsTrue, List, MatchOption, None, OnErr, OnOk, Option, Some, [], cond, false, is_some, length, map, min, nat_eq, nat_lt, option_and_then, pos, slice_get, slice_index, slice_index_or, slice_set, suc, true, vec_len, zero, ℕ, ℤ}
