-- The names of other crates that this crate's definitions and contracts use, passed on from one place. Declares nothing.
pub use Rattle.drain_grid.specs.Direction.{code_of, cols_right, directions, opposite, order_of, rows_down}
pub use Rattle.drain_grid.specs.Extent.{Extent, IsCellOf, index_of, step}
pub use Rattle.drain_grid.specs.Grid.{Grid, HasData, Heights, IsInside, IsOpenCell, IsSample, Products, height_at, no_sink, patch_at}
pub use Rattle.drain_grid.specs.Path.{CoversGround, Drains, IsFilled, IsPath, NeverRises, Surface}
pub use Rattle.drain_grid.specs.Spacing.{Distances, spacing_of, unit_spacing, weight_of}
pub use Rattle.drain_grid.specs.Values.{IsPixel}
pub use Rattle.drain_grid.specs.WholeGrid.{elevation_at, spaced_grid}
pub use Rattle.drain_grid.specs.declared.cell.Cell.{Cell}
pub use Rattle.drain_grid.specs.declared.direction.Direction.{Direction}
pub use Rattle.drain_grid.specs.declared.direction.Direction.TheVariants.{East}
pub use Rattle.std.specs.Int.{int_max}
pub use Rattle.std.specs.List.{AllByRecursion}
pub use Rattle.std.specs.List.Sorted.{IsPermutation}
pub use Rattle.std.specs.Prelude.{Bool, Contains, IfOk, IfSome, IsNone, IsTrue, List, MatchOption, None, OnOk, Option, Some, [], count_by, false, get_or, length, map, min, nat_lt, pos, slice_index, slice_index_or, suc, true, zero, ℕ, ℤ}
