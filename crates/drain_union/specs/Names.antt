-- The names of other crates that this crate's definitions and contracts use, passed on from one place. Declares nothing.
pub use Rattle.drain_grid.specs.Extent.{Extent, IsCellOf}
pub use Rattle.drain_grid.specs.Grid.{Grid, HasData, IsInside, IsOpenCell, Products, patch_at, values_at}
pub use Rattle.drain_grid.specs.GridRules.{HoldsAt, IsEarlierPair, IsFirstFault, data_count, is_data, is_raised, raised_count}
pub use Rattle.drain_grid.specs.Rule.{IsPatchRule}
pub use Rattle.drain_grid.specs.Unranked.{unranked}
pub use Rattle.drain_grid.specs.Values.{AreInRange, AreNoDataInRange, NoDataNumbers, Values}
pub use Rattle.drain_grid.specs.declared.cell.Cell.{Cell}
pub use Rattle.drain_grid.specs.declared.cell.TheConstants.{MAX_LENGTH}
pub use Rattle.drain_grid.specs.declared.rule.Rule.{Rule}
pub use Rattle.drain_header.specs.Header.{IsCoordinate}
pub use Rattle.drain_raster.specs.Placing.{AreWithinPixel}
pub use Rattle.drain_rules.specs.Verdicts.{has_outlet_code, outlet_count}
pub use Rattle.std.specs.List.{AllAdjacentBelow, AllPairs, Contains, count_by, flat_map, range_with_len, sum_by}
pub use Rattle.std.specs.Prelude.{Bool, IfSome, IsSome, IsTrue, List, None, Option, Some, false, length, map, min, nat_abs, pos, slice_index_or, true, ℕ, ℤ}
