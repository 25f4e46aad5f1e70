-- The names of other crates that this crate's definitions and contracts use, passed on from one place. Declares nothing.
pub use Rattle.drain_grid.specs.HeightKinds.{magnitude_of, single_height}
pub use Rattle.drain_grid.specs.Judged.{IfJudged, has_acc, has_dir, has_rnk}
pub use Rattle.drain_grid.specs.PatchRules.{Profile, check_rules}
pub use Rattle.drain_grid.specs.PerProduct.{of_product, per_product}
pub use Rattle.drain_grid.specs.Rule.{IsLeastFault, IsPatchRule}
pub use Rattle.drain_grid.specs.RulesAbout.{tried}
pub use Rattle.drain_grid.specs.Spacing.{Distances, IsSpacing, col_square, corner_square, row_square, weight_of}
pub use Rattle.drain_grid.specs.Values.{NoDataNumbers, Values}
pub use Rattle.drain_grid.specs.declared.direction.Direction.{Direction}
pub use Rattle.drain_grid.specs.declared.direction.Direction.TheVariants.{East, North, NorthEast, NorthWest, South, SouthEast, SouthWest, West}
pub use Rattle.drain_grid.specs.declared.judged.Rules.{Rules}
pub use Rattle.drain_grid.specs.declared.patch.Patch.{Patch}
pub use Rattle.drain_grid.specs.declared.per_product.PerProduct.{PerProduct}
pub use Rattle.drain_grid.specs.declared.set_product.SetProduct.{SetProduct}
pub use Rattle.drain_pixels.specs.Lanes.{AreCapped, AreElevationLanes, AreHeightLanes, AreLanes, AreLower, AreUpper}
pub use Rattle.drain_slope.specs.Fractions.{IsBelow}
pub use Rattle.drain_slope.specs.Singles.{IsNumber}
pub use Rattle.std.specs.List.{count_by, range_with_len}
pub use Rattle.std.specs.Prelude.{Bool, IfSome, IsSome, IsTrue, List, None, Option, Some, [], cond, false, int_lt, length, map, max, min, nat_le, nat_lt, neg_ℤ, not, pos, slice_index, slice_index_or, true, unwrap_or, vec_len, ℕ, ℤ}
