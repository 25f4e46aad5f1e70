-- The names of other crates that this crate's definitions and contracts use, passed on from one place. Declares nothing.
pub use Rattle.drain_basin.specs.Admitted.{IsAdmitted, LabelSet}
pub use Rattle.drain_fill.specs.Below.{AreRowHeights, IsBelowAt}
pub use Rattle.drain_grid.specs.Direction.{IsCode, Names, cols_right, order_of, rows_down}
pub use Rattle.drain_grid.specs.Extent.{Extent, IsCellOf, IsEarlier, cells, index_of, row_cells}
pub use Rattle.drain_grid.specs.Grid.{Grid, HasData, IsInside, IsSide, Products, height_from, no_sink, patch_at, set_number_in, values_at}
pub use Rattle.drain_grid.specs.GridRules.{HoldsAt, IsEarlierPair, IsFirstFault, RulesHold, SharedLabelHolds, data_count, is_data, is_raised, raised_count}
pub use Rattle.drain_grid.specs.Judged.{IfJudged, has_rnk}
pub use Rattle.drain_grid.specs.PatchRules.{BelowGroundHolds, Profile, check_rules, fill_rules, surface_rules}
pub use Rattle.drain_grid.specs.PerProduct.{of_product, per_product}
pub use Rattle.drain_grid.specs.Rule.{IsAnyRule, IsBetween, IsFillRule, IsLeastFault, IsOnly, IsPatchRule, IsPresenceRule, rule_number}
pub use Rattle.drain_grid.specs.RulesAbout.{IsBlankPart, IsCompletePart, IsTried, part_rules, tried}
pub use Rattle.drain_grid.specs.Spacing.{Distances, unit_spacing}
pub use Rattle.drain_grid.specs.Values.{IsPixel, NoDataNumbers, Values}
pub use Rattle.drain_grid.specs.declared.cell.Cell.{Cell}
pub use Rattle.drain_grid.specs.declared.cell.TheConstants.{MAX_LENGTH}
pub use Rattle.drain_grid.specs.declared.judged.Rules.{Rules}
pub use Rattle.drain_grid.specs.declared.patch.Patch.{Patch}
pub use Rattle.drain_grid.specs.declared.rule.Rule.{Rule}
pub use Rattle.drain_grid.specs.declared.verdict.Verdict.{Verdict}
pub use Rattle.drain_kernel.specs.Columns.{AreLanesOf, IsKept}
pub use Rattle.std.specs.Int.{cast_signed, int_max, w16}
pub use Rattle.std.specs.List.{All, count_by, flat_map, range_with_len}
pub use Rattle.std.specs.Ordering.{int_eq}
pub use Rattle.std.specs.Prelude.{Bool, Err, FitsSigned, IfErr, IfOk, IfSome, IsNone, IsSome, IsTrue, List, None, Ok, OnErr, OnOk, Option, Result, Some, [], drop, false, int_lt, is_some, length, map, min, nat_lt, neg_ℤ, option_copied, pos, refl, slice_index_or, slice_range, suc, true, unwrap_or, zero, ℕ, ℤ}
