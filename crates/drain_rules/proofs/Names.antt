-- The names that this crate's proofs cite, passed on from one place. Declares nothing.
pub use Rattle.drain_basin.specs.Admitted.{IsAdmitted, LabelSet}
pub use Rattle.drain_fill.specs.Below.{AreRowHeights, IsBelowAt}
pub use Rattle.drain_grid.proofs.AllRules.{IsAfter, IsFrom, found_first, found_next, holds_alone, numbered}
pub use Rattle.drain_grid.proofs.Neighbors.{of_each, reach, step_gives, step_lies}
pub use Rattle.drain_grid.proofs.Tallies.{void_data}
pub use Rattle.drain_grid.specs.Direction.{Names, cols_right, directions, rows_down}
pub use Rattle.drain_grid.specs.Extent.{Extent, IsCellOf, IsEarlier, cells, index_of, row_cells, step}
pub use Rattle.drain_grid.specs.Grid.{Grid, HasData, IsInside, Products, height_from, patch_at, values_at}
pub use Rattle.drain_grid.specs.GridRules.{HoldsAt, IsEarlierPair, IsFirstFault, RulesHold, SharedLabelHolds, is_data, is_raised}
pub use Rattle.drain_grid.specs.Judged.{IfJudged, has_acc, has_bas, has_dir, has_rnk}
pub use Rattle.drain_grid.specs.PatchRules.{Profile, check_rules, fill_rules, flow_rules, surface_rules}
pub use Rattle.drain_grid.specs.PerProduct.{of_product, per_product}
pub use Rattle.drain_grid.specs.Rule.{IsAnyRule, IsFillRule, IsFlowRule, IsLeastFault, IsPatchRule, IsPresenceRule, rule_number}
pub use Rattle.drain_grid.specs.RulesAbout.{IsBlankPart, IsPartRule, IsTried, part_rules, rules_about, tried}
pub use Rattle.drain_grid.specs.Values.{IsBlankWithoutSpill, IsPixel, NoDataNumbers, Values}
pub use Rattle.drain_grid.specs.WholeGrid.{grid_of, products_of}
pub use Rattle.drain_grid.specs.declared.cell.Cell.{Cell}
pub use Rattle.drain_grid.specs.declared.cell.TheConstants.{MAX_LENGTH}
pub use Rattle.drain_grid.specs.declared.direction.Direction.{Direction}
pub use Rattle.drain_grid.specs.declared.direction.Direction.TheVariants.{East, North, NorthEast, NorthWest, South, SouthEast, SouthWest, West}
pub use Rattle.drain_grid.specs.declared.judged.Judged.{Judged}
pub use Rattle.drain_grid.specs.declared.judged.Judged.TheVariants.{AllWithRanks, ConDir, ConDirAcc, ConDirBas}
pub use Rattle.drain_grid.specs.declared.judged.Rules.{Rules}
pub use Rattle.drain_grid.specs.declared.patch.Patch.{Patch}
pub use Rattle.drain_grid.specs.declared.rule.Rule.{Rule}
pub use Rattle.drain_grid.specs.declared.rule.Rule.TheVariants.{Accumulation, BadCode, BelowGround, FlatStep, Label, Missing, NoSpill, NotLeast, OpenRaised, OutletCode, SharedLabel, Slope, SpillHeight, SpillRank, VoidCell}
pub use Rattle.drain_grid.specs.declared.set_product.SetProduct.TheVariants.{Acc, Bas, Dir, Rnk}
pub use Rattle.drain_kernel.specs.Columns.{AreLanesOf, IsKept, raised_lanes}
pub use Rattle.drain_kernel.specs.Rules.{rules_with}
pub use Rattle.drain_rules.specs.Areas.{AreSound, CountsAmong, HasCell, HasRow, HoldBetween, IsAbove, IsAreaOutcome, IsAreaTally, IsCellStop, IsColumn, IsFaultBetween, IsFirstAmong, IsNewLabelBetween, IsNewLabelHere, IsOutletCell, IsStopAmong, OfAreaRow, cells_between, cells_in_above, everywhere, row_cells_in}
pub use Rattle.drain_rules.specs.Compared.{IfCompared, IsTriedIf, with_labels}
pub use Rattle.drain_rules.specs.Fill.{IsBlankVoid, IsFillVerdict, IsRightVoid, con_at, fill_grid, fill_products, rnk_at, sample_at, spl_at, square}
pub use Rattle.drain_rules.specs.Labels.{AreLabelsBefore, HasNewLabel, IsLabelOf, IsOutletByCode, labelled_profile}
pub use Rattle.drain_rules.specs.Laws.{AreEqual, EqualGridsHaveOneVerdict, labels-more, labels-shared}
pub use Rattle.drain_rules.specs.Places.{HasDataAcross, HasPlacesRound, IsInland, IsNoneLower, place_beside}
pub use Rattle.drain_rules.specs.Rows.{AreRowPatches, CountsAlong, HoldAlong, IsAtMost, IsNoRow, IsRowFault, IsRowOf, MarkedRow, beside, grounds, place, raised_between, shows_raised, values_in, west_neighbor}
pub use Rattle.drain_rules.specs.ThreeRows.{AreRowsAround, ThreeRowsShowPatches, patch_in}
pub use Rattle.drain_rules.specs.Verdicts.{IsVerdict, IsVerdictOf, counts_of, has_outlet_code, parts_grid, parts_products}
pub use Rattle.drain_rules.specs.Walks.{CountsAbove, IsRightOfAll, cells_above}
pub use Rattle.drain_rules.specs.declared.row_view.Kept.{Kept}
pub use Rattle.drain_rules.specs.declared.three_rows.ThreeRows.{ThreeRows}
pub use Rattle.drain_rules.specs.declared.walk.Area.{Area}
pub use Rattle.drain_rules.specs.declared.walk.Tally.{Tally}
pub use Rattle.std.proofs.Common.{Bool, Err, FitsSigned, IsNone, IsSome, IsTrue, List, None, Ok, Option, Result, Some, [], add-one, ap, arith, below_more, cond, drop, false, get_or, get_or-drop, get_or-take, inl, inr, int_lt, is_some, length, map, min, neg_ℤ, not, of_z, pos, refl, rules, slice_index_or, slice_range, subst, suc, sym, to_z, true, unwrap_or, w16, w64, zero, ℕ, ℤ, ◌*◌, ◌++◌, ◌+◌, ◌-◌, ◌<ℤ◌, ◌<◌, ◌^◌, ◌∙◌, ◌∷◌, ◌≡◌, ◌≢◌, ◌≤ℤ◌, ◌≤◌}
pub use Rattle.std.proofs.Math.Nat.{mul-le-mul_right}
pub use Rattle.std.proofs.lemmas.Bool.{cases_lt, cases_order, false≢true, le-ltb, lt-ltb}
pub use Rattle.std.proofs.lemmas.Int.{clamps, ints, to_z-of_z}
pub use Rattle.std.proofs.lemmas.List.{ext_get_or, flat_map_more, get_or-map, length-drop, length-map, length-take}
pub use Rattle.std.proofs.lemmas.List.FromFn.{length-map-range_with_len, sum_by-map-range_with_len_more}
pub use Rattle.std.proofs.lemmas.List.Sums.{count_by-le-length, sum_by-append, sum_by-cons}
pub use Rattle.std.specs.List.{count_by, flat_map, range_with_len}
pub use Rattle.std.specs.Prelude.{IfOk, IsOk, OnErr, OnOk, nat_lt}
