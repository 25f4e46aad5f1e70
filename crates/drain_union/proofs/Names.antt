-- The names that this crate's proofs cite, passed on from one place. Declares nothing.
pub use Rattle.drain_grid.proofs.Alike.{cases_earlier, earlier_trans}
pub use Rattle.drain_grid.proofs.CellSums.{same_cell_self, same_cell_true, sum_by_same, sum_by_swap, sum_by_zero}
pub use Rattle.drain_grid.proofs.Decisions.{at_most_number, cases, less_number}
pub use Rattle.drain_grid.proofs.Neighbors.{LiesAt, place, reach, same_place, step_gives, step_lies}
pub use Rattle.drain_grid.proofs.PatchDecisions.{is_cell_of}
pub use Rattle.drain_grid.specs.Extent.{Extent, IsCellOf, IsEarlier, cells, same_cell, step}
pub use Rattle.drain_grid.specs.Grid.{Grid, HasData, IsInside, Products, patch_at, values_at}
pub use Rattle.drain_grid.specs.GridRules.{HoldsAt, IsEarlierPair, RulesHold, SharedLabelHolds, data_count, is_data, is_raised, raised_count}
pub use Rattle.drain_grid.specs.Rule.{IsAnyRule, IsPatchRule, rule_number}
pub use Rattle.drain_grid.specs.Spacing.{Distances, unit_spacing}
pub use Rattle.drain_grid.specs.Unranked.{unranked}
pub use Rattle.drain_grid.specs.Values.{AreNoDataInRange, IsNoData, IsPixel, NoDataNumbers, Values}
pub use Rattle.drain_grid.specs.declared.cell.Cell.{Cell}
pub use Rattle.drain_grid.specs.declared.patch.Patch.{Patch}
pub use Rattle.drain_grid.specs.declared.rule.Rule.{Rule}
pub use Rattle.drain_grid.specs.declared.rule.Rule.TheVariants.{Missing, SharedLabel, VoidCell}
pub use Rattle.drain_union.specs.JoinLaws.{FillByEdges, GroupIsOfWindow, JoinAddsUp, JoinIsReport, JoinTellsFault}
pub use Rattle.drain_union.specs.Joins.{FillPlace, IsGroup, IsJoined, IsOuter, LiesInBox, shown_at}
pub use Rattle.drain_union.specs.Laws.{CornersTellWhole, CorrectByWindows, CountsAddUp, FourNumbers, JudgedApart, LeastFaultIsFirst, MergeIsExact, MergeTellsShared, OpenInWindow, PatchOfWindow, SortedTellsShared, WindowRejects, WindowsMakeUnion}
pub use Rattle.drain_union.specs.Reports.{CanMerge, HoldsAllOf, IsOnSeam, IsReportOf, IsSortedByLabel, ListsOutlets, ListsSeams, ListsSinks, ListsSpacings, NoneBesideShares, OverlapInSeams, Report, ShareNoLabel, ShowTheSame, SpacedAlike, audited, spacing_at}
pub use Rattle.drain_union.specs.SeamValues.{AreOfSeam}
pub use Rattle.drain_union.specs.Windows.{AreLaidIn, AreWindowsFrom, AreWindowsOf, BothJudgeOne, IsCornerCol, IsCornerRow, IsFirstInside, IsFrom, IsJudgedAlong, IsJudgedAt, IsJudgedAtSome, IsJudgedIn, IsJudgedInSome, IsJudgedOutlet, IsNotBefore, IsPlaceIn, IsWindowOf, JudgeAll, JudgesSome, NoLabelIsShared, OverlapsAgree, RulesHoldInside, SpacingsAgree, Window, in_union, judged_bottom, judged_left, judged_right, judged_top, place_from, window_from}
pub use Rattle.drain_union.specs.declared.place.Place.{Place}
pub use Rattle.drain_union.specs.declared.place.TheConstants.{SEAM_DEPTH}
pub use Rattle.drain_union.specs.declared.report.Outlet.{Outlet}
pub use Rattle.std.proofs.Common.{Bool, IsSome, IsTrue, List, None, Option, Some, [], ap, arith, cond, false, if◌then◌else◌, inl, inr, int_lt, is_some, length, map, max, of_z, option_map, pos, refl, slice_get, slice_index_or, subst, suc, sym, to_z, true, unwrap_or, zero, ℕ, ℤ, ◌&&◌, ◌*◌, ◌+◌, ◌-◌, ◌<◌, ◌↔◌, ◌∙◌, ◌∷◌, ◌≡◌, ◌≢◌, ◌≤ℤ◌, ◌≤◌, ◌⊎◌}
pub use Rattle.std.proofs.lemmas.Bool.{and_from, and_parts, cases_eq, cases_order, false_from_ne_true, false≢true, or_cases}
pub use Rattle.std.proofs.lemmas.Int.{ints, to_z-of_z}
pub use Rattle.std.proofs.lemmas.List.{get_or-map, get_or_default, length-map}
pub use Rattle.std.specs.Int.{w64}
pub use Rattle.std.specs.List.{AllPairs, Contains, count_by, flat_map, range_with_len, sum_by}
pub use Rattle.std.specs.Ordering.{int_eq}
