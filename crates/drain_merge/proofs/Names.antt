-- The names that this crate's proofs cite, passed on from one place. Declares nothing.
pub use Rattle.drain_grid.proofs.Alike.{earlier_differs, earlier_trans}
pub use Rattle.drain_grid.proofs.CellSums.{same_cell_true}
pub use Rattle.drain_grid.proofs.Decisions.{cases, less_number, not_both, not_true, passes, same_number}
pub use Rattle.drain_grid.proofs.Neighbors.{place}
pub use Rattle.drain_grid.proofs.Tallies.{none_some, same_some}
pub use Rattle.drain_grid.specs.CellLists.{is_among}
pub use Rattle.drain_grid.specs.Extent.{Extent, IsCellOf, IsEarlier, same_cell}
pub use Rattle.drain_grid.specs.Grid.{Grid, HasData, IsInside, Products, values_at}
pub use Rattle.drain_grid.specs.GridRules.{IsEarlierPair, IsFirstFault, is_data, is_raised}
pub use Rattle.drain_grid.specs.Rule.{IsAnyRule, IsPatchRule}
pub use Rattle.drain_grid.specs.SinkTexts.{is_listed}
pub use Rattle.drain_grid.specs.Spacing.{Distances, unit_spacing}
pub use Rattle.drain_grid.specs.Unranked.{unranked}
pub use Rattle.drain_grid.specs.Values.{NoDataNumbers}
pub use Rattle.drain_grid.specs.declared.cell.Cell.{Cell}
pub use Rattle.drain_grid.specs.declared.rule.Rule.{Rule}
pub use Rattle.drain_grid.specs.declared.rule.Rule.TheVariants.{SharedLabel}
pub use Rattle.drain_grid.specs.declared.sink_line.SinkLine.{SinkLine}
pub use Rattle.drain_merge.specs.BoxReports.{AreAll, HasRow, IsJoin, IsJoinOver, IsJoinUpTo, IsJoinedVerdict, IsOfBox, IsSeamRefusal, IsSmallestBox, IsSpacingOfRow, SpacesBox, StopsAt, bottom_end, box_at, box_of, box_within, end_at, greatest_by, is_inner_at, least_by, left_of, right_end, spacing_in, top_of, whole_box}
pub use Rattle.drain_merge.specs.Filling.{AreEndsOf, AreLaid, Fill, IsBetweenEnds, IsLaid, IsMoved, ReachAllOver, times, within}
pub use Rattle.drain_merge.specs.MapBoxes.{AreTaken, HasMapSinks, IsEnd, IsMapRefusal, IsMapVerdict, IsWhole, IsWholeJoin}
pub use Rattle.drain_merge.specs.Merges.{FillBox, HaveGrid, HaveNoData, HaveOneSpacing, HaveRowsAlike, IsBoxRefusal, MakeBox}
pub use Rattle.drain_merge.specs.Places.{all_outlets, all_seams, all_sinks, places_of, reports_of}
pub use Rattle.drain_merge.specs.Seams.{AreInOrder, AreInRowOrder, ComesBefore, Differ, IsEarlierFault, IsEarlierOf, IsFirstDifference, IsFirstDiffering, IsFirstOfFaults, IsFirstSharing, IsLeastSharing, IsNoSooner, NoneDiffersBelow, SharesWithEarlier, cell_there, fault_in, union_fault}
pub use Rattle.drain_merge.specs.Totals.{AreCountsOf, AreUnionCounts, capped, data_cells_in, data_cells_of, outlets_in, outlets_of, raised_in, raised_of}
pub use Rattle.drain_merge.specs.Trees.{EachStandsFor, JoinStands, JoinsStandForAll, MergeOfJoins, StandsFor, WindowStands, all_behind}
pub use Rattle.drain_merge.specs.UnionSinks.{HasSinks, TakeSinks}
pub use Rattle.drain_merge.specs.UnionVerdicts.{AreJudgedFrom, IsJudgedFrom, IsRejected, IsTriedWith, IsUnionVerdict, IsVerdictInside, SomeIsRejected, windows_of}
pub use Rattle.drain_merge.specs.Unjudged.{CornersTellBox, IsCornerCol, IsCornerRow, IsFirstCrossing, IsFirstInRow, IsFirstUnjudged, IsJudgedCrossing, IsNewBetween}
pub use Rattle.drain_merge.specs.declared.smallest_box.UnionBox.{UnionBox}
pub use Rattle.drain_merge.specs.declared.smallest_box.Side.TheVariants.{East, North, South, West}
pub use Rattle.drain_merge.specs.declared.totals.UnionSinks.{UnionSinks}
pub use Rattle.drain_rules.specs.Verdicts.{has_outlet_code}
pub use Rattle.drain_union.proofs.ApartPlaces.{IsWithinEdges, apart_in_box, edges_within, meeting, within_edges}
pub use Rattle.drain_union.proofs.FirstFaults.{least_fault_is_first, pair_trans}
pub use Rattle.drain_union.proofs.GroupWindows.{are_windows, corner, from_corner, from_inside, own_shown, own_window}
pub use Rattle.drain_union.proofs.JoinedCounts.{join_adds_up}
pub use Rattle.drain_union.proofs.JoinedFaults.{join_tells_fault}
pub use Rattle.drain_union.proofs.JoinedReports.{join_is_report}
pub use Rattle.drain_union.proofs.JudgedCounts.{counts_add_up, judged_most, listed_same, one_cell, sum_by_map}
pub use Rattle.drain_union.proofs.ReportMerges.{from_map, pairs, to_map}
pub use Rattle.drain_union.proofs.SameValues.{four_pass, four_test, same_four, same_values, values_pass, values_test}
pub use Rattle.drain_union.specs.Joins.{FillPlace, HoldsOuterSeams, IsGroup, IsJoined, IsOuter, LiesInBox, shown_at}
pub use Rattle.drain_union.specs.JudgedCounts.{judged_data, judged_outlets, judged_raised}
pub use Rattle.drain_union.specs.Reports.{Agree, IsReportOf, IsSortedByLabel, ListsOutlets, ListsSinks, OverlapInSeams, Report, ShareNoLabel, SharesAt, ShowTheSame, SpacedAlike, audited, is_accepted, spacing_at}
pub use Rattle.drain_union.specs.Windows.{AreWindowsFrom, AreWindowsOf, BothJudgeOne, IsFirstInside, IsFrom, IsJudgedAt, IsJudgedAtSome, IsJudgedIn, IsJudgedOutlet, IsNotBefore, IsPlaceIn, IsWindowOf, JudgeAll, JudgesSome, RulesHoldInside, Window, cell_from, in_union, judged_bottom, judged_left, judged_right, judged_top, place_from, window_from}
pub use Rattle.drain_union.specs.declared.place.Place.{Place}
pub use Rattle.drain_union.specs.declared.place.TheConstants.{SEAM_DEPTH}
pub use Rattle.drain_union.specs.declared.report.Outlet.{Outlet}
pub use Rattle.drain_union.specs.declared.report.Shown.{Shown}
pub use Rattle.drain_union.specs.declared.report.WindowReport.{WindowReport}
pub use Rattle.drain_union.specs.declared.verdict.Fault.{Fault}
pub use Rattle.drain_union.specs.declared.verdict.UnionVerdict.{UnionVerdict}
pub use Rattle.drain_union.specs.declared.verdict.UnionVerdict.TheVariants.{Accepted, Rejected}
pub use Rattle.std.proofs.Common.{Bool, Global, IfSome, IsTrue, List, None, Option, Some, Vec, [], ap, arith, below_more, drop, false, fold, inl, inr, int_cmp, length, map, max, min, not, pos, refl, rules, slice_get, slice_index, slice_index_or, slice_set, subst, suc, sym, take, true, zero, ℕ, ℤ, ◌&&◌, ◌*◌, ◌++◌, ◌+◌, ◌-◌, ◌<◌, ◌^◌, ◌||◌, ◌↔◌, ◌∙◌, ◌∷◌, ◌≡◌, ◌≢◌, ◌≤ℤ◌, ◌≤◌, ◌⊎◌}
pub use Rattle.std.proofs.lemmas.Bool.{and_parts, cases_Bool, cases_order, false_from_ne_true, false≢true, lt-ltb, or_cases}
pub use Rattle.std.proofs.lemmas.Bool.Decides.{Decides-eqb, nat_tests}
pub use Rattle.std.proofs.lemmas.List.{get_or-map, get_or_default, length-append, length-map, length-take-le, take_all, take_at, take_more}
pub use Rattle.std.proofs.lemmas.List.Edits.{map_over_more}
pub use Rattle.std.proofs.lemmas.List.Elements.{All-contains, All-push, Contains-append_cases, Contains-append_left, Contains-append_right, Contains-get_or, Contains-push, Contains-push_cases}
pub use Rattle.std.proofs.lemmas.List.Sorted.{Contains-permutation, IsNonDecreasingBy-from_all_adjacent, IsPermutation-sym, all_adjacent_more, answers_always, sum_by-IsPermutation}
pub use Rattle.std.proofs.lemmas.List.Sums.{get_or-le-sum_by, sum_by-cons, sum_by-take-le, sum_by_more, sum_by_push}
pub use Rattle.std.proofs.lemmas.Result.{IfOk-weaker, err_from_is_err_and}
pub use Rattle.std.specs.List.{All, AllPairs, AllWithin, Contains, dedup, flat_map, sum_by}
pub use Rattle.std.specs.List.Sorted.{IsNonDecreasing, IsPermutation, IsSorted, IsStrictlyIncreasing}
pub use Rattle.std.specs.Ordering.{ordering_then}
pub use lib.Dec.{ltb}
