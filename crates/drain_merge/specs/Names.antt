-- The names of other crates that this crate's definitions and contracts use, passed on from one place. Declares nothing.
pub use Rattle.drain_grid.specs.CellLists.{is_among}
pub use Rattle.drain_grid.specs.Extent.{Extent, IsCellOf, IsEarlier}
pub use Rattle.drain_grid.specs.Grid.{Grid, Products}
pub use Rattle.drain_grid.specs.GridRules.{IsEarlierPair, IsFirstFault, data_count, raised_count}
pub use Rattle.drain_grid.specs.Values.{NoDataNumbers}
pub use Rattle.drain_grid.specs.declared.cell.Cell.{Cell}
pub use Rattle.drain_grid.specs.declared.rule.Rule.TheVariants.{SharedLabel}
pub use Rattle.drain_union.specs.Joins.{IsJoined, IsOuter, LiesInBox, shown_at}
pub use Rattle.drain_union.specs.Reports.{Agree, IsReportOf, IsSortedByLabel, Report, ShareNoLabel, SharesAt, ShowTheSame, SpacedAlike, is_accepted, spacing_at}
pub use Rattle.drain_union.specs.UnionGrids.{CountsOn}
pub use Rattle.drain_union.specs.Windows.{AreWindowsFrom, BothJudgeOne, IsFirstInside, IsFrom, IsJudgedAt, IsJudgedAtSome, IsWindowOf, JudgesSome, RulesHoldInside, Window, cell_from, in_union, judged_bottom, judged_left, judged_right, judged_top, window_from}
pub use Rattle.drain_union.specs.declared.place.Place.{Place}
pub use Rattle.drain_union.specs.declared.place.TheConstants.{SEAM_DEPTH}
pub use Rattle.drain_union.specs.declared.report.Outlet.{Outlet}
pub use Rattle.drain_union.specs.declared.report.Shown.{Shown}
pub use Rattle.drain_union.specs.declared.report.WindowReport.{WindowReport}
pub use Rattle.drain_union.specs.declared.verdict.Fault.{Fault}
pub use Rattle.drain_union.specs.declared.verdict.UnionVerdict.{UnionVerdict}
pub use Rattle.drain_union.specs.declared.verdict.UnionVerdict.TheVariants.{Accepted, Rejected}
pub use Rattle.std.specs.List.{All, AllAdjacentBelow, AllPairs, AllWithin, Contains, HoldsAt, flat_map}
pub use Rattle.std.specs.List.Sorted.{IsNonDecreasing, IsPermutation}
pub use Rattle.std.specs.Prelude.{Bool, Err, IfErr, IfOk, IfSome, IsTrue, List, None, Ok, OnOk, Option, Result, Some, [], codes, cond, decimal, false, fold, length, map, max, min, nat_le, nat_lt, slice_get, slice_index, slice_index_or, take, true, ℕ}
