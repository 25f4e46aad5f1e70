-- The names that this crate's proofs cite, passed on from one place. Declares nothing.
pub use Rattle.drain_answer.specs.declared.refusal.Refusal.TheVariants.{BoxTooLarge, OutOfMemory, ReadFailed}
pub use Rattle.drain_grid.proofs.Neighbors.{same_place}
pub use Rattle.drain_grid.specs.Extent.{Extent, IsCellOf, IsEarlier, IsExtent}
pub use Rattle.drain_grid.specs.Grid.{Grid, Products}
pub use Rattle.drain_grid.specs.GridRules.{HoldsAt, IsEarlierPair, is_data, is_raised}
pub use Rattle.drain_grid.specs.Rule.{IsPatchRule}
pub use Rattle.drain_grid.specs.SinkTexts.{is_listed, sinks_of}
pub use Rattle.drain_grid.specs.Spacing.{Distances, spacing_of, unit_spacing}
pub use Rattle.drain_grid.specs.Unranked.{unranked}
pub use Rattle.drain_grid.specs.Values.{NoDataNumbers}
pub use Rattle.drain_grid.specs.declared.cell.Cell.{Cell}
pub use Rattle.drain_grid.specs.declared.rule.Rule.{Rule}
pub use Rattle.drain_hgt.specs.Inputs.{names_of}
pub use Rattle.drain_hgt.specs.Name.{IsNameOf}
pub use Rattle.drain_rules.specs.Areas.{CountsAmong, HasCell, IsAbove, IsAreaOutcome, IsFirstAmong}
pub use Rattle.drain_rules.specs.Rows.{AreRowPatches}
pub use Rattle.drain_rules.specs.declared.walk.RowOutcome.TheVariants.{Faulty, Sound}
pub use Rattle.drain_rules.specs.declared.walk.Tally.{Tally}
pub use Rattle.drain_union.specs.Reports.{IsOnSeam, IsReportOf, IsSortedByLabel, ListsOutlets, ListsSeams, ListsSinks, ListsSpacings, audited}
pub use Rattle.drain_union.specs.Windows.{IsFirstInside, IsJudgedAt, IsJudgedIn, IsJudgedOutlet, IsPlaceIn, IsWindowOf, RulesHoldInside, Window, cut_grid, cut_products, in_union, moved, window_at}
pub use Rattle.drain_union.specs.declared.place.Place.{Place}
pub use Rattle.drain_union.specs.declared.place.TheConstants.{SEAM_DEPTH}
pub use Rattle.drain_union.specs.declared.report.Outlet.{Outlet}
pub use Rattle.drain_union.specs.declared.report.Shown.{Shown}
pub use Rattle.drain_union.specs.declared.report.WindowReport.{WindowReport}
pub use Rattle.drain_union.specs.declared.union_grid.UnionGrid.{UnionGrid}
pub use Rattle.drain_union.specs.declared.verdict.UnionVerdict.{UnionVerdict}
pub use Rattle.drain_verdict.proofs.InputLemmas.{no_memory_left, set_uses_none}
pub use Rattle.drain_verdict.specs.GroundSets.{ForSet, GroundSet, set_grid, set_numbers, set_products}
pub use Rattle.drain_verdict.specs.Inputs.{as_five}
pub use Rattle.drain_verdict.specs.Texts.{lines_in}
pub use Rattle.drain_verdict.specs.Uses.{UsesSet, set_devices}
pub use Rattle.drain_window.specs.JudgedAreas.{AreLinesInside, AreListed, IsBefore, IsOutletAt, cells_in, judged_area, ring_of, row_cells_of, union_cell}
pub use Rattle.drain_window.specs.JudgedRows.{AreAlikeTo, AreRowsOf, IsEnough, last_spacing}
pub use Rattle.drain_window.specs.Laws.{IsOfWindow, ListsJudged, WalkJudgesWindow, WalkListsSeams}
pub use Rattle.drain_window.specs.SeamRows.{AddsSeams, IsSeamAbove, IsSeamBefore, IsShownAt, ListsSeamsAbove, OfSeamRow}
pub use Rattle.drain_window.specs.WindowAnswers.{IfRejected, IsJudgedVerdict, IsPlacedAnswer, IsWindowIn, as_refused, origin_of, window_in}
pub use Rattle.drain_window.specs.declared.answered.WindowRefusal.{WindowRefusal}
pub use Rattle.drain_window.specs.WindowLines.{map_origin}
pub use Rattle.std.proofs.Common.{Bool, Err, IfOk, IsErrOf, IsTrue, List, Ok, Option, Result, Some, [], ap, arith, below_more, cond, false, inl, inr, length, length-append, map, min, refl, rules, slice_get, slice_index_or, subst, suc, sym, take, true, zero, ℕ, ◌++◌, ◌+◌, ◌-◌, ◌<◌, ◌∙◌, ◌∷◌, ◌≡◌, ◌≤◌, ◌⊎◌}
pub use Rattle.std.proofs.lemmas.Bool.{cases_lt, false≢true}
pub use Rattle.std.proofs.lemmas.List.{get_or-append-add, get_or_append_left, take_more}
pub use Rattle.std.proofs.lemmas.List.Elements.{Contains-append_cases, Contains-append_left, Contains-append_right, Contains-push, Contains-push_cases}
pub use Rattle.std.proofs.lemmas.Result.{IfOk-weaker, err_from_is_err_and, on_ok_weaker}
pub use Rattle.std.specs.List.{AllZip, Contains, flat_map, range_with_len, sum_by}
