-- The names of other crates that this crate's definitions and contracts use, passed on from one place. Declares nothing.
pub use Rattle.drain_grid.specs.Extent.{IsEarlier}
pub use Rattle.drain_grid.specs.Grid.{Grid, HasData, IsInside, IsSide, Products, values_at}
pub use Rattle.drain_grid.specs.Rule.{IsPatchRule}
pub use Rattle.drain_grid.specs.Spacing.{Distances, spacing_of, unit_spacing}
pub use Rattle.drain_grid.specs.Unranked.{unranked}
pub use Rattle.drain_grid.specs.Values.{NoDataNumbers, Values}
pub use Rattle.drain_grid.specs.declared.cell.Cell.{Cell}
pub use Rattle.drain_grid.specs.declared.cell.TheConstants.{MAX_LENGTH}
pub use Rattle.drain_grid.specs.declared.judged.Rules.{Rules}
pub use Rattle.drain_header.specs.Header.{Fields, IsCoordinate}
pub use Rattle.drain_hgt.specs.Corner.{Corner}
pub use Rattle.drain_hgt.specs.Inputs.{names_of}
pub use Rattle.drain_hgt.specs.Name.{IsNameOf}
pub use Rattle.drain_hgt.specs.declared.name.TheConstants.{HALF_TURN, POLE}
pub use Rattle.drain_mosaic.specs.Tiling.{Tiling, north_of, west_of}
pub use Rattle.drain_rules.specs.Areas.{CountsAmong, HasCell, IsAreaOutcome, IsOutletCell}
pub use Rattle.drain_rules.specs.Labels.{IsOutletByCode}
pub use Rattle.drain_rules.specs.Rows.{AreRowPatches, place}
pub use Rattle.drain_rules.specs.declared.walk.Area.{Area}
pub use Rattle.drain_union.specs.Reports.{Agree, IsOnSeam, IsReportOf, IsSortedByLabel, ListsSeams, ListsSinks, ListsSpacings, Report, audited, spacing_at}
pub use Rattle.drain_union.specs.UnionGrids.{value_of}
pub use Rattle.drain_union.specs.Windows.{IsFirstInside, IsJudgedAt, IsJudgedOutlet, IsOrigin, IsPlaceIn, RulesHoldInside, Window, in_union, moved, window_at}
pub use Rattle.drain_union.specs.declared.place.Place.{Place}
pub use Rattle.drain_union.specs.declared.place.TheConstants.{SEAM_DEPTH}
pub use Rattle.drain_union.specs.declared.report.Outlet.{Outlet}
pub use Rattle.drain_union.specs.declared.report.Shown.{Shown}
pub use Rattle.drain_union.specs.declared.report.WindowReport.{WindowReport}
pub use Rattle.drain_union.specs.declared.union_grid.UnionGrid.{UnionGrid}
pub use Rattle.drain_verdict.specs.DemGround.{IsDemInput}
pub use Rattle.drain_verdict.specs.GroundSets.{ForSet, GroundSet, IsReadable, IsRefusalIn, set_grid, set_numbers, set_products}
pub use Rattle.drain_verdict.specs.Inputs.{as_five}
pub use Rattle.drain_verdict.specs.Uses.{UsesSet, set_devices}
pub use Rattle.std.specs.List.{AllZip, Contains, flat_map, range_with_len}
pub use Rattle.std.specs.Prelude.{Bool, Err, IfOk, IfSome, IsTrue, List, Ok, OnErr, OnOk, Result, Some, [], codes, length, map, nat_abs, neg_ℤ, pos, slice_get, suc, zero, ℕ}
