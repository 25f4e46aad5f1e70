-- The names that this crate's proofs cite, passed on from one place. Declares nothing.
pub use Rattle.drain_grid.proofs.Tallies.{none_some, same_some}
pub use Rattle.drain_grid.specs.Spacing.{Distances, IsDistance, IsSpacing}
pub use Rattle.drain_grid.specs.Values.{AreInRange, IsNoData, IsPixel, NoDataNumbers, Values}
pub use Rattle.drain_grid.specs.declared.cell.Cell.{Cell}
pub use Rattle.drain_grid.specs.declared.height_kind.HeightKind.{HeightKind}
pub use Rattle.drain_grid.specs.declared.height_kind.HeightKind.TheVariants.{Single, Whole}
pub use Rattle.drain_hgt.specs.Corner.{Corner, IsOnMap}
pub use Rattle.drain_hgt.specs.Name.{MeansName, name_of, spelled}
pub use Rattle.drain_report.specs.Contents.{AllAre, Contents, HeadFits, IsListOf, SpacingsFit, all_text, contents_of, end_line, head_of, head_text, list_text, report_text, spacings_text, version_line}
pub use Rattle.drain_report.specs.Facts.{CountsFit, GridFits, IsAuditNoData, IsNarrow, IsOutlet, IsPart, IsPlace, IsShown, VerdictFits, cell_numbers, count_line, count_numbers, fault_numbers, flag_number, grid_line, height_word, kind_end, nodata_line, nodata_numbers, other_numbers, outlet_line, outlet_numbers, part_line, part_numbers, place_line, place_numbers, seam_text, shown_line, sink_line, spacing_line, spacing_numbers, spacing_text, tile_line, verdict_line}
pub use Rattle.drain_report.specs.Faults.{FaultFits, HasVersion, IsAt, IsEndFault, IsLineFault, IsListFault, IsPast, line_feeds}
pub use Rattle.drain_report.specs.Lines.{AreLong, AreNumbersThen, IsInk, IsLong, IsNumberThen, IsWordThen, line, spaced}
pub use Rattle.drain_report.specs.declared.head.Head.{Head}
pub use Rattle.drain_union.specs.Reports.{Report, is_accepted}
pub use Rattle.drain_union.specs.declared.place.Place.{Place}
pub use Rattle.drain_union.specs.declared.report.Outlet.{Outlet}
pub use Rattle.drain_union.specs.declared.union_grid.UnionGrid.{UnionGrid}
pub use Rattle.drain_union.specs.declared.union_grid.UnionGrid.TheVariants.{Dem, Tiles}
pub use Rattle.drain_union.specs.declared.verdict.UnionVerdict.{UnionVerdict}
pub use Rattle.drain_union.specs.declared.verdict.UnionVerdict.TheVariants.{Accepted, Rejected}
pub use Rattle.memchr.specs.Find.{Nowhere, Passes, is_byte, is_byte2}
pub use Rattle.std.proofs.Common.{Bool, List, [], ap, append-nil, append_assoc, arith, drop, false, get_or, inl, inr, length, length-append, negsuc, of_z, pos, refl, rules, subst, suc, sym, take, to_z, true, zero, ℕ, ℤ, ◌++◌, ◌+◌, ◌-◌, ◌<◌, ◌^◌, ◌↔◌, ◌∙◌, ◌∷◌, ◌≡◌, ◌≤◌, ◌⊎◌}
pub use Rattle.std.proofs.lemmas.Bool.{cases_Bool, eqb-true, false≢true}
pub use Rattle.std.proofs.lemmas.Bool.Decides.{nat_tests}
pub use Rattle.std.proofs.lemmas.Fmt.{IsAscii-signed, decimal_is_IsNumeral, decimal_nonempty, parse-signed_decimal}
pub use Rattle.std.proofs.lemmas.Int.{fits_signed_from_abs, ints, to_z-of_z}
pub use Rattle.std.proofs.lemmas.List.{drop_all, drop_more, length-take, take-append-drop, take_all, take_more, take_more_set, take_rest}
pub use Rattle.std.specs.Fmt.{signed_decimal}
pub use Rattle.std.specs.Int.{w64}
pub use Rattle.std.specs.Prelude.{Err, IfOk, IfSome, IsSome, MatchOption, MatchResult, None, Ok, OnOk, Option, Result, Some, codes, decimal, is_some, not, slice_index, slice_set}
