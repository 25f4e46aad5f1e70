-- The names of other crates that this crate's definitions and contracts use, passed on from one place. Declares nothing.
pub use Rattle.drain_answer.specs.AuditLines.{audit_report_line, no_end_line}
pub use Rattle.drain_answer.specs.Lines.{report_line}
pub use Rattle.drain_answer.specs.OutcomeLines.{outcome_report_line}
pub use Rattle.drain_answer.specs.Outcomes.{failure_text}
pub use Rattle.drain_answer.specs.Printing.{Prints, PrintsText}
pub use Rattle.drain_answer.specs.Statuses.{refusal_status, status_code}
pub use Rattle.drain_answer.specs.declared.outcome.AuditVerdict.{AuditVerdict}
pub use Rattle.drain_answer.specs.declared.outcome.Outcome.{Outcome}
pub use Rattle.drain_answer.specs.declared.outcome.Status.TheVariants.{Done, Failed}
pub use Rattle.drain_answer.specs.declared.outcome.Status.{Status}
pub use Rattle.drain_answer.specs.declared.refusal.Refusal.TheVariants.{BadHeader, Misplaced, WrongShape}
pub use Rattle.drain_answer.specs.declared.refusal.Refusal.{Refusal}
pub use Rattle.drain_args.specs.declared.form.Form.TheVariants.{Json, Text}
pub use Rattle.drain_device.specs.Failing.{GivesUp, ReadFails, Sink, Source, full_patience}
pub use Rattle.drain_device.specs.FaultLists.{SomeReadFails}
pub use Rattle.drain_device.specs.Reads.{TakesAtMost}
pub use Rattle.drain_device.specs.declared.counts.FaultCounts.{FaultCounts}
pub use Rattle.drain_explain.specs.declared.fault_visitor.Mapping.TheVariants.{Drawn}
pub use Rattle.drain_files.specs.Files.{AreElevationsOf, IsNamed, IsOpenFailure, TakesMoreThan}
pub use Rattle.drain_files.specs.OpenSpacings.{IsSpacingOf, spacing_opened}
pub use Rattle.drain_files.specs.declared.open_judged.JudgedProducts.TheVariants.{Five, Four}
pub use Rattle.drain_files.specs.declared.open_judged.JudgedProducts.{JudgedProducts}
pub use Rattle.drain_files.specs.declared.open_judged.OpenElevations.TheVariants.{Dem, Tiles}
pub use Rattle.drain_files.specs.declared.open_judged.OpenElevations.{OpenElevations}
pub use Rattle.drain_grid.specs.Extent.{Extent}
pub use Rattle.drain_grid.specs.Grid.{Grid, Heights, IsSide, Pixels}
pub use Rattle.drain_grid.specs.Judged.{has_rnk}
pub use Rattle.drain_grid.specs.SinkTexts.{IsSinkFault, sinks_of}
pub use Rattle.drain_grid.specs.Spacing.{RowSpacings, spacing_of}
pub use Rattle.drain_grid.specs.declared.cell.Cell.{Cell}
pub use Rattle.drain_grid.specs.declared.height_kind.HeightKind.TheVariants.{Whole}
pub use Rattle.drain_grid.specs.declared.judged.Judged.TheVariants.{AllWithRanks}
pub use Rattle.drain_grid.specs.declared.judged.Judged.{Judged}
pub use Rattle.drain_grid.specs.declared.product.Product.TheVariants.{Dir}
pub use Rattle.drain_grid.specs.declared.product_set.ProductSet.{ProductSet}
pub use Rattle.drain_grid.specs.declared.sink_line.SinkLine.{SinkLine}
pub use Rattle.drain_grid.specs.declared.sink_text.SinkFault.{SinkFault}
pub use Rattle.drain_grid.specs.declared.verdict.Verdict.{Verdict}
pub use Rattle.drain_header.specs.Faults.{Answers, fault_text}
pub use Rattle.drain_header.specs.Header.{Fields}
pub use Rattle.drain_hgt.specs.Corner.{Corner}
pub use Rattle.drain_hgt.specs.Inputs.{TilesTakeAtMost, names_of, tile_devices}
pub use Rattle.drain_hgt.specs.declared.input.TileInput.{TileInput}
pub use Rattle.drain_maker.specs.Accepted.{AreGivenSpacings, IsMadeAcceptance}
pub use Rattle.drain_maker.specs.Dems.{AreMadeOn, AreOnDemData, IsDemOf, IsDemSinkAnswer, IsGroundRefusal, spaced_dem_grid}
pub use Rattle.drain_maker.specs.ProductFiles.{DerivedFit, SetFits, WritesSet, derived_bytes, made_header}
pub use Rattle.drain_maker.specs.declared.derivation.DeriveRefusal.{DeriveRefusal}
pub use Rattle.drain_maker.specs.declared.derivation.Derived.{Derived}
pub use Rattle.drain_merge.specs.UnionVerdicts.{AreJudgedFrom, IsJudgedFrom, merge_line, windows_of}
pub use Rattle.drain_merge.specs.declared.map_merge.MapVerdict.{MapVerdict}
pub use Rattle.drain_merge.specs.declared.merge_verdict.MergeRefusal.{MergeRefusal}
pub use Rattle.drain_merge.specs.declared.totals.UnionSinks.TheVariants.{AsTaken, Listed}
pub use Rattle.drain_mosaic.specs.Tiling.{Tiling, extent_of}
pub use Rattle.drain_page.specs.Texts.{IsAnswerLine}
pub use Rattle.drain_report.specs.Contents.{ContentsFit, contents_of, report_text}
pub use Rattle.drain_sets.specs.FileWrites.{WritesFile, WritesFiles}
pub use Rattle.drain_sets.specs.declared.raster_input.AuditProducts.{AuditProducts}
pub use Rattle.drain_sets.specs.declared.raster_input.RasterInput.{RasterInput}
pub use Rattle.drain_sets.specs.declared.set_files.SetFault.TheVariants.{WriteFailed}
pub use Rattle.drain_sets.specs.declared.set_files.SetFault.{SetFault}
pub use Rattle.drain_sets.specs.declared.set_files.TheConstants.{DERIVED_COUNT, FILE_COUNT}
pub use Rattle.drain_union.specs.Reports.{Agree, Report}
pub use Rattle.drain_union.specs.Windows.{IsOrigin}
pub use Rattle.drain_union.specs.declared.place.Place.{Place}
pub use Rattle.drain_union.specs.declared.report.WindowReport.{WindowReport}
pub use Rattle.drain_verdict.specs.Answers.{AreCorrect, ForAudit, IsAnswer, IsAnswerIn, IsAuditAnswer}
pub use Rattle.drain_verdict.specs.DemGround.{AreHeadersKept, DemTakesAtMost, DemTexts, EncodesDem, IsDemInput, dem_devices, dem_ground}
pub use Rattle.drain_verdict.specs.GroundSets.{ForSet, GroundSet}
pub use Rattle.drain_verdict.specs.Headline.{ForCheck, IsRight, ProductsAreRight}
pub use Rattle.drain_verdict.specs.Inputs.{as_five}
pub use Rattle.drain_verdict.specs.Outcomes.{AreRightIn, IsOutcomeIn}
pub use Rattle.drain_verdict.specs.Reading.{told_by}
pub use Rattle.drain_verdict.specs.TileGround.{TellTiles, tile_ground}
pub use Rattle.drain_verdict.specs.Uses.{AreNamesKept, AuditUses, CheckUses, UsesTold, set_devices}
pub use Rattle.drain_window.specs.WindowAnswers.{IsOfDem, IsOfTiles, IsWindowIn, as_refused}
pub use Rattle.drain_window.specs.declared.answered.WindowRefusal.{WindowRefusal}
pub use Rattle.std.specs.Io.KnownBytes.{Consumes, IsAtEnd}
pub use Rattle.std.specs.Prelude.{Err, IfErr, IfOk, IfSome, IsErrOf, IsSome, IsTrue, List, MatchResult, None, Ok, OnOk, Option, Result, Some, [], codes, decimal, false, length, map, string_bytes, vec_len, ℕ}
