-- The names of other crates that this crate's definitions and contracts use, passed on from one place. Declares nothing.
pub use Rattle.drain_answer.specs.Outcomes.{IsAcceptedOutcome}
pub use Rattle.drain_answer.specs.declared.outcome.AuditVerdict.{AuditVerdict}
pub use Rattle.drain_answer.specs.declared.outcome.Outcome.{Outcome}
pub use Rattle.drain_answer.specs.declared.refusal.Refusal.{Refusal}
pub use Rattle.drain_answer.specs.declared.refusal.Refusal.TheVariants.{BadDemHeader, BadHeader, BadName, BadPixelSize, BadSide, BadSinkLine, BadSpacingLine, BadTileLength, BoxTooLarge, DemShort, Misplaced, NoTiles, OutOfMemory, RasterShort, ReadFailed, RepeatedTile, SeamMismatch, SinkNotData, SpacingRows, WrongShape}
pub use Rattle.drain_device.specs.Failing.{PartFails, full_patience}
pub use Rattle.drain_device.specs.FaultLists.{SomeReadFails}
pub use Rattle.drain_device.specs.Reads.{TakesAtMost}
pub use Rattle.drain_device.specs.RowSteps.{Coming, ReadsWithin, after_rows, nth_row}
pub use Rattle.drain_device.specs.RowSteps.Coming.{End, Wrong}
pub use Rattle.drain_device.specs.declared.counts.FaultCounts.{FaultCounts}
pub use Rattle.drain_device.specs.declared.row_source.Progress.{Progress}
pub use Rattle.drain_device.specs.declared.row_source.Progress.TheVariants.{Going, Stopped}
pub use Rattle.drain_filled.specs.Compared.{IsFirstUnfilled}
pub use Rattle.drain_grid.specs.Correct.{GoesSteepest, IsBlankAt, IsCompleteAt, IsCorrect, NeverClimbs}
pub use Rattle.drain_grid.specs.Extent.{Extent, IsCellOf, IsExtent, index_of}
pub use Rattle.drain_grid.specs.Grid.{Grid, HasData, IsInside, IsSample, IsSide, Products}
pub use Rattle.drain_grid.specs.GridRules.{IsFirstFault, RulesHold}
pub use Rattle.drain_grid.specs.Judged.{has_dir, has_rnk}
pub use Rattle.drain_grid.specs.OffData.{IsLeastLine, IsLeastOff, IsOffData}
pub use Rattle.drain_grid.specs.PatchRules.{check_rules, surface_rules}
pub use Rattle.drain_grid.specs.Path.{IsLeastSurface}
pub use Rattle.drain_grid.specs.PerProduct.{of_product, per_product}
pub use Rattle.drain_grid.specs.SetProduct.{OfSetProduct, place_of, product_of, products, rank_of}
pub use Rattle.drain_grid.specs.SinkTexts.{is_listed, sinks_of}
pub use Rattle.drain_grid.specs.Spacing.{Distances, RowSpacings, of_kind, spacing_of, unit_spacing}
pub use Rattle.drain_grid.specs.SpacingTexts.{rows_listed, spacing_in, spacings_of}
pub use Rattle.drain_grid.specs.Unranked.{IsFirstEndless, run_steps, unranked, with_rank_nodata, with_ranks}
pub use Rattle.drain_grid.specs.Values.{IsPixel, NoDataNumbers}
pub use Rattle.drain_grid.specs.declared.cell.Cell.{Cell}
pub use Rattle.drain_grid.specs.declared.cell.TheConstants.{MAX_LENGTH}
pub use Rattle.drain_grid.specs.declared.height_kind.HeightKind.{HeightKind}
pub use Rattle.drain_grid.specs.declared.height_kind.HeightKind.TheVariants.{Whole}
pub use Rattle.drain_grid.specs.declared.judged.Judged.{Judged}
pub use Rattle.drain_grid.specs.declared.judged.Judged.TheVariants.{AllWithRanks, ConDir, ConDirAcc, ConDirBas}
pub use Rattle.drain_grid.specs.declared.judged.Rules.{Rules}
pub use Rattle.drain_grid.specs.declared.per_product.PerProduct.{PerProduct}
pub use Rattle.drain_grid.specs.declared.set_product.SetProduct.{SetProduct}
pub use Rattle.drain_grid.specs.declared.sink_line.SinkLine.{SinkLine}
pub use Rattle.drain_grid.specs.declared.tile.TheConstants.{VOID}
pub use Rattle.drain_grid.specs.declared.verdict.Verdict.{Verdict}
pub use Rattle.drain_header.specs.Faults.{AnswersOf, DescribesOf}
pub use Rattle.drain_header.specs.Header.{AreWithinBounds, Fields, fields_of, header_of}
pub use Rattle.drain_header.specs.declared.header.Place.{Place}
pub use Rattle.drain_hgt.specs.Corner.{Corner}
pub use Rattle.drain_hgt.specs.Inputs.{AreBodies, IsFirstBadLength, TilesTakeAtMost, names_of, tile_devices}
pub use Rattle.drain_hgt.specs.Name.{IsNameOf}
pub use Rattle.drain_hgt.specs.Samples.{IsTile, samples_of, tile_sample_at}
pub use Rattle.drain_hgt.specs.declared.input.TileInput.{TileInput}
pub use Rattle.drain_mosaic.specs.GivenTiles.{HasLayoutFault, IsBegun, IsLayout, IsToldAtEnd, coming_of, frame_of, layout_fault_order, mosaic_coming, seam_to_tell, tile_streams, wrong_to_tell}
pub use Rattle.drain_mosaic.specs.Mosaic.{HasTwoValues, IsElevation, TilesAgree, first_value}
pub use Rattle.drain_mosaic.specs.Tiling.{Tiling, extent_of}
pub use Rattle.drain_mosaic.specs.declared.layout.LayoutFault.{LayoutFault}
pub use Rattle.drain_paths.specs.declared.flow.Flow.{Flow}
pub use Rattle.drain_pixels.specs.Ground.{elevations, whole_voids}
pub use Rattle.drain_pixels.specs.declared.voids.Voids.{Voids}
pub use Rattle.drain_raster.specs.Pixels.{IsShort, default_number, header_extent, needed_len, pixel_at}
pub use Rattle.drain_raster.specs.Placing.{HasPixelSize, LiesOn}
pub use Rattle.drain_raster.specs.RasterRows.{raster_coming, raster_most_bytes, raster_rows}
pub use Rattle.drain_raster.specs.declared.raster_rows.RasterRows.{RasterRows}
pub use Rattle.drain_rows.specs.GridRows.{AllRunsEnd, has_data_but}
pub use Rattle.drain_rules.specs.Rows.{RowNumbers, blank, place}
pub use Rattle.drain_rules.specs.Verdicts.{IfAccepted, IsVerdict, IsVerdictBy, IsVerdictOf}
pub use Rattle.drain_sets.specs.GivenSpacings.{GivenSpacing, by_row, same, spacing_from}
pub use Rattle.drain_sets.specs.declared.raster_input.AuditProducts.{AuditProducts}
pub use Rattle.drain_sets.specs.declared.raster_input.RasterInput.{RasterInput}
pub use Rattle.drain_text.specs.First.{IsFirst}
pub use Rattle.drain_text.specs.Text.{lines_of}
pub use Rattle.std.specs.List.{AllZip}
pub use Rattle.std.specs.Prelude.{Bool, Err, IfErr, IfOk, IfSome, IsErrOf, IsNone, IsSome, IsTrue, List, MatchOption, None, Ok, OnOk, Option, Result, Some, [], false, is_some, length, map, nat_abs, pos, slice_get, slice_index_or, suc, true, unwrap_or, ℕ, ℤ}
