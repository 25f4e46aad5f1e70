-- The names that this crate's proofs cite, passed on from one place. Declares nothing.
pub use Rattle.drain_answer.specs.declared.refusal.Refusal.{Refusal}
pub use Rattle.drain_answer.specs.declared.refusal.Refusal.TheVariants.{BadDemHeader, BadHeader, BadName, BadPixelSize, BadSide, BadSinkLine, BadSpacingLine, BadTileLength, BoxTooLarge, DemShort, Misplaced, NoTiles, RasterShort, ReadFailed, RepeatedTile, SeamMismatch, SinkNotData, SpacingRows, WrongShape}
pub use Rattle.drain_device.proofs.FaultLists.{SomeReadFails-iff, SomeReadFails-none, SomeReadFails-one, SomeReadFails-then, takes-none}
pub use Rattle.drain_device.specs.Failing.{ReadFails, Sink, WriteFails}
pub use Rattle.drain_device.specs.FaultLists.{SomeReadFails}
pub use Rattle.drain_device.specs.Reads.{ReadsUpTo, TakesAtMost}
pub use Rattle.drain_device.specs.declared.counts.FaultCounts.{FaultCounts}
pub use Rattle.drain_filled.specs.Compared.{HasCellsOf, HasHeights}
pub use Rattle.drain_filled.specs.Grounds.{ArePixelHeights, DataCells, HasDataCells}
pub use Rattle.drain_floats.specs.Patterns.{IsFloatNumber, is_finite, number_of}
pub use Rattle.drain_flood.proofs.Cells.{none_or_some, one_more, with_next, within}
pub use Rattle.drain_flood.specs.Floods.{Flooding, IsFlooded, IsSurfaceOf, ShowsVoids, con_at, mark_at}
pub use Rattle.drain_flood.specs.declared.layers.TheConstants.{NO_HEIGHT}
pub use Rattle.drain_flood.specs.declared.level_queue.TheConstants.{MAX_CELLS}
pub use Rattle.drain_grid.proofs.FromCorrect.{rules_from_correct, unranked_from_correct}
pub use Rattle.drain_grid.proofs.Runs.{index_of-below, runs_end}
pub use Rattle.drain_grid.specs.Correct.{GoesSteepest, IsCorrect, NeverClimbs, RunsAreSound}
pub use Rattle.drain_grid.specs.Extent.{Extent, IsCellOf, index_of, step}
pub use Rattle.drain_grid.specs.Grid.{Grid, HasData, Heights, IsInside, IsSide, Pixels, Products, height_at, patch_at}
pub use Rattle.drain_grid.specs.GridRules.{HoldsAt, RulesHold}
pub use Rattle.drain_grid.specs.OffData.{FoundOffDataIsRight, IsLeastOff, IsOffAnswer, IsOffData, has_data}
pub use Rattle.drain_grid.specs.PatchRules.{MissingWithoutSpill, VoidCellWithoutSpill, check_rules, flow_rules}
pub use Rattle.drain_grid.specs.Path.{IsLeastSurface, IsPath, NeverRises}
pub use Rattle.drain_grid.specs.Product.{default_no_data, default_numbers}
pub use Rattle.drain_grid.specs.Rule.{IsAnyRule, IsWayRule}
pub use Rattle.drain_grid.specs.Run.{IsFlatCell, IsLowerCell, IsOutlet, IsSteepestCell, next, only_data}
pub use Rattle.drain_grid.specs.Spacing.{Distances, RowSpacings, spacing_of, unit_spacing, weight_between}
pub use Rattle.drain_grid.specs.Values.{IsNoData, IsPixel, NoDataNumbers}
pub use Rattle.drain_grid.specs.WholeGrid.{elevation_at, grid_of, number_at, products_of, raster_in, spaced_grid}
pub use Rattle.drain_grid.specs.declared.cell.Cell.{Cell}
pub use Rattle.drain_grid.specs.declared.height_kind.HeightKind.{HeightKind}
pub use Rattle.drain_grid.specs.declared.height_kind.HeightKind.TheVariants.{Single, Whole}
pub use Rattle.drain_grid.specs.declared.product.Product.{Product}
pub use Rattle.drain_grid.specs.declared.product_set.ProductSet.{ProductSet}
pub use Rattle.drain_grid.specs.declared.set_product.SetProduct.{SetProduct}
pub use Rattle.drain_grid.specs.declared.sink_line.SinkLine.{SinkLine}
pub use Rattle.drain_header.specs.Faults.{AnswersOf, DescribesOf}
pub use Rattle.drain_header.specs.Header.{AreWithinBounds, Fields, IsCoordinate, IsPixelSize}
pub use Rattle.drain_header.specs.Text.{IsFloatLine, IsTextOf, IsTextOfKind, line, pixel_lines, place_lines, shape_lines, text_of}
pub use Rattle.drain_header.specs.declared.fault.HeaderFault.{HeaderFault}
pub use Rattle.drain_hgt.specs.Corner.{Corner, IsOnMap, IsWithin}
pub use Rattle.drain_hgt.specs.Inputs.{AreBodies, IsFirstBadLength, names_of, tile_devices}
pub use Rattle.drain_hgt.specs.Samples.{IsTile, samples_of, tile_length}
pub use Rattle.drain_hgt.specs.declared.input.TileInput.{TileInput}
pub use Rattle.drain_maker.specs.Dems.{AreOfGround, IsBodyRefusal, IsDemOf, IsGroundRefusal, IsHeightAt, IsKept, IsKeptAt, IsMarkedBy, IsRasterOf, MarksDem, dem_elevation, dem_grid, has_elevation, kept_number, spaced_dem_grid}
pub use Rattle.drain_maker.specs.Derived.{AreCounts, AreDefaultBut, AreDerived, AreDerivedIn, DerivedByDirections, DerivedCompletes, IsDeriveRefusalIn, IsFlowsRefusal, IsRefusalFor, reading_in, with_derived}
pub use Rattle.drain_maker.specs.Made.{AreCountsAndLabels, AreMadeSpelled, AreRasters, AreRightProducts, AreRoutes, CanBeWritten, KeepsEveryRule, RoutesEnd, RoutesKeepRules, SomeRunsEnd, listed, made_numbers, shown}
pub use Rattle.drain_maker.specs.Mosaics.{AreSamplesOf, IsElevationOf, IsMosaicOf, IsMosaicRefusal, IsOfTiles, IsOneTileRefusal, IsSeamFaultAs, IsSeamRefusal, StandsOfTiles}
pub use Rattle.drain_maker.specs.Narrow.{AreNarrowed, IsNarrowed, IsSampleOf}
pub use Rattle.drain_maker.specs.ProductFiles.{CanSpellAllIn, DerivedFit, FitHeaders, FitsHeader, IsDerived, SetFits, WritesSet, derived_raster, file_bytes, made_header, mosaic_place}
pub use Rattle.drain_maker.specs.declared.derivation.Derived.{Derived}
pub use Rattle.drain_mosaic.specs.Mosaic.{IsElevation, IsFirstSeam, TilesAgree, first_value, tiles_of}
pub use Rattle.drain_mosaic.specs.Tiling.{Tiling, extent_of, greatest, least, north_edge, north_of, tiles_across, tiles_down, west_edge, west_of}
pub use Rattle.drain_paths.proofs.Completing.{correct_by_routing, routed_part, upstream_some, with_counts}
pub use Rattle.drain_paths.proofs.SameRuns.{all_end}
pub use Rattle.drain_paths.specs.Flows.{AreFirstFlows, AreFlowsOf, OfFlows, byte_flow, bytes_flows, cell_flow, code_flow}
pub use Rattle.drain_paths.specs.Laws.{AreCompleted, AreRouted}
pub use Rattle.drain_pixels.specs.Ground.{height_with, is_number, whole_voids}
pub use Rattle.drain_raster.proofs.KeptLemmas.{are_spelled, at_each_cell}
pub use Rattle.drain_raster.specs.Bytes.{CanSpell, CanSpellAll, CanSpellAllAs, CanSpellAs, CanSpellIn, IsFirstOutOfRange, raster_bytes}
pub use Rattle.drain_raster.specs.Laws.{BytesReadBack, NumbersArePixels, ReadBack}
pub use Rattle.drain_raster.specs.Pixels.{IsShort, default_number, header_extent, needed_len, number_in, pixel_at, pixel_len, pixel_of, pixel_place, raster_of, spelled_as, spelled_by}
pub use Rattle.drain_raster.specs.Placing.{AreWithinPixel, HasPixelSize, LiesOn}
pub use Rattle.drain_sets.proofs.FileWrites.{any_text-some, no_memory}
pub use Rattle.drain_sets.proofs.HeaderBounds.{bounds_on, con_float, con_number, product_bounds}
pub use Rattle.drain_sets.specs.FileWrites.{WritesFile, WritesFiles}
pub use Rattle.drain_sets.specs.ProductHeaders.{bits_of, con_no_data, header_on, is_signed, no_height}
pub use Rattle.drain_text.specs.First.{IsBefore, IsFirst}
pub use Rattle.drain_verdict.proofs.DemAnswers.{dem_four_used, header_answer, header_reads_none, refused_text}
pub use Rattle.drain_verdict.proofs.InputLemmas.{four_used, no_memory_left, set_uses_none, uses_none}
pub use Rattle.drain_verdict.proofs.StartAnswers.{at_side, layout_answer, layout_reads_none, named_each, of_tiles, told_of_inputs}
pub use Rattle.drain_verdict.specs.Answers.{IsAnswerIn, IsRefusal}
pub use Rattle.drain_verdict.specs.DemGround.{AreHeadersKept, DemRefuses, DemTakesAtMost, DemTexts, DemUses, EncodesDem, IsDemHeader, IsDemHeaderRefusal, dem_audit_devices, dem_devices, dem_fields, dem_ground}
pub use Rattle.drain_verdict.specs.Ground.{refusal_kind}
pub use Rattle.drain_verdict.specs.GroundSets.{EncodeTexts, GroundSet, HasShapeIn, IsReadable, IsRefusalIn, place_in, set_grid, set_numbers, set_products}
pub use Rattle.drain_verdict.specs.Inputs.{AreNames, Inputs, as_five, audit_devices}
pub use Rattle.drain_verdict.specs.Meaning.{input_tiles, tiling_of}
pub use Rattle.drain_verdict.specs.Reading.{told_by}
pub use Rattle.drain_verdict.specs.Stages.{IsLayoutOf, IsLayoutRefusal, IsTileRefusal}
pub use Rattle.drain_verdict.specs.TileGround.{IsBadName, IsPlaced, TellTiles, TilesRefuse, place_among, set_of}
pub use Rattle.drain_verdict.specs.Uses.{AuditUses, UsesSet, UsesTold, set_devices}
pub use Rattle.std.proofs.Common.{Bool, Err, IfErr, IfOk, IfSome, IsErrOf, IsNone, IsSome, List, None, Ok, Option, Result, Some, [], ap, append-nil, append_assoc, arith, below_more, drop, false, fold, get_or, if◌then◌else◌, inl, inr, is_some, length, map, nat_abs, nat_lt, neg_ℤ, negsuc, not, option_and_then, pos, refl, rules, slice_index_or, subst, suc, sym, take, true, unwrap_or, zero, ℕ, ℤ, ◌%◌, ◌*ℤ◌, ◌*◌, ◌++◌, ◌+ℤ◌, ◌+◌, ◌-ℤ◌, ◌-◌, ◌/◌, ◌<ℤ◌, ◌<◌, ◌==◌, ◌^◌, ◌||◌, ◌↔◌, ◌∙◌, ◌∷◌, ◌≡◌, ◌≢◌, ◌≤ℤ◌, ◌≤◌, ◌⊎◌}
pub use Rattle.std.proofs.Math.Nat.{mul-le-mul_right}
pub use Rattle.std.proofs.lemmas.Bool.{cases_lt, eqb-true, false_from_ne_true, false≢true, ltb-false, ltb-true}
pub use Rattle.std.proofs.lemmas.Bool.Decides.{Decides-int_eq}
pub use Rattle.std.proofs.lemmas.Int.{by_lt_z, clamps, ints, to_z-of_z}
pub use Rattle.std.proofs.lemmas.List.{drop-take, get_or-drop, get_or-map, get_or_append_left, get_or_default, get_or_push, length-map, length-take, map-append, take_all}
pub use Rattle.std.proofs.lemmas.List.Elements.{All-cons, All-head, All-more, All-nil, All-push, All-tail}
pub use Rattle.std.proofs.lemmas.Result.{IfErr-weaker, IfOk-weaker, err_from_is_err_and}
pub use Rattle.std.specs.Int.{int_max, int_min}
pub use Rattle.std.specs.List.{AllZip}
pub use Rattle.std.specs.Ordering.{int_eq}
pub use Rattle.std.specs.Prelude.{slice_index}
pub use mir.Syntax.{w16}
pub use mir.Val.{SFits, of_z, to_z}
