-- The names that this crate's proofs cite, passed on from one place. Declares nothing.
pub use Rattle.drain_answer.specs.Outcomes.{IsAcceptedOutcome}
pub use Rattle.drain_answer.specs.declared.outcome.AuditVerdict.{AuditVerdict}
pub use Rattle.drain_answer.specs.declared.outcome.Outcome.{Outcome}
pub use Rattle.drain_answer.specs.declared.refusal.Refusal.{Refusal}
pub use Rattle.drain_answer.specs.declared.refusal.Refusal.TheVariants.{BadDemHeader, BadHeader, BadName, BadPixelSize, BadSide, BadSinkLine, BadSpacingLine, BadTileLength, BoxTooLarge, DemShort, Misplaced, NoTiles, OutOfMemory, RasterShort, ReadFailed, RepeatedTile, SeamMismatch, SinkNotData, SpacingRows, WrongShape}
pub use Rattle.drain_device.proofs.FaultLists.{PartFails-none, PartFails-then, SomeReadFails-iff, SomeReadFails-none, SomeReadFails-one, SomeReadFails-then, any-cases, any-either, any-first, any-later, any-left, any-none, any-right, takes-none}
pub use Rattle.drain_device.specs.Failing.{GivesUp, PartFails, ReadFails, full_patience}
pub use Rattle.drain_device.specs.FaultLists.{AnsweredEach, Faults, SomeReadFails}
pub use Rattle.drain_device.specs.Reads.{TakesAtMost}
pub use Rattle.drain_device.specs.RowSteps.{Coming, Gives, IsEmptyUnlessRow, IsLong, Steps, after_rows, coming_at, most_at, nth_row, progress_after}
pub use Rattle.drain_device.specs.RowSteps.Coming.{End, Next, Wrong}
pub use Rattle.drain_device.specs.declared.counts.FaultCounts.{FaultCounts}
pub use Rattle.drain_device.specs.declared.row_source.Progress.{Progress}
pub use Rattle.drain_device.specs.declared.row_source.Progress.TheVariants.{Going, Stopped}
pub use Rattle.drain_device.specs.declared.row_source.RowStep.{RowStep}
pub use Rattle.drain_device.specs.declared.row_source.RowStep.TheVariants.{Ended, Row}
pub use Rattle.drain_filled.specs.Compared.{IsFirstUnfilled}
pub use Rattle.drain_grid.proofs.Alike.{cases_earlier, run_steps-alike}
pub use Rattle.drain_grid.proofs.ByProduct.{by_set_product, by_set_product_or_spill, of_held}
pub use Rattle.drain_grid.specs.Correct.{IsCorrect, RunsAreSound}
pub use Rattle.drain_grid.specs.Extent.{Extent, IsCellOf, IsEarlier, IsExtent, cells, index_of, same_cell, step}
pub use Rattle.drain_grid.specs.Grid.{Grid, HasData, IsInside, IsSide, height_from, patch_at, set_number_in, values_at}
pub use Rattle.drain_grid.specs.GridRules.{HoldsAt, IsFirstFault, RulesHold}
pub use Rattle.drain_grid.specs.Laws.{CorrectFromRules, CorrectIsLocal, RanksPlayNoPart, SoundFromCorrect}
pub use Rattle.drain_grid.specs.OffData.{FoundOffDataIsRight, IsFirstOffData, IsLeastLine, IsLeastOff, IsOffAnswer}
pub use Rattle.drain_grid.specs.PatchRules.{Profile, check_rules, surface_rules}
pub use Rattle.drain_grid.specs.Path.{IsLeastSurface, Surface}
pub use Rattle.drain_grid.specs.PerProduct.{of_product, per_product}
pub use Rattle.drain_grid.specs.Rule.{IsAnyRule, IsFillRule, rule_number}
pub use Rattle.drain_grid.specs.RulesAbout.{IsPartRule, IsTried, part_rules, rules_about, tried}
pub use Rattle.drain_grid.specs.SetProduct.{OfSetProduct, place_of, product_of, products, rank_of}
pub use Rattle.drain_grid.specs.SinkTexts.{is_listed, sinks_of}
pub use Rattle.drain_grid.specs.Spacing.{Distances, RowSpacings, of_kind, spacing_of, unit_spacing}
pub use Rattle.drain_grid.specs.SpacingTexts.{IsSpacingFault, rows_listed, spacing_in, spacings_of, spacings_said}
pub use Rattle.drain_grid.specs.Unranked.{IsFirstEndless, RanksAreSteps, run_steps, unranked, with_rank_nodata, with_ranks}
pub use Rattle.drain_grid.specs.Values.{IsPixel, NoDataNumbers, Values}
pub use Rattle.drain_grid.specs.declared.cell.Cell.{Cell}
pub use Rattle.drain_grid.specs.declared.height_kind.HeightKind.{HeightKind}
pub use Rattle.drain_grid.specs.declared.judged.Judged.{Judged}
pub use Rattle.drain_grid.specs.declared.judged.Judged.TheVariants.{AllWithRanks, ConDir, ConDirAcc, ConDirBas}
pub use Rattle.drain_grid.specs.declared.per_product.PerProduct.{PerProduct}
pub use Rattle.drain_grid.specs.declared.product.Product.{Product}
pub use Rattle.drain_grid.specs.declared.product.Product.TheVariants.{Spl}
pub use Rattle.drain_grid.specs.declared.rule.Rule.{Rule}
pub use Rattle.drain_grid.specs.declared.rule.Rule.TheVariants.{BadCode, BelowGround, Missing, NoSpill, NotLeast, OpenRaised, SharedLabel, SpillHeight, SpillRank, VoidCell}
pub use Rattle.drain_grid.specs.declared.set_product.SetProduct.{SetProduct}
pub use Rattle.drain_grid.specs.declared.set_product.SetProduct.TheVariants.{Acc, Bas, Dir, Rnk}
pub use Rattle.drain_grid.specs.declared.sink_line.SinkLine.{SinkLine}
pub use Rattle.drain_grid.specs.declared.tile.TheConstants.{VOID}
pub use Rattle.drain_grid.specs.declared.verdict.Counts.{Counts}
pub use Rattle.drain_grid.specs.declared.verdict.Verdict.{Verdict}
pub use Rattle.drain_header.specs.Faults.{AnswersOf, DescribesOf}
pub use Rattle.drain_header.specs.Header.{AreWithinBounds, Fields, header_of}
pub use Rattle.drain_header.specs.declared.fault.HeaderFault.{HeaderFault}
pub use Rattle.drain_header.specs.declared.header.Place.{Place}
pub use Rattle.drain_hgt.specs.Corner.{Corner}
pub use Rattle.drain_hgt.specs.Inputs.{IsFirstBadLength, TilesTakeAtMost, names_of, tile_devices}
pub use Rattle.drain_hgt.specs.Laws.{NamesGiveCorners, OneName}
pub use Rattle.drain_hgt.specs.Name.{IsNameOf, MeansName}
pub use Rattle.drain_hgt.specs.Samples.{IsTile, samples_of, tile_sample_at}
pub use Rattle.drain_hgt.specs.declared.input.TileInput.{TileInput}
pub use Rattle.drain_laws.specs.Laws.{PaddingKeepsFirstEndless, PaddingKeepsRuns}
pub use Rattle.drain_mosaic.specs.GivenTiles.{HasLayoutFault, IsFirstRepeated, IsLayout, IsRepeatedAt, IsToldAtEnd, coming_of, given_tiles, layout_fault_order, mosaic_coming, seam_to_tell, wrong_to_tell}
pub use Rattle.drain_mosaic.specs.Laws.{AgreementGivesElevation, NewRowsAreOfBodies}
pub use Rattle.drain_mosaic.specs.Mosaic.{IsFirstSeam, Tile, TilesAgree, first_value}
pub use Rattle.drain_mosaic.specs.Tiling.{Tiling, extent_of, left_of, top_of}
pub use Rattle.drain_paths.specs.Flows.{AreFirstFlows, AreFlowsOf}
pub use Rattle.drain_paths.specs.declared.flow.Flow.{Flow}
pub use Rattle.drain_paths.specs.declared.walk.TheConstants.{UNKNOWN}
pub use Rattle.drain_pixels.specs.Ground.{elevations, height_with, whole_voids}
pub use Rattle.drain_raster.specs.Laws.{RasterRowsEnd, RasterRowsTakeWhatIsNeeded}
pub use Rattle.drain_raster.specs.Pixels.{IsShort, header_extent, needed_len, pixel_at, spelled_as, spelled_by}
pub use Rattle.drain_raster.specs.Placing.{HasPixelSize, LiesOn}
pub use Rattle.drain_raster.specs.RasterRows.{bytes_of_rows, raster_coming, raster_most_bytes, raster_rows}
pub use Rattle.drain_raster.specs.declared.raster_rows.RasterRows.{RasterRows}
pub use Rattle.drain_rows.proofs.WindowLemmas.{on-ok, told-of}
pub use Rattle.drain_rows.specs.GridRows.{AllRunsEnd, AreListedVoids, AreRowsOf, IsNext, IsRowsStop, OfGrid, ReadsOn, has_data_but}
pub use Rattle.drain_rows.specs.RowBuffers.{IsEven, buffer_numbers}
pub use Rattle.drain_rules.specs.Rows.{AreNumbersOf, AreRowNumbers, RowNumbers, blank, place}
pub use Rattle.drain_rules.specs.Verdicts.{IfAccepted, IsVerdict, IsVerdictAmong, IsVerdictBy, IsVerdictOf, counts_of}
pub use Rattle.drain_sets.specs.GivenSpacings.{GivenSpacing, by_row, same, spacing_from}
pub use Rattle.drain_sets.specs.declared.raster_input.AuditProducts.{AuditProducts}
pub use Rattle.drain_sets.specs.declared.raster_input.RasterInput.{RasterInput}
pub use Rattle.drain_text.specs.First.{IsBefore, IsFirst}
pub use Rattle.drain_text.specs.Text.{lines_of}
pub use Rattle.drain_verdict.specs.Answers.{AreCorrect, AreCorrectIn, AuditMeans, ForAudit, IfAccepts, IsAcceptance, IsAnswer, IsAnswerIn, IsAuditAnswer, IsAuditIn, IsAuditVerdict, IsOfBoth, IsPlainVerdict, IsRefusal, certified, certified_nodata, certified_ranks}
pub use Rattle.drain_verdict.specs.Deciding.{AreFlowsFor, AreFlowsLeft, IsDecided, IsEndlessCell, IsUnfilledCell}
pub use Rattle.drain_verdict.specs.DemGround.{AreHeadersKept, DemHasRead, DemRefuses, DemTakesAtMost, DemTexts, ElevationIsItsPixels, EncodesDem, HasDemHeader, IsDemAfter, IsDemBegun, IsDemHeader, IsDemHeaderRefusal, IsDemInput, dem_audit_devices, dem_check_devices, dem_devices, dem_fields, dem_ground, dem_rows_of}
pub use Rattle.drain_verdict.specs.Ground.{AreGroundRows, Ground, GroundToGive, IsFirstOwn, IsLaidOn, IsToldOf, NoneRefusesBefore, ground_row, refusal_kind}
pub use Rattle.drain_verdict.specs.GroundSets.{AreNotesIn, AreTextsIn, EncodeTexts, ForSet, ForTexts, GroundSet, HasShapeIn, IsGroundRefusal, IsReadable, IsRefusalIn, NoneStandsIn, StandsIn, order_in, place_in, rules_in, set_grid, set_numbers, set_products}
pub use Rattle.drain_verdict.specs.Headline.{AreOneElevation, ElevationIsTheirs, IsRight, ProductsAreRight, TilesAreOne}
pub use Rattle.drain_verdict.specs.InputReads.{HaveBeenRead, InputsHaveRead, RasterHasRead, RastersHaveRead, Reading, as_read, elevations_at, inputs_lent, product_body, products_lent, readers, with_rasters}
pub use Rattle.drain_verdict.specs.InputRows.{AreAlike, AreBegun, HasStopped, IsFirstOf, IsRasterBegun, IsShortRefusal, IsToldRefusal}
pub use Rattle.drain_verdict.specs.Inputs.{AreNames, Encode, Inputs, as_five, audit_devices, four_devices, readers_as_five}
pub use Rattle.drain_verdict.specs.Laws.{InputsAreTold, RasterLaws}
pub use Rattle.drain_verdict.specs.Listings.{AreRowsCounted, IsListedSpacing, IsListingOf, IsTextTold, IsToldOfLists, IsToldOfSpacing}
pub use Rattle.drain_verdict.specs.Meaning.{input_grid, input_tiles, texts_of, tiling_of}
pub use Rattle.drain_verdict.specs.Outcomes.{IsConOutcome, IsOfSurface, IsOfWays, IsOutcome, IsOutcomeIn, IsOutcomeOf, IsRankOutcome, IsWayOutcome, rules_of, without_outlets}
pub use Rattle.drain_verdict.specs.Reading.{IsOfReading, told_by}
pub use Rattle.drain_verdict.specs.Refusals.{IsOfBodies, NoneStandsBefore, Stands, refusal_of}
pub use Rattle.drain_verdict.specs.SameGround.{AreOne, AreOneGround, HaveOneAnswer, HaveOneElevation, HaveOneVerdict, IsOfBytes, IsSound, IsTileHeader, SamplesAreElevations, TilesAreRasters}
pub use Rattle.drain_verdict.specs.Stages.{AreHeadersFor, AreHeadersOf, IsBadLine, IsFirstBadName, IsFirstRefusalOf, IsHeaderFor, IsHeaderRefusal, IsLayoutFault, IsLayoutOf, IsLayoutRefusal, IsToldOfSinks}
pub use Rattle.drain_verdict.specs.Texts.{SetTexts, kind_in, lines_in, nodata_in, nodata_number, set_fields, set_listed, set_nodata}
pub use Rattle.drain_verdict.specs.TileGround.{HasBadLength, IsBadName, IsPlaced, IsSeamFault, TellTiles, TilesRefuse, place_among, set_of, tile_ground, tile_place}
pub use Rattle.drain_verdict.specs.TileRows.{IsMosaicAfter, IsMosaicBegun, IsMosaicOneMore, IsTilingOf, TileRowLaws, TilesHaveRead, tile_rows_of}
pub use Rattle.drain_verdict.specs.ToGive.{AreGiven, HaveCome, IsAfter, IsAfterTold, IsNextRow, IsRasterAfter, IsRowGiven, ToGive, given}
pub use Rattle.drain_verdict.specs.Uses.{AreNamesKept, BodyTakesAtMost, RasterTakesAtMost, UsesInputs, UsesSet, UsesTold, devices_of, product_devices, set_devices}
pub use Rattle.drain_verdict.specs.declared.input_rows.InputRows.{InputRows}
pub use Rattle.drain_verdict.specs.declared.listings.Listing.{Listing}
pub use Rattle.std.proofs.Common.{Bool, IfErr, IfSome, IsErrOf, IsNone, IsSome, IsTrue, List, None, Ok, OnOk, Some, [], ap, arith, below_more, cond, drop, false, get_or, if◌then◌else◌, inl, inr, int_lt, is_none, is_some, length, length-append, map, nat_le, nat_lt, not, of_z, option_map, pos, refl, rules, slice_get, slice_set, subst, suc, sym, take, to_z, true, w64, zero, ℤ, ◌&&◌, ◌*◌, ◌++◌, ◌+ℤ◌, ◌+◌, ◌-ℤ◌, ◌-◌, ◌/◌, ◌<◌, ◌↔◌, ◌∙◌, ◌∷◌, ◌≡◌, ◌≢◌, ◌≤◌, ◌⊎◌}
pub use Rattle.std.proofs.Math.Nat.{mul-le-mul_right}
pub use Rattle.std.proofs.lemmas.Bool.{cases_eq, cases_lt, cases_order, false≢true, le-leb, le-ltb, lt-ltb}
pub use Rattle.std.proofs.lemmas.Bool.Decides.{Decides-int_eq, nat_tests}
pub use Rattle.std.proofs.lemmas.List.{get_or-map, length-map, map-append, take_all, take_more}
pub use Rattle.std.proofs.lemmas.Option.{get_or_from_slice_get, slice_get-get_or, slice_get_within}
pub use Rattle.std.proofs.lemmas.Result.{IfOk-weaker, err_from_is_err_and}
pub use Rattle.std.proofs.lemmas.Slice.Zip.{AllZip-long}
pub use Rattle.std.specs.Int.{int_max, int_min, is_negative}
pub use Rattle.std.specs.List.{AllZip, Any, count_by}
