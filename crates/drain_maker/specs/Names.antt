-- The names of other crates that this crate's definitions and contracts use, passed on from one place. Declares nothing.
pub use Rattle.drain_answer.specs.declared.refusal.Refusal.{Refusal}
pub use Rattle.drain_answer.specs.declared.refusal.Refusal.TheVariants.{BadHeader, BadSinkLine, BadSpacingLine, BadTileLength, Misplaced, OutOfMemory, RasterShort, ReadFailed, SeamMismatch, SinkNotData, SpacingRows, WrongShape}
pub use Rattle.drain_device.specs.Failing.{ReadFails, Sink}
pub use Rattle.drain_device.specs.FaultLists.{SomeReadFails}
pub use Rattle.drain_device.specs.Reads.{TakesAtMost}
pub use Rattle.drain_floats.specs.Patterns.{IsFloatNumber, IsSingle, is_finite}
pub use Rattle.drain_flood.specs.Floods.{Flooding, IsFlooded, IsSurfaceOf, ShowsVoids, con_at}
pub use Rattle.drain_flood.specs.declared.layers.TheConstants.{NO_HEIGHT, UNREACHED}
pub use Rattle.drain_grid.specs.Correct.{IsCorrect, RunsAreSound}
pub use Rattle.drain_grid.specs.Extent.{Extent, IsCellOf, index_of}
pub use Rattle.drain_grid.specs.Grid.{ArePixels, Grid, HasData, Heights, IsInside, IsSide, Pixels, Products, height_at}
pub use Rattle.drain_grid.specs.GridRules.{RulesHold}
pub use Rattle.drain_grid.specs.OffData.{IsFirstOffData, IsOffData}
pub use Rattle.drain_grid.specs.PatchRules.{check_rules}
pub use Rattle.drain_grid.specs.Product.{default_no_data, default_numbers}
pub use Rattle.drain_grid.specs.Rule.{IsAnyRule}
pub use Rattle.drain_grid.specs.SetProduct.{product_of, products}
pub use Rattle.drain_grid.specs.SinkTexts.{is_listed, sinks_of}
pub use Rattle.drain_grid.specs.Spacing.{Distances, RowSpacings, unit_spacing}
pub use Rattle.drain_grid.specs.Values.{IsNoData, IsPixel, NoDataNumbers}
pub use Rattle.drain_grid.specs.WholeGrid.{elevation_at, grid_of, nodata_of, number_at, products_of, raster_in, spaced_grid}
pub use Rattle.drain_grid.specs.declared.cell.Cell.{Cell}
pub use Rattle.drain_grid.specs.declared.height_kind.HeightKind.{HeightKind}
pub use Rattle.drain_grid.specs.declared.height_kind.HeightKind.TheVariants.{Single, Whole}
pub use Rattle.drain_grid.specs.declared.product.Product.TheVariants.{Acc, Bas, Con, Dir, Rnk, Spl}
pub use Rattle.drain_grid.specs.declared.product_set.ProductSet.{ProductSet}
pub use Rattle.drain_grid.specs.declared.set_product.SetProduct.{SetProduct}
pub use Rattle.drain_grid.specs.declared.sink_line.SinkLine.{SinkLine}
pub use Rattle.drain_header.specs.Header.{Fields, IsCoordinate}
pub use Rattle.drain_header.specs.Text.{IsFloatLine, IsTextOf, text_of}
pub use Rattle.drain_hgt.specs.Inputs.{AreBodies, TilesTakeAtMost, names_of, tile_devices}
pub use Rattle.drain_hgt.specs.Samples.{IsTile, samples_of, tile_length}
pub use Rattle.drain_mosaic.specs.Mosaic.{AreTiles, IsElevation, IsFirstSeam, TilesAgree, tiles_of}
pub use Rattle.drain_mosaic.specs.Tiling.{Tiling, extent_of, north_edge, west_edge}
pub use Rattle.drain_paths.specs.Basins.{AreBasinLabels, end_number}
pub use Rattle.drain_paths.specs.Flows.{AllFlowsEnd, AreFlowsOf, OfFlows, bytes_flows}
pub use Rattle.drain_paths.specs.Inflows.{AreUpstreamCounts}
pub use Rattle.drain_paths.specs.declared.flow.Flow.{Flow}
pub use Rattle.drain_raster.specs.Bytes.{CanSpellAll, CanSpellAs, CanSpellIn, raster_bytes}
pub use Rattle.drain_raster.specs.Pixels.{IsShort, header_extent, needed_len, pixel_at, raster_of}
pub use Rattle.drain_sets.specs.FileWrites.{WritesFile, WritesFiles}
pub use Rattle.drain_sets.specs.ProductHeaders.{bits_of, con_no_data, header_beside, header_on, is_signed, no_height}
pub use Rattle.drain_text.specs.First.{IsFirst}
pub use Rattle.drain_verdict.specs.Answers.{ForAudit, IsAnswer, IsAnswerIn}
pub use Rattle.drain_verdict.specs.DemGround.{AreHeadersKept, DemTakesAtMost, DemTexts, DemUses, EncodesDem, ForDem, IsDemHeader, IsDemInput, dem_audit_devices, dem_devices, dem_ground}
pub use Rattle.drain_verdict.specs.GroundSets.{ForSet, GroundSet, IsReadable, IsRefusalIn, set_grid, set_products}
pub use Rattle.drain_verdict.specs.Inputs.{AreNames, Inputs, as_five}
pub use Rattle.drain_verdict.specs.Meaning.{input_grid, texts_of, tiling_of}
pub use Rattle.drain_verdict.specs.Refusals.{IsOfBodies, Stands, refusal_order}
pub use Rattle.drain_verdict.specs.Stages.{IsLayoutOf, IsTileRefusal}
pub use Rattle.drain_verdict.specs.TileGround.{TellTiles, set_of}
pub use Rattle.std.specs.List.{AllZip, flat_map}
pub use Rattle.std.specs.Prelude.{Bool, Err, IfErr, IfOk, IfSome, IsErrOf, IsNone, IsSome, List, Ok, OnOk, Option, Result, Some, [], false, is_some, length, map, nat_lt, pos, slice_index_or, true, vec_len, ℕ, ℤ}
