-- The names that this crate's proofs cite, passed on from one place. Declares nothing.
pub use Rattle.drain_device.proofs.FaultLists.{PartFails-none, PartFails-same, PartFails-then, any-cases, any-first, any-later, any-none, gave_up}
pub use Rattle.drain_device.specs.Failing.{GivesUp, PartFails, full_patience}
pub use Rattle.drain_device.specs.RowSteps.{Coming, Gives, IsEmptyUnlessRow, IsLong, ReadsWithin, StaysEnded, Steps, after_rows, coming_at, ends_wrong, most_at, nth_row, progress_after}
pub use Rattle.drain_device.specs.RowSteps.Coming.{End, Next, Wrong}
pub use Rattle.drain_device.specs.declared.counts.FaultCounts.{FaultCounts}
pub use Rattle.drain_device.specs.declared.row_source.Progress.{Progress}
pub use Rattle.drain_device.specs.declared.row_source.Progress.TheVariants.{Done, Going, Stopped}
pub use Rattle.drain_device.specs.declared.row_source.ReadFault.{ReadFault}
pub use Rattle.drain_device.specs.declared.row_source.ReadFault.TheVariants.{AlreadyFailed, ReadFailed, WrongLength}
pub use Rattle.drain_grid.proofs.Tallies.{lent_back, written_over}
pub use Rattle.drain_grid.specs.Extent.{Extent}
pub use Rattle.drain_grid.specs.Grid.{Heights, IsSample, IsSide, height_from}
pub use Rattle.drain_grid.specs.WholeGrid.{elevation_at}
pub use Rattle.drain_grid.specs.declared.cell.Cell.{Cell}
pub use Rattle.drain_grid.specs.declared.tile.TheConstants.{VOID}
pub use Rattle.drain_hgt.specs.Corner.{Corner, IsWithin}
pub use Rattle.drain_hgt.specs.Inputs.{AreBodies, IsFirstBadLength, TilesTakeAtMost, names_of, tile_devices}
pub use Rattle.drain_hgt.specs.Samples.{IsTile, samples_of, tile_length, tile_sample_at}
pub use Rattle.drain_hgt.specs.TileRows.{tile_coming, tile_most_bytes, tile_rows}
pub use Rattle.drain_hgt.specs.declared.input.TileInput.{TileInput}
pub use Rattle.drain_hgt.specs.declared.tile_rows.TileRows.{TileRows}
pub use Rattle.drain_mosaic.specs.GivenTiles.{AreBoundsOf, AreTilingNumbers, HasLayoutFault, IsFirstRepeated, IsLayout, IsRepeatedAt, frame_of, given_samples, given_tiles, layout_fault_order, stream_at, tile_streams, whole_rows}
pub use Rattle.drain_mosaic.specs.JoinedRows.{AgreeAbove, AreJoinedRows, AreTwo, Conflict, ConflictAt, ConflictOver, IsJoinedRow, IsLaidOver, IsLeastOf, IsRefusedAt, IsSeamAlong, filled, first_of}
pub use Rattle.drain_mosaic.specs.Laws.{AgreementGivesElevation, NewRowsAreOfBodies, RowsAreFirstValues, RowsAreWhole, RowsEnd, RowsTellLengths, RowsTellSeams, WholeTilesGiveTheirSamples}
pub use Rattle.drain_mosaic.specs.Mosaic.{AreTiles, Covers, HasTwoValues, IsElevation, IsFirstSeam, IsValue, ShowsSample, Tile, TilesAgree, first_value, sample_over, tiles_of, value_from}
pub use Rattle.drain_mosaic.specs.PlacedRows.{ArePlacedWithin, AreTold, HasEnded, HasRead, HaveEnded, HaveRead, IsAtStart, IsPlacedAt, IsPlacedWithin, IsRowLaid, IsTileRowLaid, first_stopped, if_stopped, stop_of, stream_of, streams_of}
pub use Rattle.drain_mosaic.specs.Streams.{Frame, Stream, cell_at, end_stream, first_from, first_sample, in_conflict, is_across, is_over, is_seam, mosaic_row, mosaic_rows, next_stream, sample_given, seam_from, wrong_from}
pub use Rattle.drain_mosaic.specs.Tiling.{Tiling, extent_of, greatest, least, left_of, north_of, tiles_across, tiles_down, top_left_of, top_of, west_of}
pub use Rattle.drain_mosaic.specs.declared.layout.LayoutFault.TheVariants.{BoxTooLarge, NoTiles, RepeatedTile}
pub use Rattle.drain_mosaic.specs.declared.placed_rows.PlacedRows.{PlacedRows}
pub use Rattle.std.proofs.Common.{Bool, Err, IfErr, IfOk, IsErrOf, IsTrue, List, MatchOption, Ok, Option, Result, SFits, Some, [], ap, arith, below_more, drop, false, fold, get_or, inl, inr, int_eq, is_ok, length, map, max, min, nat_abs, negsuc, not, of_z, option_map, pos, refl, rules, set, slice_get, subst, suc, sym, take, to_z, true, vec_len, w16, w8, zero, ℕ, ℤ, ◌&&◌, ◌*◌, ◌++◌, ◌+ℤ◌, ◌+◌, ◌-ℤ◌, ◌-◌, ◌/◌, ◌<◌, ◌^◌, ◌||◌, ◌↔◌, ◌∙◌, ◌∷◌, ◌≡◌, ◌≢◌, ◌≤ℤ◌, ◌≤◌}
pub use Rattle.std.proofs.KnownBytes.{Consumes-nil, Consumes-trans}
pub use Rattle.std.proofs.Math.Nat.{div-eq-sub-div, div-eq_of_eq-mul_left, div-eq_of_lt, mul-le-mul_right}
pub use Rattle.std.proofs.lemmas.Bool.{and_from, and_left, and_parts, and_right, cases_lt, false≢true, le-leb, le-ltb, leb-true, lt-leb, lt-ltb, ltb-true, or_from, or_left, or_right}
pub use Rattle.std.proofs.lemmas.Bool.Decides.{Decides-int_eq}
pub use Rattle.std.proofs.lemmas.Int.{clamps, ints, to_z-of_z}
pub use Rattle.std.proofs.lemmas.List.{get_or-append-add, get_or-drop, get_or-map, get_or-take, get_or_append_left, length-drop, length-map, length-take-le, take-append-drop, take_all, take_more}
pub use Rattle.std.proofs.lemmas.List.Elements.{All-cons, All-nil, All-push, All-same, All-set, All-tail}
pub use Rattle.std.proofs.lemmas.List.FromFn.{fill_by_all, get_or-map-range_with_len, length-map-range_with_len}
pub use Rattle.std.proofs.lemmas.Option.{get_or_from_slice_get, same_Some, slice_get-get_or, slice_get_read}
pub use Rattle.std.specs.Int.{int_max, int_min}
pub use Rattle.std.specs.List.{All, AllZip, Any, list_any}
pub use Rattle.std.specs.Option.{option_or}
pub use Rattle.std.specs.Prelude.{IsSome, nat_le, nat_lt, slice_index_or, slice_range, unwrap_or, ◌==◌, ◌⊎◌}
