-- The names that this crate's proofs cite, passed on from one place. Declares nothing.
pub use Rattle.byteorder.specs.Endian.{little_number, twos_complement}
pub use Rattle.byteorder.specs.Numbers.{big_from-take, big_number-reads_back, length-bytes_high_first, length-bytes_low_first, little_from-take, little_number-reads_back}
pub use Rattle.drain_device.proofs.FaultLists.{PartFails-after, PartFails-ok, PartFails-then}
pub use Rattle.drain_device.proofs.PartLemmas.{answered_more, comes-both, fails-later, row-fails, take-put_mid_part, within-put_mid}
pub use Rattle.drain_device.specs.Failing.{GivesUpWriting, PartFails, WriteFails, full_patience}
pub use Rattle.drain_device.specs.RowSteps.{Gives, ReadsWithin, RowComes, after_rows, coming_at, ends_wrong, most_at, nth_row}
pub use Rattle.drain_device.specs.RowSteps.Coming.{Next, Wrong}
pub use Rattle.drain_device.specs.declared.patience.GaveUp.{GaveUp}
pub use Rattle.drain_floats.specs.Patterns.{IsFloatNumber, IsSingle, number_of, pattern_of}
pub use Rattle.drain_grid.proofs.Tallies.{grown}
pub use Rattle.drain_grid.specs.Extent.{Extent, IsCellOf, cells, index_of, row_cells}
pub use Rattle.drain_grid.specs.Grid.{Pixels}
pub use Rattle.drain_grid.specs.Values.{IsNoData, IsPixel}
pub use Rattle.drain_grid.specs.declared.cell.Cell.{Cell}
pub use Rattle.drain_grid.specs.declared.height_kind.HeightKind.{HeightKind}
pub use Rattle.drain_grid.specs.declared.height_kind.HeightKind.TheVariants.{Single, Whole}
pub use Rattle.drain_header.specs.Header.{AreWithinBounds, Fields, IsCoordinate, IsPixelSize}
pub use Rattle.drain_header.specs.declared.header.ByteOrdering.{ByteOrdering}
pub use Rattle.drain_header.specs.declared.header.ByteOrdering.TheVariants.{Least, Most}
pub use Rattle.drain_pixels.specs.Stored.{f32_number, i16_number, i32_number, numbers_as, numbers_of, u16_number, u32_number, u8_number}
pub use Rattle.drain_raster.specs.Bytes.{AreWritten, CanSpell, CanSpellAll, CanSpellAs, CanSpellIn, CanSpellTo, bytes_in, bytes_of_row, cells_bytes, cells_from, complement_of, greatest_number, least_number, padding_len, pixel_bytes, raster_bytes, word_as}
pub use Rattle.drain_raster.specs.Laws.{BytesReadBack, NumbersArePixels, RasterRowsArePixels, RasterRowsEnd, RasterRowsTakeWhatIsNeeded, RasterRowsTellLengths}
pub use Rattle.drain_raster.specs.Pixels.{AreSpelled, IsShort, header_extent, needed_len, number_in, pixel_at, pixel_len, pixel_of, pixel_place, raster_of, spelled_as, spelled_by}
pub use Rattle.drain_raster.specs.RasterRows.{Hands, bytes_of_rows, packed_len, pixels_behind, pixels_of, raster_numbers_of, raster_rows}
pub use Rattle.std.proofs.Common.{Bool, Err, IfSome, IsErr, IsTrue, List, None, Ok, Option, Result, Some, [], ap, append-nil, append_assoc, arith, drop, false, get_or, inl, inr, length, lit<, map, nat_abs, neg_ℤ, negsuc, pos, refl, replicate, rules, set, subst, suc, sym, take, true, vec_len, zero, ℕ, ℤ, ◌*◌, ◌++◌, ◌+◌, ◌-ℤ◌, ◌-◌, ◌/◌, ◌<◌, ◌^◌, ◌↔◌, ◌∙◌, ◌∷◌, ◌≡◌, ◌≢◌, ◌≤◌}
pub use Rattle.std.proofs.KnownBytes.{Appends-trans, Consumes-trans}
pub use Rattle.std.proofs.Math.Nat.{div-mul-le_self, le-div_iff_mul-le, mul-le-mul, mul-le-mul_left, mul-le-mul_right, mul_comm}
pub use Rattle.std.proofs.Math.Seq.{drop-append-add, take-add, take-append-add}
pub use Rattle.std.proofs.Props.{props}
pub use Rattle.std.proofs.lemmas.Bool.{cases_lt, false≢true, le-ltb, lt-ltb}
pub use Rattle.std.proofs.lemmas.Int.{ints, to_z-of_z}
pub use Rattle.std.proofs.lemmas.List.{drop-append-le, drop-drop, drop-take, drop_at, ext_get_or, get_or-append_right, get_or-drop, get_or-map, get_or_append_left, length-map, length-replicate, length-take, length-take-le, map-append, take-append-le, take-replicate, take_all, take_at, take_more, take_more_set, take_rest}
pub use Rattle.std.proofs.lemmas.List.Concat.{flat_map-append}
pub use Rattle.std.proofs.lemmas.List.Elements.{All-append, All-get_or, All-map, All-more, All-push, All-same}
pub use Rattle.std.proofs.lemmas.List.FromFn.{get_or-map-range_with_len, length-map-range_with_len, map-range_with_len_more}
pub use Rattle.std.specs.Io.KnownBytes.{Appends, Consumes}
pub use Rattle.std.specs.List.{flat_map, range_with_len}
pub use Rattle.std.specs.Vec.{vec_capacity}
pub use borrow.Rule.Slice.PartMut.{put_mid}
pub use mathlib.Core.Logic.{∥∥₁_elim}
pub use mir.Syntax.{w128, w64}
pub use mir.Val.{of_z, to_z}
