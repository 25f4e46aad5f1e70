-- The names of other crates that this crate's definitions and contracts use, passed on from one place. Declares nothing.
pub use Rattle.byteorder.specs.Endian.{big_bytes, big_number, little_bytes, little_number, twos_complement}
pub use Rattle.drain_device.specs.Counts.{Answered, HandsOver, counted}
pub use Rattle.drain_device.specs.Failing.{GivesUpWriting, PartFails, WriteFails, full_patience}
pub use Rattle.drain_device.specs.RowSteps.{Coming, Gives, IsEmptyUnlessRow, IsLong, PartComes, ReadsWithin, RowComes, StaysEnded, after_rows, coming_at, ends_wrong, most_at, nth_row, progress_after}
pub use Rattle.drain_device.specs.RowSteps.Coming.{End, Next, Wrong}
pub use Rattle.drain_floats.specs.Patterns.{IsFloatNumber, number_of, pattern_of}
pub use Rattle.drain_grid.specs.Extent.{Extent, IsCellOf, IsEarlier, cells, row_cells}
pub use Rattle.drain_grid.specs.Grid.{ArePixels, Pixels}
pub use Rattle.drain_grid.specs.Values.{IsNoData, IsPixel}
pub use Rattle.drain_grid.specs.WholeGrid.{number_at}
pub use Rattle.drain_grid.specs.declared.cell.Cell.{Cell}
pub use Rattle.drain_grid.specs.declared.height_kind.HeightKind.{HeightKind}
pub use Rattle.drain_grid.specs.declared.height_kind.HeightKind.TheVariants.{Single, Whole}
pub use Rattle.drain_header.specs.Header.{AreWithinBounds, Fields, IsCoordinate}
pub use Rattle.drain_header.specs.declared.header.ByteOrdering.{ByteOrdering}
pub use Rattle.drain_header.specs.declared.header.ByteOrdering.TheVariants.{Least, Most}
pub use Rattle.drain_pixels.specs.Stored.{numbers_as}
pub use Rattle.std.specs.List.{flat_map, range_with_len}
pub use Rattle.std.specs.Prelude.{All, Bool, Err, IfOk, IsErr, IsErrOf, IsTrue, List, MatchOption, None, OnOk, Option, Result, [], drop, false, length, map, nat_abs, nat_lt, neg_ℤ, negsuc, pos, replicate, slice_index_or, suc, take, true, unwrap_or, vec_len, zero, ℕ, ℤ}
