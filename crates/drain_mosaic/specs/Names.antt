-- The names of other crates that this crate's definitions and contracts use, passed on from one place. Declares nothing.
pub use Rattle.drain_device.specs.RowSteps.{Coming, IsEmptyUnlessRow, IsLong, ReadsWithin, StaysEnded, Steps, after_rows, coming_at, ends_wrong, nth_row, progress_after}
pub use Rattle.drain_device.specs.RowSteps.Coming.{End, Next}
pub use Rattle.drain_device.specs.declared.row_source.Progress.{Progress}
pub use Rattle.drain_device.specs.declared.row_source.Progress.TheVariants.{Done, Going, Stopped}
pub use Rattle.drain_grid.specs.Extent.{Extent, IsCellOf, IsEarlier}
pub use Rattle.drain_grid.specs.Grid.{IsSample, IsSide, height_from}
pub use Rattle.drain_grid.specs.declared.cell.Cell.{Cell}
pub use Rattle.drain_grid.specs.declared.tile.TheConstants.{VOID}
pub use Rattle.drain_hgt.specs.Corner.{Corner, IsWithin}
pub use Rattle.drain_hgt.specs.Inputs.{AreBodies, IsFirstBadLength, names_of}
pub use Rattle.drain_hgt.specs.Samples.{IsTile, samples_of, tile_sample_at}
pub use Rattle.drain_hgt.specs.TileRows.{tile_coming, tile_most_bytes, tile_rows}
pub use Rattle.drain_hgt.specs.declared.input.TileInput.{TileInput}
pub use Rattle.std.specs.List.{All, AllZip, Any, fold, list_any, range_with_len}
pub use Rattle.std.specs.Option.{option_or}
pub use Rattle.std.specs.Ordering.{int_eq}
pub use Rattle.std.specs.Prelude.{Bool, EachIndex, Err, IfErr, IfOk, IfSome, IsErrOf, IsOk, IsSome, IsTrue, List, MatchOption, None, Ok, OnOk, Option, Result, Some, [], length, map, min, nat_abs, nat_le, nat_lt, not, option_map, pos, slice_get, slice_index_or, suc, take, unwrap_or, zero, ℕ, ℤ}
