-- The names of other crates that this crate's definitions and contracts use, passed on from one place. Declares nothing.
pub use Rattle.byteorder.specs.Endian.{big_number, twos_complement}
pub use Rattle.drain_device.specs.RowSteps.{Coming, Gives, IsEmptyUnlessRow, IsLong, ReadsWithin, RowComes, StaysEnded, coming_at, ends_wrong, most_at, nth_row, progress_after}
pub use Rattle.drain_grid.specs.Grid.{IsSample, IsSide}
pub use Rattle.drain_grid.specs.declared.tile.TheConstants.{VOID}
pub use Rattle.std.specs.Int.{cast_signed, is_negative, w16}
pub use Rattle.std.specs.Prelude.{All, Bool, Err, IfOk, IsErrOf, IsTrue, List, Ok, OnOk, Result, [], codes, drop, length, map, nat_abs, nat_lt, slice_index_or, suc, take, zero, ℕ, ℤ}
