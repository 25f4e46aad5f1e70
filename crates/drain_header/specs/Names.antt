-- The names of other crates that this crate's definitions and contracts use, passed on from one place. Declares nothing.
pub use Rattle.drain_floats.specs.Patterns.{IsFloatNumber}
pub use Rattle.drain_floats.specs.Words.{IsFloatWord, float_nodata}
pub use Rattle.drain_grid.specs.Values.{IsNoData}
pub use Rattle.drain_grid.specs.declared.height_kind.HeightKind.{HeightKind}
pub use Rattle.drain_grid.specs.declared.height_kind.HeightKind.TheVariants.{Single, Whole}
pub use Rattle.drain_text.specs.Text.{last_digits, lines_of, whole_number, words_of}
pub use Rattle.std.specs.Fmt.{sign_text, signed_decimal}
pub use Rattle.std.specs.Int.{is_negative}
pub use Rattle.std.specs.Prelude.{Bool, Err, IfOk, IfSome, IsFalse, List, None, Ok, OnOk, Option, Result, Some, [], bytes_eq, codes, decimal, drop, false, find, is_none, is_some, length, min, nat_eq, nat_le, nat_lt, neg_ℤ, not, option_and_then, option_map, pos, replicate, slice_get, slice_index, slice_index_or, slice_set, suc, true, unsigned_abs, unwrap_or, zero, ℕ, ℤ}
pub use Rattle.std.specs.Str.Parse.{AllDigits, digits_value, digits_value_after}
