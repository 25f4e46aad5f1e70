-- The names that this crate's proofs cite, passed on from one place. Declares nothing.
pub use Rattle.drain_args.specs.PlaceTexts.{is_comma, is_side_letter, numbers_of}
pub use Rattle.drain_args.specs.SpacingTexts.{ArePartsOf, IsDecimal, IsFewDigits, IsLeastUnit, IsSpacingText, IsUnits, IsWritten, comma, point}
pub use Rattle.drain_text.proofs.Digits.{both, digit_worth, last_digits}
pub use Rattle.drain_text.specs.Text.{whole_number}
pub use Rattle.std.proofs.Common.{List, MatchOption, None, Option, Some, [], ap, arith, false, get_or, inl, inr, length, map, min, refl, rules, subst, suc, sym, take, tests, true, zero, ℕ, ◌%◌, ◌&&◌, ◌*◌, ◌++◌, ◌+◌, ◌-◌, ◌/◌, ◌<◌, ◌^◌, ◌∙◌, ◌∷◌, ◌≡◌, ◌≢◌, ◌≤◌}
pub use Rattle.std.proofs.Math.Nat.{mul-div_cancel, one-le-pow, pow-le-pow_right, pow-suc}
pub use Rattle.std.proofs.lemmas.Str.Parse.{IsNumeralModel, digit_at, digit_from_value, not_in_digits, numerals_by_value, tells_digits}
pub use Rattle.std.proofs.lemmas.Str.Pattern.{IsSplitOnceResult, split_after, split_once_first, split_parts}
pub use Rattle.std.specs.Borrow.{Bor}
pub use Rattle.std.specs.Char.{is_ascii_digit}
pub use Rattle.std.specs.List.{after_first, join_with_byte, list_all, onto_first, position_or_len, slice_split}
pub use Rattle.std.specs.Prelude.{if◌then◌else◌, nat_le, nat_lt}
pub use Rattle.std.specs.Str.Parse.{AllDigits, digits_value}
