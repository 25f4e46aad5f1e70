-- The names that this crate's proofs cite, passed on from one place. Declares nothing.
pub use Rattle.drain_text.specs.Parts.{is_blank, is_inked}
pub use Rattle.drain_text.specs.Text.{last_digits, lines_of, whole_number, words_of}
pub use Rattle.std.proofs.Common.{Bool, List, [], ap, arith, drop, false, get_or, length, min, refl, suc, sym, take, true, zero, ℕ, ◌%◌, ◌*◌, ◌++◌, ◌+◌, ◌-◌, ◌/◌, ◌<◌, ◌^◌, ◌∙◌, ◌∷◌, ◌≡◌, ◌≤◌}
pub use Rattle.std.proofs.Math.Nat.{mod-lt, one-le-pow, pow-suc}
pub use Rattle.std.proofs.lemmas.Bool.{eqb-false, eqb-true, le-leb, leb-true, lt-ltb, ltb-true, ne_eqb}
pub use Rattle.std.proofs.lemmas.Fmt.{decimal-digits_value, decimal_is_IsNumeral, length-decimal-le}
pub use Rattle.std.proofs.lemmas.List.{at_drop_more, drop_all, drop_more, length-take, nil_from_length, take_all, take_more, take_rest}
pub use Rattle.std.proofs.lemmas.List.Sums.{prefix_len-le-length, prefix_len_is}
pub use Rattle.std.proofs.lemmas.Str.{digit_value_digit}
pub use Rattle.std.proofs.lemmas.Str.Parse.{digit_from_value, numerals_by_value, tells_digits}
pub use Rattle.std.specs.Char.{digit_value, is_ascii_digit}
pub use Rattle.std.specs.List.{list_all, onto_first, prefix_len, slice_split}
pub use Rattle.std.specs.Prelude.{None, Option, Some, cond, decimal, filter, map, nat_lt, slice_index, ◌&&◌, ◌==◌, ◌||◌}
pub use Rattle.std.specs.Str.Lines.{strip_carriage_return}
pub use Rattle.std.specs.Str.Parse.{AllDigits, digits_value, digits_value_after}
