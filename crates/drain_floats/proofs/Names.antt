-- The names that this crate's proofs cite, passed on from one place. Declares nothing.
pub use Rattle.drain_floats.specs.Patterns.{IsFloatNumber, IsSingle, number_of, pattern_of}
pub use Rattle.drain_floats.specs.Words.{AreAboveSpace, IsFloatWord, float_nodata, float_number}
pub use Rattle.std.proofs.Common.{Bool, List, [], ap, arith, false, inl, inr, length, length-append, nat_lt, neg_ℤ, negsuc, of_z, pos, refl, rules, subst, suc, sym, to_z, true, ℕ, ℤ, ◌%◌, ◌*◌, ◌++◌, ◌+◌, ◌-◌, ◌<◌, ◌^◌, ◌∙◌, ◌∷◌, ◌≡◌, ◌≤◌}
pub use Rattle.std.proofs.lemmas.Bool.{false≢true, ltb-false, ltb-true}
pub use Rattle.std.proofs.lemmas.Int.{ints, to_z-of_z}
pub use Rattle.std.specs.Float.{binary32}
pub use Rattle.std.specs.Float.Numeral.{Parts, exponent_text, has_digits, minus, numeral_digits, scan_numeral, tens_down, tens_up, text_of}
pub use Rattle.std.specs.Int.{w64}
pub use Rattle.std.specs.Prelude.{IsFalse, IsTrue, None, Option, codes, drop, if◌then◌else◌, option_and_then, option_map, slice_index, ◌==◌}
pub use lib.Dec.{T}
pub use lib.Ieee.{fits, nan_bits, of_bits}
pub use lib.Ieee.Bits.{nan_bits_is, to_bits-lt, to_bits-of_bits}
pub use mathlib.Core.Bool.{not}
