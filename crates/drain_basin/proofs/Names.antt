-- The names that this crate's proofs cite, passed on from one place. Declares nothing.
pub use Rattle.drain_basin.specs.Admitted.{IsAdmitted, LabelSet, high_bit, low_bit, set_bit, word}
pub use Rattle.std.proofs.Common.{Bool, FitsSigned, IsSome, IsTrue, List, None, Option, Some, ap, arith, bit_and, bit_or, cond, false, get_or, inl, inr, length, max, nat_eq, of_z, refl, replicate, rules, slice_set, subst, suc, sym, take, to_z, true, unwrap_or, w16, w64, zero, ℕ, ℤ, ◌%◌, ◌*◌, ◌++◌, ◌+◌, ◌-◌, ◌/◌, ◌<◌, ◌^◌, ◌↔◌, ◌∙◌, ◌≡◌, ◌≢◌, ◌≤◌, ◌⊎◌}
pub use Rattle.std.proofs.lemmas.Bool.{cases_Bool, cases_eq, cases_lt, cond-true, eq-eqb, eqb-true, false≢true}
pub use Rattle.std.proofs.lemmas.Grind.{common_steps}
pub use Rattle.std.proofs.lemmas.Nat.Bits.{bit_at-lt, bit_at-zero, bit_at_above, bit_at_cat_high, bit_at_cat_low, bit_at_or, bit_at_set_other, bit_at_set_same, shr_and_one}
pub use Rattle.std.specs.Int.{Width, bit_at, cast_signed, cast_unsigned}
