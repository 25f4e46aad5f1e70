-- The names that this crate's proofs cite, passed on from one place. Declares nothing.
pub use Rattle.drain_files.specs.FileIds.{Clashes, IsInput, Meets, MeetsSome}
pub use Rattle.drain_files.specs.FilePaths.{IsFolderPart, IsLastPart, IsPathOf, slash}
pub use Rattle.drain_files.specs.Simplest.{AreBounds, IsBetween, IsSimplest}
pub use Rattle.drain_files.specs.declared.file_id.FileId.{FileId}
pub use Rattle.drain_files.specs.declared.file_id.Target.{Target}
pub use Rattle.drain_files.specs.declared.simplest.Ratio.{Ratio}
pub use Rattle.drain_header.specs.Header.{Fields}
pub use Rattle.drain_hgt.specs.Inputs.{names_of}
pub use Rattle.std.proofs.Common.{List, MatchOption, None, Option, Some, [], ap, arith, below_more, drop, false, get_or, inl, inr, length, length-drop, pos, refl, rules, subst, suc, sym, take, take-append-drop, vec_len, zero, ℕ, ℤ, ◌*◌, ◌++◌, ◌+◌, ◌-◌, ◌/◌, ◌<◌, ◌∙◌, ◌∷◌, ◌≡◌, ◌≤◌, ◌⊎◌}
pub use Rattle.std.proofs.Math.Nat.{div-mul_cancel, le-mul_of_pos_right, le_of_mul-le-mul_left, lt_of_mul-lt-mul_left, mul-div_cancel, mul-le-mul_left, mul-pos}
pub use Rattle.std.proofs.lemmas.Bool.{eq-eqb, eqb-true, false≢true}
pub use Rattle.std.proofs.lemmas.Int.{ints}
pub use Rattle.std.proofs.lemmas.List.{drop_more, get_or-drop, map-append, take_more, take_rest}
pub use Rattle.std.proofs.lemmas.Nat.Gcd.{IsGcd-from_mod, IsGcd-from_zero, same_from_IsGcd}
pub use Rattle.std.proofs.lemmas.Option.{get_or_from_slice_get, slice_get_within}
pub use Rattle.std.specs.Int.{IsGcd, ◌∣◌}
pub use Rattle.std.specs.List.{AllZip}
pub use Rattle.std.specs.Prelude.{int_le, slice_get, slice_range, unsigned_abs}
