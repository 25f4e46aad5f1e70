-- Coordinates and no-data numbers of words are within the bounds of a header.
use Rattle.drain_header.proofs.Names.{◌≤◌, Bool, true, false, arith, ap, inl, inr, ◌<◌, pos, neg_ℤ, ◌≤ℤ◌, ◌&&◌, ◌||◌, ◌==◌, ◌⊎◌, negsuc, nat_le, nat_lt, cond, Option, Some, None, IfSome, option_and_then, ints, le-leb, leb-true, lt-ltb, ltb-true, eqb-true, ∥∥₁_elim, le_prop, IsNoData, float_nodata, HeightKind, Whole, Single, IsCoordinate, IsPixelSize, IsPixelSizeOf, Seen, signed_in, IsNoDataOf, decimal_of, is_small, is_whole, in_units, with_sign, coordinate_of, decimal_nodata}
use Rattle.std.proofs.Common.{◌≡◌, ℕ, List, refl}
use Rattle.std.specs.Prelude.{ℤ}
use Rattle.drain_floats.specs.Patterns.{IsFloatNumber}
use Rattle.drain_floats.proofs.Numbers.{float_number_within}
use Rattle.drain_header.proofs.Units.{small_magnitude}

sign_low : (b : Bool) (m k : ℕ) → m ≤ k → neg_ℤ (pos k) ≤ℤ with_sign b m
sign_low true m k h = omega (arith, ints)
sign_low false m k h = omega (arith, ints)

sign_high : (b : Bool) (m k : ℕ) → m ≤ k → with_sign b m ≤ℤ pos k
sign_high true m k h = omega (arith, ints)
sign_high false m k h = omega (arith, ints)

pub coordinate_within : (word : List ℕ) (z : ℤ) → coordinate_of word ≡ Some z → IsCoordinate z
coordinate_within word z e = elim (decimal_of word) as (λ o. option_and_then (λ d. cond (is_small d) (Some (in_units 15 d)) None) o ≡ Some z → IsCoordinate z) [
  | None ↦ λ is. cc
  | Some d ↦ λ is. elim (is_small d) as (λ b. is_small d ≡ b → cond b (Some (in_units 15 d)) None ≡ Some z → IsCoordinate z) [
    | true ↦ λ small same. (
        let value : in_units 15 d ≡ z = cc in
        let fits = small_magnitude d 15 small in
        rw (← value) (record { low = sign_low d.negative _ 10000000000000000000000000 fits; high = sign_high d.negative _ 10000000000000000000000000 fits }))
    | false ↦ λ small same. cc
  ] refl is
] e

both : (a b : Bool) (x : Option ℤ) (z : ℤ) → cond (a && b) x None ≡ Some z → (a ≡ true) × (x ≡ Some z)
both true true x z e = (refl, e)
both true false x z e = cc
both false b x z e = cc

pub nodata_within : (word : List ℕ) (z : ℤ) → decimal_nodata word ≡ Some z → IsNoData z
nodata_within word z e = elim (decimal_of word) as (λ o. option_and_then (λ d. cond (is_small d && is_whole d) (Some (in_units 0 d)) None) o ≡ Some z → IsNoData z) [
  | None ↦ λ is. cc
  | Some d ↦ λ is. (
      let found = both (is_small d) (is_whole d) (Some (in_units 0 d)) z is in
      let same = found.1 in
      let value : in_units 0 d ≡ z = cc in
      let fits = small_magnitude d 0 found.0 in
      rw (← value) (record { low = sign_low d.negative _ 10000000000 fits; high = sign_high d.negative _ 10000000000 fits }))
] e

pub float_within : (word : List ℕ) (z : ℤ) → float_nodata word ≡ Some z → IsFloatNumber z
float_within = float_number_within

pub float_is_nodata : (z : ℤ) → IsFloatNumber z → IsNoData z
float_is_nodata z (inl single) = let low = single.low in let high = single.high in record { low = omega (arith, ints); high = omega (arith, ints) }
float_is_nodata z (inr nan) = record { low = omega (arith, ints, nan); high = omega (arith, ints, nan) }

-- What the bounds of a header say of its kind.

pub whole_size : (kind : HeightKind) (bits : ℕ) → IsPixelSizeOf kind bits → IsPixelSize bits
whole_size Whole bits is = is
whole_size Single bits is = inr (inr is)

pub float_size : (kind : HeightKind) (bits : ℕ) → IsPixelSizeOf kind bits → kind ≡ Single → bits ≡ 32
float_size Whole bits is single = cc
float_size Single bits is single = is

pub float_sign : (kind : HeightKind) (seen : Seen) → kind ≡ Single → signed_in kind seen ≡ true
float_sign Whole seen single = cc
float_sign Single seen single = refl

pub whole_nodata : (kind : HeightKind) (o : Option ℤ) → IfSome o (IsNoDataOf kind) → IfSome o IsNoData
whole_nodata kind None is = tt
whole_nodata Whole (Some z) is = is
whole_nodata Single (Some z) is = float_is_nodata z is

pub float_nodata_bound : (kind : HeightKind) (o : Option ℤ) → IfSome o (IsNoDataOf kind) → kind ≡ Single → IfSome o IsFloatNumber
float_nodata_bound Whole o is single = cc
float_nodata_bound Single o is single = is

-- the size that was taken
pub size_taken : (b : Bool) (n bits : ℕ) → Some bits ≡ cond b (Some n) None → (b ≡ true) × (n ≡ bits)
size_taken true n bits e = (refl, cc)
size_taken false n bits e = cc

-- a number of a float, by a test: what is known of it under a truncation is known without one
float_test : ℤ → Bool
float_test (pos k) = nat_le k 2139095040 || (k == 2143289344)
float_test (negsuc k) = nat_lt k 2139095040

float_told : (z : ℤ) → IsFloatNumber z → float_test z ≡ true
unfolding float_test
float_told (pos k) (inl is) = let high = is.high in ap (λ b. b || (k == 2143289344)) (le-leb k 2139095040 (omega (arith, ints)))
float_told (pos k) (inr is) = let same : k ≡ 2143289344 = omega (arith, ints, is) in rw same refl
float_told (negsuc k) (inl is) = let low = is.low in lt-ltb k 2139095040 (omega (arith, ints))
float_told (negsuc k) (inr is) = cc

either_true : (a b : Bool) → (a || b) ≡ true → (a ≡ true) ⊎ (b ≡ true)
either_true true b e = inl refl
either_true false b e = inr e

float_back : (z : ℤ) → float_test z ≡ true → IsFloatNumber z
unfolding float_test
float_back (pos k) e = elim (either_true (nat_le k 2139095040) (k == 2143289344) e) [
  | inl few ↦ (let high : k ≤ 2139095040 = leb-true _ _ few in inl (record { low = omega (arith, ints); high = omega (arith, ints) }))
  | inr same ↦ inr (ap (λ (n : ℕ). pos n) (eqb-true _ _ same))
]
float_back (negsuc k) e = let few : k < 2139095040 = ltb-true _ _ e in inl (record { low = omega (arith, ints); high = omega (arith, ints) })

abbrev misses : Bool → ℕ
misses true = 0
misses false = 1

no_miss : (b : Bool) → misses b ≤ 0 → b ≡ true
no_miss true h = refl
no_miss false h = absurd (omega arith)

hit : (b : Bool) → b ≡ true → misses b ≤ 0
hit b e = rw e (omega arith)

pub float_known : (o : Option ℤ) → ∥ IfSome o IsFloatNumber ∥₁ → IfSome o IsFloatNumber
float_known None t = tt
float_known (Some z) t = float_back z (no_miss (float_test z) (∥∥₁_elim t le_prop (λ is. hit (float_test z) (float_told z is))))
