-- A magnitude in units decides whether a decimal is small, and is its value.
use Rattle.drain_header.proofs.Names.{suc, ◌+◌, ◌-◌, ◌*◌, ◌/◌, ◌%◌, ◌^◌, ◌<◌, ◌≤◌, Bool, true, false, arith, sym, ap, ◌∙◌, inl, inr, ◌&&◌, ◌==◌, ◌⊎◌, nat_lt, cond, Option, Some, None, option_and_then, if◌then◌else◌, div_below, div-mul-add, mod-mul-add, le-leb, leb-true, lt-leb, eqb-true, eqb-false, ltb-true, ltb-false, Parts, numeral_digits, tens_up, tens_down, Decimal, decimal_from, decimal_of, is_small, is_whole, in_units, with_sign, coordinate_of, decimal_nodata, IsScaled, mul-le-mul_right, one-le-pow}
use Rattle.std.proofs.Common.{◌≡◌, ℕ, List, refl}
use Rattle.std.specs.Prelude.{ℤ}

-- a quotient below the limit, or at the limit with no rest
pub within_limit : (a c q r m k : ℕ) → a * m ≡ q * c + r → r < c → 0 < m → ((q < k * m) ⊎ ((q ≡ k * m) × (r ≡ 0))) → a ≤ k * c
within_limit a c q r m k sum below some why = elim (nat_lt (k * c) a) as (λ b. nat_lt (k * c) a ≡ b → a ≤ k * c) [
  | true ↦ λ t. (
      let more : suc (k * c) * m ≤ a * m = mul-le-mul_right m (ltb-true _ _ t) in
      elim why [
        | inl less ↦ absurd (let most : suc q * c ≤ k * m * c = mul-le-mul_right c less in omega arith)
        | inr same ↦ absurd (let e : q * c ≡ k * m * c = ap (λ (x : ℕ). x * c) same.0 in omega arith)
      ])
  | false ↦ λ t. ltb-false _ _ t
] refl

-- a quotient above the limit, or at the limit with a rest
pub past_limit : (a c q r m k : ℕ) → a * m ≡ q * c + r → r < c → ((k * m < q) ⊎ ((q ≡ k * m) × (0 < r))) → k * c < a
past_limit a c q r m k sum below why = elim (nat_lt (k * c) a) as (λ b. nat_lt (k * c) a ≡ b → k * c < a) [
  | true ↦ λ t. ltb-true _ _ t
  | false ↦ λ t. (
      let less : a * m ≤ k * c * m = mul-le-mul_right m (ltb-false _ _ t) in
      elim why [
        | inl more ↦ absurd (let least : suc (k * m) * c ≤ q * c = mul-le-mul_right c more in omega arith)
        | inr same ↦ absurd (let e : q * c ≡ k * m * c = ap (λ (x : ℕ). x * c) same.0 in omega arith)
      ])
] refl

-- the greatest number of 128 bits
abbrev top : ℕ
top = 2 ^ 128 - 1

-- a result within the limit is the value
pub small_units : (negative : Bool) (parts : Parts) (places told limit : ℕ) (ex : Bool) → IsScaled parts places told ex
    → limit ≡ 10000000000 * 10 ^ places → limit < 2 ^ 127 → ((told < limit) ⊎ ((told ≡ limit) × (ex ≡ true)))
    → (is_small (decimal_from negative parts) ≡ true) × (in_units places (decimal_from negative parts) ≡ with_sign negative told)
small_units negative parts places told limit ex s is fits why =
    let same : s.units ≡ told = elim why [ inl less ↦ omega (arith, s.told_is) | inr at ↦ omega (arith, s.told_is, at.0) ] in
    let some = one-le-pow places 10 (omega arith) in
    let low = within_limit (numeral_digits parts * 10 ^ tens_up parts) (10 ^ tens_down parts) s.units s.rest (10 ^ places) 10000000000 s.sum s.below (omega arith)
    (elim why [ inl less ↦ inl (omega arith) | inr at ↦ inr (omega (arith, at.0), eqb-true _ _ (sym s.exact_is ∙ at.1)) ]) in (
      le-leb _ _ low,
      ap (λ (x : ℕ). with_sign negative (x / 10 ^ tens_down parts)) s.sum ∙ ap (with_sign negative) (div-mul-add s.units (10 ^ tens_down parts) s.rest s.below ∙ same),
    )

-- and a result past the limit is too great
pub great_units : (negative : Bool) (parts : Parts) (places told limit : ℕ) (ex : Bool) → IsScaled parts places told ex
    → limit ≡ 10000000000 * 10 ^ places → limit < 2 ^ 127 → ((limit < told) ⊎ ((told ≡ limit) × (ex ≡ false)))
    → is_small (decimal_from negative parts) ≡ false
great_units negative parts places told limit ex s is fits why =
    let high = past_limit (numeral_digits parts * 10 ^ tens_up parts) (10 ^ tens_down parts) s.units s.rest (10 ^ places) 10000000000 s.sum s.below
    (elim why [ inl more ↦ inl (omega (arith, s.told_is)) | inr at ↦ inr (omega (arith, s.told_is, at.0), (let some = eqb-false _ _ (sym s.exact_is ∙ at.1) in omega (arith, some))) ]) in
    lt-leb _ _ high

-- a number is whole just where there is no rest
pub whole_units : (negative : Bool) (parts : Parts) (told : ℕ) (ex : Bool) → IsScaled parts 0 told ex → is_whole (decimal_from negative parts) ≡ ex
whole_units negative parts told ex s =
    let one : numeral_digits parts * 10 ^ tens_up parts ≡ s.units * 10 ^ tens_down parts + s.rest = omega (arith, s.sum) in
    ap (λ (x : ℕ). x % 10 ^ tens_down parts == 0) one ∙ ap (λ (x : ℕ). x == 0) (mod-mul-add s.units (10 ^ tens_down parts) s.rest s.below) ∙ sym s.exact_is

-- the coordinate and the no-data number of a word whose decimal is known
abbrev small_coordinate : Decimal → Option ℤ
small_coordinate d = if is_small d then Some (in_units 15 d) else None

pub coordinate_is : (word : List ℕ) (d : Decimal) (value : ℤ) → Some d ≡ decimal_of word → is_small d ≡ true → in_units 15 d ≡ value → Some value ≡ coordinate_of word
coordinate_is word d value is small e = ap (λ z. Some z) (sym e) ∙ ap (λ b. cond b (Some (in_units 15 d)) None) (sym small) ∙ ap (option_and_then small_coordinate) is

pub no_coordinate : (word : List ℕ) (d : Decimal) → Some d ≡ decimal_of word → is_small d ≡ false → None ≡ coordinate_of word
no_coordinate word d is great = ap (λ b. cond b (Some (in_units 15 d)) None) (sym great) ∙ ap (option_and_then small_coordinate) is

abbrev small_nodata : Decimal → Option ℤ
small_nodata d = if is_small d && is_whole d then Some (in_units 0 d) else None

pub nodata_is : (word : List ℕ) (d : Decimal) (value : ℤ) → Some d ≡ decimal_of word → is_small d ≡ true → is_whole d ≡ true → in_units 0 d ≡ value → Some value ≡ decimal_nodata word
nodata_is word d value is small whole e = ap (λ z. Some z) (sym e) ∙ ap (λ b. cond (b && true) (Some (in_units 0 d)) None) (sym small) ∙ ap (λ b. cond (is_small d && b) (Some (in_units 0 d)) None) (sym whole) ∙ ap (option_and_then small_nodata) is

pub no_nodata : (word : List ℕ) (d : Decimal) → Some d ≡ decimal_of word → (is_small d && is_whole d) ≡ false → None ≡ decimal_nodata word
no_nodata word d is other = ap (λ b. cond b (Some (in_units 0 d)) None) (sym other) ∙ ap (option_and_then small_nodata) is

pub and_false : (b : Bool) → (b && false) ≡ false
and_false true = refl
and_false false = refl

-- a small decimal has at most 10^10 in units
pub small_magnitude : (d : Decimal) (places : ℕ) → is_small d ≡ true → d.digits * 10 ^ d.up * 10 ^ places / 10 ^ d.down ≤ 10000000000 * 10 ^ places
small_magnitude d places small =
    let low : d.digits * 10 ^ d.up ≤ 10000000000 * 10 ^ d.down = leb-true _ _ small in
    let raised : d.digits * 10 ^ d.up * 10 ^ places ≤ 10000000000 * 10 ^ d.down * 10 ^ places = mul-le-mul_right (10 ^ places) low in
    let some = one-le-pow d.down 10 (omega arith) in
    let below = div_below (d.digits * 10 ^ d.up * 10 ^ places) (10 ^ d.down) (suc (10000000000 * 10 ^ places)) (omega arith) (omega arith) in
    omega (arith, below)
