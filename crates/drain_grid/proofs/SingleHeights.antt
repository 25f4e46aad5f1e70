-- Numbers are ordered as their heights: within one exponent by the digits, and a greater exponent's digits are at least half of
-- what the lower one's can reach.
use Rattle.drain_grid.proofs.Names.{◌≡◌, ℕ, suc, ◌+◌, ◌*◌, ◌%◌, ◌^◌, ◌<◌, ◌≤◌, ◌↔◌, ℤ, pos, negsuc, ◌<ℤ◌, inl, inr, sym, subst, arith, mul-le-mul_right, mul-lt-mul_of_pos_right, two-pow-succ, cases_lt, ints, by_lt_z, pow_pos, HeightKind, Whole, Single, digits_of, shift_of, magnitude_of, single_height, height_of}
use Rattle.std.proofs.Math.Pow.{pow_mono}

-- below the least exponent's end the digits are the place
low_digits : (k : ℕ) → k < 8388608 → digits_of k ≡ k
low_digits k h = grind arith

high_digits : (k : ℕ) → 8388608 ≤ k → digits_of k ≡ 8388608 + k % 8388608
high_digits k h = grind arith

-- digits times a power, by quotients
below_next : (d e s t : ℕ) → d < 16777216 → 8388608 ≤ e → s < t → d * 2 ^ s < e * 2 ^ t
below_next d e s t few many less =
    let some = pow_pos s in
    let first : d * 2 ^ s < 16777216 * 2 ^ s = mul-lt-mul_of_pos_right few some in
    let twice : 2 ^ suc s ≡ 2 ^ s + 2 ^ s = two-pow-succ s in
    let more : 2 ^ suc s ≤ 2 ^ t = pow_mono less in
    let second : 8388608 * 2 ^ t ≤ e * 2 ^ t = mul-le-mul_right (2 ^ t) many in
    omega (arith, first, twice, more, second)

digits_below : (k : ℕ) → digits_of k < 16777216
digits_below k = elim (cases_lt k 8388608) [
  | inl low ↦ let is = low_digits k low in omega (arith, is, low)
  | inr high ↦ let is = high_digits k high in omega (arith, is)
]

shift_is_0 : (k : ℕ) → k < 8388608 → shift_of k ≡ 0
shift_is_0 k low = omega arith

-- where the shift isn't 0, the digits have a leading 1
digits_from : (k : ℕ) → 0 < shift_of k → 8388608 ≤ digits_of k
digits_from k some = elim (cases_lt k 8388608) [
  | inl low ↦ absurd (let none = shift_is_0 k low in omega (arith, none, some))
  | inr high ↦ let is = high_digits k high in omega (arith, is)
]

shifts_rise : (a b : ℕ) → a < b → shift_of a ≤ shift_of b
shifts_rise a b less = omega arith

-- of one shift, digits rise with the place
digits_rise : (a b : ℕ) → a < b → shift_of a ≡ shift_of b → digits_of a < digits_of b
digits_rise a b less same = elim (cases_lt a 8388608) [
  | inl low_a ↦ elim (cases_lt b 8388608) [
    | inl low_b ↦ let is_a = low_digits a low_a in let is_b = low_digits b low_b in omega (arith, is_a, is_b, less)
    | inr high_b ↦ let is_a = low_digits a low_a in let is_b = high_digits b high_b in omega (arith, is_a, is_b, low_a)
  ]
  | inr high_a ↦
      let high_b : 8388608 ≤ b = omega (arith, less, high_a) in
      let is_a = high_digits a high_a in
      let is_b = high_digits b high_b in
      omega (arith, is_a, is_b, less, same, high_a, high_b)
]

-- the magnitude rises with the place
pub magnitudes_rise : (a b : ℕ) → a < b → magnitude_of a < magnitude_of b
magnitudes_rise a b less = elim (cases_lt (shift_of a) (shift_of b)) [
  | inl less_shift ↦
      below_next (digits_of a) (digits_of b) (shift_of a) (shift_of b) (digits_below a) (digits_from b (omega (arith, less_shift))) less_shift
  | inr not_less ↦
      let rise = shifts_rise a b less in
      let same : shift_of a ≡ shift_of b = omega (arith, rise, not_less) in
      subst (λ s. digits_of a * 2 ^ shift_of a < digits_of b * 2 ^ s) same (mul-lt-mul_of_pos_right (digits_rise a b less same) (pow_pos (shift_of a)))
]

-- the height rises with the number
pub heights_rise : (a b : ℤ) → a <ℤ b → single_height a <ℤ single_height b
heights_rise (pos a) (pos b) less = let rise = magnitudes_rise a b (omega (arith, ints, less)) in omega (arith, ints, rise)
heights_rise (pos a) (negsuc b) less = absurd (omega (arith, ints, less))
heights_rise (negsuc a) (pos b) less =
    let some : magnitude_of 0 < magnitude_of (suc a) = magnitudes_rise 0 (suc a) (omega arith) in omega (arith, ints, some)
heights_rise (negsuc a) (negsuc b) less =
    let rise = magnitudes_rise (suc b) (suc a) (omega (arith, ints, less)) in omega (arith, ints, rise)

single_order : (a b : ℤ) → (a <ℤ b) ↔ (single_height a <ℤ single_height b)
single_order a b = (
  heights_rise a b,
  (λ rise. by_lt_z a b (λ less. less) (λ most. absurd (by_lt_z b a
      (λ other. let falls = heights_rise b a other in omega (arith, ints, rise, falls))
      (λ least. let same : a ≡ b = omega (arith, ints, most, least) in
      (let self : single_height a <ℤ single_height a = subst (λ x. single_height a <ℤ single_height x) (sym same) rise in omega (arith, ints, self)))))),
)

-- numbers of either kind are ordered as the heights that they stand for
pub numbers_order : (kind : HeightKind) (a b : ℤ) → (a <ℤ b) ↔ (height_of kind a <ℤ height_of kind b)
numbers_order Whole a b = ((λ h. h), (λ h. h))
numbers_order Single a b = single_order a b
