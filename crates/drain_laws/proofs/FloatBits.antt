-- The float of a pattern is its height: the toolchain's `odd` keeps the value, digits times a power of two.
use Rattle.drain_laws.proofs.Names.{◌≡◌, ◌≢◌, ℕ, zero, suc, ◌+◌, ◌*◌, ◌/◌, ◌%◌, ◌^◌, ◌<◌, ◌≤◌, Bool, true, false, pos, negsuc, refl, sym, ◌∙◌, ap, subst, arith, digits_of, shift_of, magnitude_of, single_height}
use Rattle.std.proofs.lemmas.Bool.Decides.{nat_tests}
use borrow.Author.Tests.{ne_eqb}
use lib.Ieee.Exact.{HasValue, odd_sign}
use lib.Ieee.{Float, binary32, fin, inf, nan, odd, of_bits, of_fields}
use lib.Pow.{pow-add}
use native.Mathlib.Nat.{mul-one, mul_assoc}
use Rattle.drain_floats.specs.Patterns.{place_of, number_of}
use Rattle.drain_laws.specs.Floats.{IsFinite, has_sign, with_sign, PatternsMeanFloats}

-- the toolchain's lemmas say a value as a fraction
from_value : (x : Float) (s : Bool) (h : ℕ) → HasValue x s h (2 ^ 149) → IsFinite x s h
from_value nan s h v = v
from_value (inf t) s h v = v
from_value (fin t m (pos k)) s h v = (v.0, ap (λ n. m * n) (pow-add 2 k 149) ∙ sym (mul_assoc m (2 ^ k) (2 ^ 149)) ∙ v.1 ∙ mul-one h)
from_value (fin t m (negsuc k)) s h v = (v.0, ap (λ n. n * 2 ^ 149) (sym (mul-one m)) ∙ v.1)

-- the height at a place, by the field of the exponent and the digits below it
digits_below : (k : ℕ) → k < 8388608 → digits_of k ≡ k
digits_below k few = grind (arith, nat_tests)

digits_above : (k : ℕ) → 8388608 ≤ k → digits_of k ≡ 8388608 + k % 8388608
digits_above k many = grind (arith, nat_tests)

by_digits : (k d x : ℕ) → d ≡ digits_of k → x ≡ shift_of k → d * 2 ^ x ≡ magnitude_of k
by_digits k d x is shift = ap (λ n. n * 2 ^ x) is ∙ ap (λ n. digits_of k * 2 ^ n) shift

height_below : (k t : ℕ) → 0 ≡ k / 8388608 → t ≡ k % 8388608 → t * 2 ^ 0 ≡ magnitude_of k
height_below k t field digits =
    let is : t ≡ k = omega arith in
    by_digits k t 0 (is ∙ sym (digits_below k (omega arith))) (omega arith)

height_above : (k x t : ℕ) → suc x ≡ k / 8388608 → t ≡ k % 8388608 → (8388608 + t) * 2 ^ x ≡ magnitude_of k
height_above k x t field digits = by_digits k (8388608 + t) x (ap (λ n. 8388608 + n) digits ∙ sym (digits_above k (omega arith))) (omega arith)

-- the float of a sign, a field and digits
by_field : (k x t : ℕ) (s : Bool) → x ≡ k / 8388608 → t ≡ k % 8388608 → k < 2139095040 → HasValue (of_fields binary32 s x t) s (magnitude_of k) (2 ^ 149)
unfolding of_fields
by_field k zero t s field digits finite = subst (λ h. HasValue (odd 24 s t 0 149) s h (2 ^ 149)) (height_below k t field digits) (odd_sign 24 s t 0 149)
by_field k (suc x) t s field digits finite =
    rw (ne_eqb (suc x) 255 (λ e. omega arith))
    (subst (λ h. HasValue (odd 24 s (8388608 + t) x 149) s h (2 ^ 149)) (height_above k x t field digits) (odd_sign 24 s (8388608 + t) x 149))

infinite : (s : Bool) → of_fields binary32 s 255 0 ≡ inf s
unfolding of_fields
infinite s = refl

no_float : (s : Bool) (t : ℕ) → t ≢ 0 → of_fields binary32 s 255 t ≡ nan
unfolding of_fields
no_float s t some = rw (ne_eqb t 0 some) refl

-- a pattern has a sign, a field and digits
fields_of : (b x t : ℕ) → x ≡ place_of b / 8388608 → t ≡ place_of b % 8388608 → of_bits binary32 b ≡ of_fields binary32 (has_sign b) x t
unfolding of_bits
fields_of b x t field digits =
    let rest : b % 8388608 ≡ t = omega arith in
    ap (λ n. of_fields binary32 (has_sign b) n (b % 8388608)) (sym field) ∙ ap (of_fields binary32 (has_sign b) x) rest

finite : (b : ℕ) → place_of b < 2139095040 → IsFinite (of_bits binary32 b) (has_sign b) (magnitude_of (place_of b))
finite b few =
    let k = place_of b in
    from_value _ _ _ (rw (fields_of b (k / 8388608) (k % 8388608) refl refl) (by_field k (k / 8388608) (k % 8388608) (has_sign b) refl refl few))

-- its number and height
number : (b : ℕ) → b < 4294967296 → place_of b ≤ 2139095040 → number_of b ≡ with_sign (has_sign b) (place_of b)
number b word some = grind (arith, nat_tests)

height : (s : Bool) (k : ℕ) → single_height (with_sign s k) ≡ with_sign s (magnitude_of k)
height false k = refl
height true zero = refl
height true (suc k) = refl

pub mean_floats : PatternsMeanFloats
mean_floats b word = record {
  finite = finite b;
  height = λ few. rw (number b word (omega arith)) (height (has_sign b) (place_of b));
  infinity = λ e. fields_of b 255 0 (omega arith) (omega arith) ∙ infinite (has_sign b);
  infinity_number = λ e. number b word (omega arith) ∙ ap (with_sign (has_sign b)) e;
  no_float = λ more. fields_of b 255 (place_of b % 8388608) (omega arith) refl ∙ no_float (has_sign b) _ (λ e. omega arith);
  no_float_number = λ more. grind (arith, nat_tests);
}
