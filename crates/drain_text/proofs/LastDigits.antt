-- The lowest digits of a number, with leading zeros: how many there are, their value, and how they are printed.
use Rattle.drain_text.proofs.Names.{◌≡◌, ℕ, zero, suc, ◌+◌, ◌*◌, ◌/◌, ◌%◌, ◌^◌, ◌<◌, ◌∷◌, length, arith, refl, sym, ap, ◌∙◌, decimal, digit_value, digits_value, digits_value_after, AllDigits, pow-suc, mod-lt, one-le-pow, digit_value_digit, numerals_by_value, tells_digits, decimal-digits_value, last_digits}
use Rattle.std.proofs.Math.Arith.{mod-mul}
use Rattle.drain_text.proofs.Digits.{value_after_is}

glyph_value : (d : ℕ) → d < 10 → digit_value (48 + d) ≡ d
glyph_value d h = let e = digit_value_digit (48 + d) (omega arith, omega arith) in omega (arith, e)

pub length-last_digits : (k n : ℕ) → length (last_digits k n) ≡ k
length-last_digits zero n = refl
length-last_digits (suc k) n = let e = length-last_digits k n in omega (arith, e)

pub last_digits_are : (k n : ℕ) → AllDigits 10 (last_digits k n)
last_digits_are zero n = tt
last_digits_are (suc k) n =
    let small : n / 10 ^ k % 10 < 10 = mod-lt (n / 10 ^ k) (omega arith) in
    (rw (glyph_value (n / 10 ^ k % 10) small) small, last_digits_are k n)

pub value-last_digits : (k n : ℕ) → digits_value 10 (last_digits k n) ≡ n % 10 ^ k
value-last_digits zero n = omega arith
value-last_digits (suc k) n =
    let d = n / 10 ^ k % 10 in
    let small : d < 10 = mod-lt (n / 10 ^ k) (omega arith) in
    let tens : zero < 10 ^ k = (let h = one-le-pow k 10 (omega arith) in omega arith) in
    let first : digits_value 10 (last_digits (suc k) n) ≡ digits_value_after 10 d (last_digits k n) = ap (λ (x : ℕ). digits_value_after 10 x (last_digits k n)) (let e = glyph_value d small in omega (arith, e)) in
    let rest : digits_value_after 10 d (last_digits k n) ≡ d * 10 ^ k + n % 10 ^ k =
    value_after_is d (last_digits k n) ∙ rw (length-last_digits k n, value-last_digits k n) refl in
    let split : n % (10 * 10 ^ k) ≡ d * 10 ^ k + n % 10 ^ k = mod-mul n {m = 10} {c = 10 ^ k} (omega arith) tens in
    first ∙ rest ∙ sym split ∙ ap (λ (x : ℕ). n % x) (let e = pow-suc 10 k in omega (arith, e))

-- the digits of a one and k lowest digits
pub led_value : (k n : ℕ) → digits_value 10 (49 ∷ last_digits k n) ≡ 10 ^ k + n % 10 ^ k
led_value k n =
    value_after_is 1 (last_digits k n)
    ∙ rw (length-last_digits k n, value-last_digits k n) (omega arith)

pub led_digits : (k n : ℕ) → 10 ^ k + n % 10 ^ k < 2 ^ 64 → decimal (10 ^ k + n % 10 ^ k) ≡ 49 ∷ last_digits k n
led_digits k n small =
    ap decimal (sym (led_value k n))
    ∙ decimal-digits_value (numerals_by_value _ tells_digits) (49 ∷ last_digits k n) (omega arith, last_digits_are k n) (omega arith) (λ e. absurd (omega (arith, e)))
    (omega (arith, led_value k n))
