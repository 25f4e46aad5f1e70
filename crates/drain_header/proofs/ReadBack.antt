-- The values of a header's text read back as the numbers that were printed.
use Rattle.drain_header.proofs.Names.{◌+◌, ◌*◌, ◌/◌, ◌^◌, ◌<◌, ◌≤◌, Bool, true, false, ◌∷◌, length, arith, sym, ap, ◌∙◌, pos, negsuc, unsigned_abs, cond, nat_le, ◌==◌, ◌&&◌, ◌||◌, slice_index, Some, None, option_and_then, decimal, sign_text, signed_decimal, is_negative, digits_value, AllDigits, IsNumeral, Parts, minus, le-leb, le-ltb, lt-ltb, ne_eqb, decimal_is_IsNumeral, digit_from_value, scan_numeral-text_of, ints, IsNoData, IsCoordinate, unsigned_part, are_decimal, decimal_from, decimal_of, is_small, is_whole, in_units, with_sign, coordinate_of, decimal_nodata, size_of, length-last_digits, last_digits_are, AllInk, IsWord, ink-append, two, chosen, digits_ink, decimal_word, decimal_short, whole_read}
use Rattle.std.proofs.Common.{◌≡◌, ℕ, List, [], ◌++◌, refl, length-append, append-nil, append_assoc}
use Rattle.std.specs.Prelude.{ℤ}
use Rattle.std.specs.Float.Numeral.{scan_numeral}
use Rattle.std.proofs.lemmas.Bool.{eq-eqb}
use Rattle.drain_header.specs.Text.{fraction_text, places_text}
use Rattle.drain_header.proofs.WorkedDecimals.{value_of_places, pointed, pointed_reads}
use Rattle.drain_header.proofs.Units.{coordinate_is, nodata_is}

pub size_read : (n : ℕ) → 1 ≤ n → n ≤ 28801 → size_of (decimal n) ≡ Some n
size_read n some fits =
    ap (λ o. option_and_then (λ x. cond (nat_le 1 x && nat_le x 28801) (Some x) None) o) (whole_read n (omega arith))
    ∙ chosen _ (Some n) (two _ _ (le-leb _ _ some) (le-leb _ _ fits))

-- a word of a sign and digits
signed_word : (negative : Bool) (c : ℕ) (rest : List ℕ) → 48 ≤ c → (unsigned_part (sign_text negative ++ c ∷ rest) ≡ c ∷ rest) × ((slice_index (sign_text negative ++ c ∷ rest) 0 == minus) ≡ negative)
signed_word true c rest digit = (refl, refl)
signed_word false c rest digit =
    let no_minus = ne_eqb c 45 (λ e. omega (arith, e)) in
    let no_plus = ne_eqb c 43 (λ e. omega (arith, e)) in
    (ap (λ b. cond (b || (c == 43)) rest (c ∷ rest)) no_minus ∙ ap (λ b. cond b rest (c ∷ rest)) no_plus, no_minus)

-- the decimal of a word whose parts are known
decimal_of_parts : (word unsigned : List ℕ) (negative : Bool) (parts : Parts) → unsigned_part word ≡ unsigned → (slice_index word 0 == minus) ≡ negative
    → scan_numeral unsigned ≡ parts → are_decimal parts (length unsigned) ≡ true → decimal_of word ≡ Some (decimal_from negative parts)
decimal_of_parts word unsigned negative parts unsign sign scan are =
    ap (λ u. cond (are_decimal (scan_numeral u) (length u)) (Some (decimal_from (slice_index word 0 == minus) (scan_numeral u))) None) unsign
    ∙ ap (λ b. cond (are_decimal (scan_numeral unsigned) (length unsigned)) (Some (decimal_from b (scan_numeral unsigned))) None) sign
    ∙ ap (λ p. cond (are_decimal p (length unsigned)) (Some (decimal_from negative p)) None) scan
    ∙ ap (λ b. cond b (Some (decimal_from negative parts)) None) are

-- of a sign, digits, a point and digits
pub pointed_decimal : (negative : Bool) (whole fraction : List ℕ) → IsNumeral 10 whole → AllDigits 10 fraction
    → decimal_of (sign_text negative ++ (whole ++ 46 ∷ fraction)) ≡ Some (decimal_from negative (pointed whole fraction))
pointed_decimal negative [] fraction is digits = absurd (omega (arith, is.0))
pointed_decimal negative (c ∷ cs) fraction is digits =
    let first = digit_from_value c is.1.0 in
    let signed = signed_word negative c (cs ++ 46 ∷ fraction) (omega arith) in
    let reads = pointed_reads (c ∷ cs) fraction is.1 digits in
    let all : length ((c ∷ cs) ++ ((46 ∷ fraction) ++ [])) ≡ length ((c ∷ cs) ++ 46 ∷ fraction) = ap (λ (end : List ℕ). length ((c ∷ cs) ++ 46 ∷ end)) (append-nil fraction) in
    decimal_of_parts (sign_text negative ++ ((c ∷ cs) ++ 46 ∷ fraction)) ((c ∷ cs) ++ 46 ∷ fraction) negative (pointed (c ∷ cs) fraction) signed.0 signed.1 reads
    (two _ _ (lt-ltb _ _ (omega arith)) (two _ _ (eq-eqb _ _ all) refl))

-- the parts of digits alone
abbrev pub unpointed : List ℕ → Parts
unpointed whole = record {
  whole = whole;
  point = false;
  fraction = [];
  exponent_negative = false;
  exponent = [];
  len = length (whole ++ ([] ++ []));
}

unpointed_reads : (whole : List ℕ) → AllDigits 10 whole → scan_numeral whole ≡ unpointed whole
unpointed_reads whole p =
    ap scan_numeral (sym (append-nil whole))
    ∙ scan_numeral-text_of (unpointed whole) (record {
      whole_digits = p;
      fraction_digits = tt;
      exponent_digits = tt;
      no_point = λ e. refl;
      no_exponent = λ e. refl;
      len_is = refl;
    })

pub unpointed_decimal : (negative : Bool) (whole : List ℕ) → IsNumeral 10 whole → decimal_of (sign_text negative ++ whole) ≡ Some (decimal_from negative (unpointed whole))
unpointed_decimal negative [] is = absurd (omega (arith, is.0))
unpointed_decimal negative (c ∷ cs) is =
    let first = digit_from_value c is.1.0 in
    let signed = signed_word negative c cs (omega arith) in
    let all : length ((c ∷ cs) ++ ([] ++ [])) ≡ length (c ∷ cs) = ap length (append-nil (c ∷ cs)) in
    decimal_of_parts (sign_text negative ++ c ∷ cs) (c ∷ cs) negative (unpointed (c ∷ cs)) signed.0 signed.1 (unpointed_reads (c ∷ cs) is.1)
    (two _ _ (lt-ltb _ _ (omega arith)) (two _ _ (eq-eqb _ _ all) refl))

-- a number is its sign and its magnitude
signed_again : (z : ℤ) → with_sign (is_negative z) (unsigned_abs z) ≡ z
signed_again (pos n) = ap (λ b. with_sign b n) (le-ltb n 0 (omega arith))
signed_again (negsuc n) = refl

signed_text : (z : ℤ) → signed_decimal z ≡ sign_text (is_negative z) ++ decimal (unsigned_abs z)
signed_text (pos n) = ap (λ b. sign_text b ++ decimal n) (sym (le-ltb n 0 (omega arith)))
signed_text (negsuc n) = refl

pub nodata_small : (z : ℤ) → IsNoData z → unsigned_abs z ≤ 10000000000
nodata_small (pos n) is = let h = is.high in omega (arith, ints)
nodata_small (negsuc n) is = let h = is.low in omega (arith, ints)

pub coordinate_small : (z : ℤ) → IsCoordinate z → unsigned_abs z ≤ 10000000000000000000000000
coordinate_small (pos n) is = let h = is.high in omega (arith, ints)
coordinate_small (negsuc n) is = let h = is.low in omega (arith, ints)

-- a no-data number reads back
pub nodata_read : (z : ℤ) → unsigned_abs z ≤ 10000000000 → decimal_nodata (signed_decimal z) ≡ Some z
nodata_read z small =
    let numeral = decimal_is_IsNumeral (unsigned_abs z) (omega arith) in
    let d = decimal_from (is_negative z) (unpointed (decimal (unsigned_abs z))) in
    let value : digits_value 10 (decimal (unsigned_abs z) ++ []) ≡ unsigned_abs z = ap (digits_value 10) (append-nil (decimal (unsigned_abs z))) ∙ numeral.1 in
    let low : is_small d ≡ true = le-leb _ _ (omega (arith, value)) in
    let whole : is_whole d ≡ true = eq-eqb _ _ (omega arith) in
    let units : in_units 0 d ≡ z = ap (with_sign (is_negative z)) (omega (arith, value)) ∙ signed_again z in
    ap decimal_nodata (signed_text z)
    ∙ sym (nodata_is (sign_text (is_negative z) ++ decimal (unsigned_abs z)) d z (sym (unpointed_decimal (is_negative z) (decimal (unsigned_abs z)) numeral.0)) low whole units)

-- what the digits after the point are
pub record IsFraction (n : ℕ) : Type 0 where
  pub digits : AllDigits 10 (fraction_text n)
  pub count : length (fraction_text n) ≡ 15
  pub value : n / 1000000000000000 < 2 ^ 64 → digits_value 10 (decimal (n / 1000000000000000) ++ fraction_text n) ≡ n

pub fraction_is : (n : ℕ) → IsFraction n
unfolding fraction_text
fraction_is n = record {
  digits = last_digits_are 15 n;
  count = length-last_digits 15 n;
  value = value_of_places 15 n;
}

-- the text of a coordinate is a sign, digits, a point and digits
places_parts : (z : ℤ) → places_text z ≡ sign_text (is_negative z) ++ (decimal (unsigned_abs z / 1000000000000000) ++ 46 ∷ fraction_text (unsigned_abs z))
unfolding places_text
places_parts z = simp append_assoc

-- a coordinate reads back
pub coordinate_read : (z : ℤ) → IsCoordinate z → coordinate_of (places_text z) ≡ Some z
coordinate_read z is =
    let n = unsigned_abs z in
    let small = coordinate_small z is in
    let numeral = decimal_is_IsNumeral (n / 1000000000000000) (omega arith) in
    let fraction = fraction_is n in
    let count = fraction.count in
    let d = decimal_from (is_negative z) (pointed (decimal (n / 1000000000000000)) (fraction_text n)) in
    let value = fraction.value (omega arith) in
    let down : 10 ^ (length (fraction_text n) + 0) ≡ 1000000000000000 = rw count refl in
    let low : is_small d ≡ true = le-leb _ _ (omega (arith, value, down)) in
    let quotient : digits_value 10 (decimal (n / 1000000000000000) ++ fraction_text n) * 10 ^ 0 * 10 ^ 15 / 10 ^ (length (fraction_text n) + 0) ≡ n = rw down (omega (arith, value)) in
    let units : in_units 15 d ≡ z = ap (with_sign (is_negative z)) quotient ∙ signed_again z in
    ap coordinate_of (places_parts z)
    ∙ sym (coordinate_is (sign_text (is_negative z) ++ (decimal (n / 1000000000000000) ++ 46 ∷ fraction_text n)) d z (sym (pointed_decimal (is_negative z) (decimal (n / 1000000000000000)) (fraction_text n) numeral.0 fraction.digits)) low units)

-- the words of these numbers
sign_ink : (b : Bool) → AllInk (sign_text b)
sign_ink true = (omega arith, tt)
sign_ink false = tt

sign_short : (b : Bool) → length (sign_text b) ≤ 1
sign_short true = omega arith
sign_short false = omega arith

pub nodata_word : (z : ℤ) → unsigned_abs z ≤ 10000000000 → IsWord (signed_decimal z)
nodata_word z small =
    let word = decimal_word (unsigned_abs z) (omega arith) in
    rw (signed_text z) (record {
      some = (let some = word.some in omega (arith, length-append (sign_text (is_negative z)) (decimal (unsigned_abs z))));
      ink = ink-append (sign_text (is_negative z)) (decimal (unsigned_abs z)) (sign_ink (is_negative z)) word.ink;
    })

pub nodata_short : (z : ℤ) → unsigned_abs z ≤ 10000000000 → length (signed_decimal z) ≤ 60
nodata_short z small =
    let short = decimal_short (unsigned_abs z) (omega arith) in
    let sign = sign_short (is_negative z) in
    rw (signed_text z) (omega (arith, length-append (sign_text (is_negative z)) (decimal (unsigned_abs z))))

pub places_word : (z : ℤ) → IsCoordinate z → IsWord (places_text z)
places_word z is =
    let n = unsigned_abs z in
    let small = coordinate_small z is in
    let whole = decimal_word (n / 1000000000000000) (omega arith) in
    let some = whole.some in
    let fraction = fraction_is n in
    rw (places_parts z) (record {
      some = omega (arith, length-append (sign_text (is_negative z)) (decimal (n / 1000000000000000) ++ 46 ∷ fraction_text n), length-append (decimal (n / 1000000000000000)) (46 ∷ fraction_text n));
      ink = ink-append (sign_text (is_negative z)) (decimal (n / 1000000000000000) ++ 46 ∷ fraction_text n) (sign_ink (is_negative z)) (ink-append (decimal (n / 1000000000000000)) (46 ∷ fraction_text n) whole.ink (omega arith, digits_ink (fraction_text n) fraction.digits));
    })

pub places_short : (z : ℤ) → IsCoordinate z → length (places_text z) ≤ 60
places_short z is =
    let n = unsigned_abs z in
    let small = coordinate_small z is in
    let short = decimal_short (n / 1000000000000000) (omega arith) in
    let sign = sign_short (is_negative z) in
    let count = (fraction_is n).count in
    rw (places_parts z) (omega (arith, length-append (sign_text (is_negative z)) (decimal (n / 1000000000000000) ++ 46 ∷ fraction_text n), length-append (decimal (n / 1000000000000000)) (46 ∷ fraction_text n)))
