-- What a text of a float reads as is a number of a pattern.
use Rattle.drain_floats.proofs.Names.{◌≡◌, ℕ, ◌+◌, ◌-◌, ◌*◌, ◌^◌, ◌%◌, ◌<◌, ◌≤◌, Bool, true, false, List, length, ℤ, pos, neg_ℤ, nat_lt, refl, subst, arith, inl, inr, ◌==◌, Option, None, option_map, option_and_then, if◌then◌else◌, codes, slice_index, drop, binary32, scan_numeral, has_digits, numeral_digits, tens_up, tens_down, minus, ints, ltb-true, ltb-false, T, fits, to_bits-lt, number_of, IsFloatNumber, float_number, float_nodata}
use Rattle.std.specs.Prelude.{Some}
use Rattle.std.specs.Float.{Float}
use Rattle.std.specs.Float.Parse.{begins_with, read_word, read_unsigned, sign_len, read_float, parse_float}
use lib.Ieee.{to_bits}
use lib.Ieee.Fits.{round-fits, inf-fits, nan-fits}

number_within : (p : ℕ) → p < 4294967296 → IsFloatNumber (number_of p)
number_within p small = elim (nat_lt 2139095040 (p % 2147483648)) as (λ b. nat_lt 2139095040 (p % 2147483648) ≡ b → IsFloatNumber (if b then pos 2143289344 else (if nat_lt p 2147483648 then pos p else neg_ℤ (pos (p - 2147483648))))) [
  | true ↦ λ is. inr refl
  | false ↦ λ is. elim (nat_lt p 2147483648) as (λ b. nat_lt p 2147483648 ≡ b → IsFloatNumber (if b then pos p else neg_ℤ (pos (p - 2147483648)))) [
    | true ↦ λ low. (let few = ltb-false _ _ is in let below = ltb-true _ _ low in let k : p ≤ 2139095040 = omega arith in inl (record { low = omega (arith, ints); high = omega (arith, ints) }))
    | false ↦ λ high. (let few = ltb-false _ _ is in let above = ltb-false _ _ high in let k : p - 2147483648 ≤ 2139095040 = omega arith in inl (record { low = omega (arith, ints); high = omega (arith, ints) }))
  ] refl
] refl

-- what is read at the front of a text, if anything, is a float of single precision
abbrev AllFit : Option (Float × ℕ) → Type 0
AllFit None = Unit {0}
AllFit (Some r) = T (fits binary32 r.0)

pick : (b : Bool) (o p : Option (Float × ℕ)) → AllFit o → AllFit p → AllFit (if b then o else p)
pick true o p a b = a
pick false o p a b = b

word_fits : (negative : Bool) (text : List ℕ) → AllFit (read_word negative text)
word_fits negative text =
    pick (begins_with text (codes "infinity")) _ _ (inf-fits binary32 negative)
    (pick (begins_with text (codes "inf")) _ _ (inf-fits binary32 negative)
    (pick (begins_with text (codes "nan")) _ _ (nan-fits binary32) tt))

unsigned_fits : (negative : Bool) (text : List ℕ) → AllFit (read_unsigned binary32 negative text)
unsigned_fits negative text =
    let parts = scan_numeral text in
    pick (has_digits parts) _ _ (round-fits binary32 negative (numeral_digits parts * 10 ^ tens_up parts) (10 ^ tens_down parts)) (word_fits negative text)

moved : (k : ℕ) (o : Option (Float × ℕ)) → AllFit o → AllFit (option_map (λ r. (r.0, k + r.1)) o)
moved k None all = tt
moved k (Some r) all = all

read_fits : (text : List ℕ) → AllFit (read_float binary32 text)
unfolding read_float
read_fits text = moved (sign_len text) _ (unsigned_fits (slice_index text 0 == minus) (drop (sign_len text) text))

whole_fits : (n : ℕ) (x : Float) (o : Option (Float × ℕ)) → AllFit o → option_and_then (λ r. if r.1 == n then Some r.0 else None) o ≡ Some x → T (fits binary32 x)
whole_fits n x None all is = cc
whole_fits n x (Some r) all is = elim (r.1 == n) as (λ b. (if b then Some r.0 else None) ≡ Some x → T (fits binary32 x)) [
  | true ↦ λ same. (let value : r.0 ≡ x = cc in subst (λ (y : Float). T (fits binary32 y)) value all)
  | false ↦ λ same. cc
] is

parsed_within : (text : List ℕ) (z : ℤ) (o : Option Float) → parse_float binary32 text ≡ o → option_map float_number o ≡ Some z → IsFloatNumber z
parsed_within text z None is number = cc
parsed_within text z (Some x) is number =
    let value : float_number x ≡ z = cc in
    let small : to_bits binary32 x < 4294967296 = to_bits-lt binary32 x (whole_fits (length text) x (read_float binary32 text) (read_fits text) is) in
    subst (λ (n : ℤ). IsFloatNumber n) value (number_within (to_bits binary32 x) small)

pub float_number_within : (text : List ℕ) (z : ℤ) → float_nodata text ≡ Some z → IsFloatNumber z
float_number_within text z is = parsed_within text z (parse_float binary32 text) refl is
