-- The words of a float: they read as its number, and no blank is in them.
use Rattle.drain_floats.proofs.Names.{◌≡◌, ℕ, ◌%◌, ◌<◌, ◌≤◌, Bool, true, false, List, [], ◌∷◌, ◌++◌, length, ℤ, pos, negsuc, refl, sym, ◌∙◌, ap, subst, arith, length-append, IsTrue, IsFalse, if◌then◌else◌, binary32, Parts, exponent_text, text_of, ints, T, of_bits, nan_bits, to_bits-of_bits, nan_bits_is, not, number_of, pattern_of, IsSingle, float_number, AreAboveSpace}
use Rattle.std.specs.Float.{Float, float_is_finite}
use Rattle.std.specs.Fmt.{sign_text}
use Rattle.std.specs.Str.Parse.{AllDigits}
use Rattle.std.proofs.lemmas.Str.Parse.{digit_from_value}
use Rattle.std.proofs.lemmas.Float.{not_nan_f32_bits}
use lib.Ieee.{nan, inf, fin, is_nan}
use Rattle.ryu.specs.Plain.{IsPlain, IsPlainNumber, word_of}
use Rattle.drain_floats.proofs.ReadBack.{read_back}

-- a pattern whose place is that of no NaN
size_of : (n : ℤ) → IsSingle n → (pattern_of n % 2147483648 ≤ 2139095040) × (pattern_of n < 4294967296)
size_of (pos k) single = let high = single.high in let few : k ≤ 2139095040 = omega (arith, ints) in (omega arith, omega arith)
size_of (negsuc k) single = let low = single.low in let few : k < 2139095040 = omega (arith, ints) in (omega arith, omega arith)

pub no_nan : (n : ℤ) → IsSingle n → T (not (nan_bits binary32 (pattern_of n)))
no_nan n single = not_nan_f32_bits (pattern_of n) (size_of n single).0

pub float_read : (n : ℤ) → IsSingle n → float_number (of_bits binary32 (pattern_of n)) ≡ n
float_read n single =
    let number : T (not (is_nan (of_bits binary32 (pattern_of n)))) = subst (λ (b : Bool). T (not b)) (nan_bits_is binary32 (pattern_of n)) (no_nan n single) in
    ap number_of (to_bits-of_bits binary32 (pattern_of n) (size_of n single).1 number) ∙ read_back n single

above-append : (xs ys : List ℕ) → AreAboveSpace xs → AreAboveSpace ys → AreAboveSpace (xs ++ ys)
above-append [] ys p q = q
above-append (x ∷ xs) ys p q = (p.0, above-append xs ys p.1 q)

digits_above : (ds : List ℕ) → AllDigits 10 ds → AreAboveSpace ds
digits_above [] h = tt
digits_above (c ∷ cs) h = let r = digit_from_value c h.0 in (omega arith, digits_above cs h.1)

sign_above : (b : Bool) → AreAboveSpace (sign_text b)
sign_above true = (omega arith, tt)
sign_above false = tt

point_above : (b : Bool) (ds : List ℕ) → AllDigits 10 ds → AreAboveSpace (if b then 46 ∷ ds else [])
point_above true ds h = (omega arith, digits_above ds h)
point_above false ds h = tt

exponent_above : (b : Bool) (ds : List ℕ) → AllDigits 10 ds → AreAboveSpace (exponent_text b ds)
exponent_above b [] h = tt
exponent_above b (d ∷ ds) h = (omega arith, above-append (sign_text b) (d ∷ ds) (sign_above b) (digits_above (d ∷ ds) h))

-- a word: some bytes, each above the space
pub record IsInk (word : List ℕ) : Type 0 where
  pub some : 0 < length word
  pub ink : AreAboveSpace word

plain_ink : (negative : Bool) (p : Parts) → IsPlain p → IsInk (sign_text negative ++ text_of p)
plain_ink negative p plain =
    let rest = (if p.point then 46 ∷ p.fraction else []) ++ exponent_text p.exponent_negative p.exponent in
    let formed = plain.well_formed in
    let whole = plain.whole in
    record {
      some = omega (arith, length-append (sign_text negative) (p.whole ++ rest), length-append p.whole rest);
      ink = above-append (sign_text negative) (text_of p) (sign_above negative)
          (above-append p.whole rest (digits_above p.whole formed.whole_digits)
          (above-append (if p.point then 46 ∷ p.fraction else []) (exponent_text p.exponent_negative p.exponent) (point_above p.point p.fraction formed.fraction_digits) (exponent_above p.exponent_negative p.exponent formed.exponent_digits)));
    }

number_ink : (text : List ℕ) → IsPlainNumber text → IsInk text
number_ink text plain = subst (λ (t : List ℕ). IsInk t) (sym plain.2) (plain_ink plain.0 plain.1 plain.3)

pub word_ink : (x : Float) (text : List ℕ) → (IsTrue (float_is_finite x) → IsPlainNumber text) → (IsFalse (float_is_finite x) → text ≡ word_of x) → IsInk text
unfolding float_is_finite
word_ink nan text plain word = subst (λ (t : List ℕ). IsInk t) (sym (word refl)) (record { some = omega arith; ink = (omega arith, (omega arith, (omega arith, tt))) })
word_ink (inf true) text plain word = subst (λ (t : List ℕ). IsInk t) (sym (word refl)) (record { some = omega arith; ink = (omega arith, (omega arith, (omega arith, (omega arith, tt)))) })
word_ink (inf false) text plain word = subst (λ (t : List ℕ). IsInk t) (sym (word refl)) (record { some = omega arith; ink = (omega arith, (omega arith, (omega arith, tt))) })
word_ink (fin s m e) text plain word = number_ink text (plain refl)
