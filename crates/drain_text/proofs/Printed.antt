-- A printed number is a word, and is read as that number.
use Rattle.drain_text.proofs.Names.{◌≡◌, ℕ, ◌^◌, ◌<◌, ◌≤◌, Bool, true, List, [], ◌∷◌, length, arith, refl, ap, ◌∙◌, cond, ◌&&◌, Option, Some, None, decimal, list_all, is_ascii_digit, digits_value, AllDigits, le-leb, lt-ltb, decimal_is_IsNumeral, length-decimal-le, digit_from_value, whole_number}
use Rattle.drain_text.proofs.Joining.{AllInk, IsWord}

-- digits are ink
pub digits_ink : (ds : List ℕ) → AllDigits 10 ds → AllInk ds
digits_ink [] h = tt
digits_ink (c ∷ cs) h = let r = digit_from_value c h.0 in (omega arith, digits_ink cs h.1)

-- two tests that pass
pub two : (a b : Bool) → a ≡ true → b ≡ true → (a && b) ≡ true
two a b p q = rw (p, q) refl

digits_told : (ds : List ℕ) → AllDigits 10 ds → list_all is_ascii_digit ds ≡ true
digits_told [] h = refl
digits_told (c ∷ cs) h = let r = digit_from_value c h.0 in two _ _ (two _ _ (le-leb 48 c (omega arith)) (le-leb c 57 (omega arith))) (digits_told cs h.1)

-- a printed number is a word
pub decimal_word : (n : ℕ) → n < 2 ^ 64 → IsWord (decimal n)
decimal_word n small = let is = (decimal_is_IsNumeral n small).0 in record { some = is.0; ink = digits_ink (decimal n) is.1 }

pub decimal_short : (n : ℕ) → n < 2 ^ 64 → length (decimal n) ≤ 20
decimal_short n small = length-decimal-le 20 n (omega arith) (omega arith) (omega arith)

-- what a test that passes chooses
pub chosen : (t : Bool) (x : Option ℕ) → t ≡ true → cond t x None ≡ x
chosen t x is = ap (λ b. cond b x None) is

-- it is read as the number
pub whole_read : (n : ℕ) → n ≤ 4294967295 → whole_number (decimal n) ≡ Some n
whole_read n fits =
    let is = decimal_is_IsNumeral n (omega arith) in
    let value = is.1 in
    chosen _ (Some (digits_value 10 (decimal n))) (two _ _ (lt-ltb _ _ is.0.0) (two _ _ (digits_told (decimal n) is.0.1) (le-leb _ _ (omega arith))))
    ∙ ap (λ (x : ℕ). Some x) value
