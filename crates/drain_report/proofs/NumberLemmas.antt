-- A number after a space: where its word ends, and that no other number is written so.
use Rattle.drain_report.proofs.Names.{◌≡◌, ℕ, zero, suc, ◌<◌, ◌⊎◌, true, false, List, [], ◌∷◌, ◌++◌, ℤ, pos, negsuc, length, take, drop, arith, refl, sym, subst, ap, ◌∙◌, length-append, slice_index, decimal, not, Option, None, Some, IfSome, Result, Ok, Err, codes, signed_decimal, false≢true, nat_tests, decimal_is_IsNumeral, decimal_nonempty, Passes, Nowhere, is_byte2, IsLong, IsInk, IsWordThen, height_word}
use Rattle.std.specs.Str.{bytes_eq}
use Rattle.std.proofs.lemmas.Slice.Eq.{bytes_eq-Decides}
use Rattle.std.specs.Str.Parse.{AllDigits}
use Rattle.std.proofs.lemmas.Str.Parse.{digit_from_value}

ink_of_digits : (ds : List ℕ) → AllDigits 10 ds → IsInk ds
ink_of_digits [] h = tt
ink_of_digits (c ∷ cs) h = let r = digit_from_value c h.0 in (omega (arith, r), ink_of_digits cs h.1)

-- a printed number has neither a space nor a line feed
pub signed_ink : (n : ℤ) → IsLong n → IsInk (signed_decimal n)
signed_ink (pos n) fits = ink_of_digits (decimal n) (decimal_is_IsNumeral n (omega (arith, fits.sfits))).0.1
signed_ink (negsuc n) fits = (omega arith, ink_of_digits (decimal (suc n)) (decimal_is_IsNumeral (suc n) (omega (arith, fits.sfits))).0.1)

-- a minus sign alone is no number
not_minus : (n : ℤ) → IsLong n → codes "-" ≡ signed_decimal n → ⊥
not_minus (pos n) long is =
    let digits = (decimal_is_IsNumeral n (omega (arith, long.sfits))).0.1 in
    let first = digit_from_value 45 (subst (λ ds. AllDigits 10 ds) (sym is) digits).0 in
    absurd (omega (arith, first))
not_minus (negsuc n) long is =
    let some = decimal_nonempty (suc n) (omega (arith, long.sfits)) in
    let one : 1 ≡ suc (length (decimal (suc n))) = ap length is in
    absurd (omega (arith, some, one))

-- An elevation's word: a number, or a minus sign alone.

pub height_ink : (z : Option ℤ) → IfSome z IsLong → IsInk (height_word z)
height_ink None long = (omega arith, tt)
height_ink (Some n) long = signed_ink n long

-- a minus sign alone is a void's
pub is_void : (z : Option ℤ) → IfSome z IsLong → codes "-" ≡ height_word z → None ≡ z
is_void None long is = refl
is_void (Some n) long is = absurd (not_minus n long is)

-- another word is a number
pub by_number : (P : Option ℤ → Type 0) (z : Option ℤ) (word : List ℕ) → IfSome z IsLong → word ≡ height_word z → (word ≡ codes "-" → ⊥) → ((n : ℤ) → IsLong n → word ≡ signed_decimal n → P (Some n)) → P z
by_number P None word long is other read = absurd (other is)
by_number P (Some n) word long is other read = read n long is

-- the bytes that end a word
pub ends_pass : (c : ℕ) → (c ≡ 32) ⊎ (c ≡ 10) → is_byte2 32 10 c ≡ true
ends_pass c ends = grind (arith, nat_tests)

ink_fails : (x : ℕ) → 32 < x → is_byte2 32 10 x ≡ true → ⊥
ink_fails x ink is = grind (arith, nat_tests)

-- the byte after a word
pub at_length : (word : List ℕ) (c : ℕ) (rest : List ℕ) → slice_index (word ++ c ∷ rest) (length word) ≡ c
at_length [] c rest = refl
at_length (x ∷ xs) c rest = at_length xs c rest

-- the first byte that ends a word is the one after it
first_end : (word : List ℕ) (c : ℕ) (rest : List ℕ) (e : ℕ) → IsInk word → (c ≡ 32) ⊎ (c ≡ 10)
    → Passes (is_byte2 32 10) (word ++ c ∷ rest) e → Nowhere (Passes (is_byte2 32 10) (word ++ c ∷ rest)) 0 e → e ≡ length word
first_end [] c rest zero ink ends here before = refl
first_end [] c rest (suc e) ink ends here before = absurd (before 0 (omega arith) (omega arith) (ends_pass c ends))
first_end (x ∷ xs) c rest zero ink ends here before = absurd (ink_fails x ink.0 here)
first_end (x ∷ xs) c rest (suc e) ink ends here before =
    let more = first_end xs c rest e ink.1 ends here (λ k low less h. before (suc k) (omega arith) (omega arith) h) in omega (arith, more)

pub front : (xs ys : List ℕ) → (take (length xs) (xs ++ ys) ≡ xs) × (drop (length xs) (xs ++ ys) ≡ ys)
front [] ys = (refl, refl)
front (x ∷ xs) ys = let more = front xs ys in (ap (λ l. x ∷ l) more.0, more.1)

-- the word is found
pub word_found : (text body word : List ℕ) (c : ℕ) (rest : List ℕ) (e : ℕ) → IsWordThen text word c rest → body ≡ drop 1 text
    → Passes (is_byte2 32 10) body e → Nowhere (Passes (is_byte2 32 10) body) 0 e → (take e body ≡ word) × (drop e body ≡ c ∷ rest)
word_found text body word c rest e h same here before =
    let is : body ≡ word ++ c ∷ rest = same ∙ ap (drop 1) h.is in
    let at = first_end word c rest e h.ink h.ends (rw is at here) (rw is at before) in
    let parts = front word (c ∷ rest) in
    rw (is, at) parts

-- there is one
pub word_there : (text body word : List ℕ) (c : ℕ) (rest : List ℕ) → IsWordThen text word c rest → body ≡ drop 1 text
    → Nowhere (Passes (is_byte2 32 10) body) 0 (length body) → ⊥
word_there text body word c rest h same none =
    let is : body ≡ word ++ c ∷ rest = same ∙ ap (drop 1) h.is in
    (rw is at none) (length word) (omega arith) (simp length-append (omega arith)) (ap (is_byte2 32 10) (at_length word c rest) ∙ ends_pass c h.ends)

-- numbers of one answer
pub ok_same : {E : Type 0} (r : Result ℤ E) (a b : ℤ) → r ≡ Ok a → r ≡ Ok b → a ≡ b
ok_same r a b p q = cc

pub not_both : {E : Type 0} (r : Result ℤ E) (e : E) (b : ℤ) → r ≡ Err e → r ≡ Ok b → ⊥
not_both r e b p q = cc

-- a test for difference that fails at equal texts
pub differ : (xs ys : List ℕ) → not (bytes_eq xs ys) ≡ true → xs ≡ ys → ⊥
differ xs ys is same =
    let equal : bytes_eq xs ys ≡ true = (bytes_eq-Decides xs ys).1 same in
    let no : not (bytes_eq xs ys) ≡ false = ap not equal in
    absurd (cc)

pub no_difference : (xs ys : List ℕ) → not (bytes_eq xs ys) ≡ false → xs ≡ ys
no_difference xs ys is = (bytes_eq-Decides xs ys).0 (grind (arith, is))

-- a test for equality
pub same_bytes : (xs ys : List ℕ) → bytes_eq xs ys ≡ true → xs ≡ ys
same_bytes xs ys is = (bytes_eq-Decides xs ys).0 is

pub other_bytes : (xs ys : List ℕ) → bytes_eq xs ys ≡ false → xs ≡ ys → ⊥
other_bytes xs ys is same = false≢true (sym is ∙ (bytes_eq-Decides xs ys).1 same)
