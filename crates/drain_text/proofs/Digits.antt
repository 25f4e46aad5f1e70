-- Digits that are read one after another.
use Rattle.drain_text.proofs.Names.{◌≡◌, ℕ, zero, suc, ◌+◌, ◌-◌, ◌*◌, ◌^◌, ◌<◌, ◌≤◌, Bool, true, false, List, [], ◌∷◌, ◌++◌, length, take, drop, get_or, arith, refl, ap, ◌∙◌, ◌&&◌, cond, list_all, prefix_len, is_ascii_digit, digit_value, leb-true, digits_value, digits_value_after, AllDigits, pow-suc, at_drop_more, take_more, digit_value_digit}

-- the two parts of a test
pub both : (a b : Bool) → (a && b) ≡ true → (a ≡ true) × (b ≡ true)
both true b e = (refl, e)
both false b e = cc

-- a digit's value is its distance from the digit zero
pub digit_worth : (c : ℕ) → is_ascii_digit c ≡ true → (48 ≤ c) × (c ≤ 57) × (digit_value c ≡ c - 48)
digit_worth c is =
    let r = both _ _ is in
    let low = leb-true 48 c r.0 in
    let high = leb-true c 57 r.1 in
    (low, high, omega (arith, digit_value_digit c (low, high)))

-- past a digit the rest decides
pub all_digits_more : (word : List ℕ) (i : ℕ) → i < length word → is_ascii_digit (get_or word i 0) ≡ true → list_all is_ascii_digit (drop i word) ≡ list_all is_ascii_digit (drop (i + 1) word)
all_digits_more word i inside is = at_drop_more (list_all is_ascii_digit) word i 0 inside ∙ ap (λ b. b && list_all is_ascii_digit (drop (i + 1) word)) is

-- a byte that is no zero is within the text
pub within : (bs : List ℕ) (i : ℕ) → zero < get_or bs i 0 → i < length bs
within [] i h = absurd (omega arith)
within (x ∷ xs) zero h = omega arith
within (x ∷ xs) (suc i) h = let r = within xs i h in omega arith

pub value_after_is : (n : ℕ) (ds : List ℕ) → digits_value_after 10 n ds ≡ n * 10 ^ length ds + digits_value 10 ds
value_after_is n [] = omega arith
value_after_is n (c ∷ cs) =
    let a = value_after_is (n * 10 + digit_value c) cs in
    let b = value_after_is (0 * 10 + digit_value c) cs in
    omega (arith, ap (λ x. n * x) (pow-suc 10 (length cs)))

pub after-append : (n : ℕ) (xs ys : List ℕ) → digits_value_after 10 n (xs ++ ys) ≡ digits_value_after 10 (digits_value_after 10 n xs) ys
after-append n [] ys = refl
after-append n (x ∷ xs) ys = after-append (n * 10 + digit_value x) xs ys

pub value-append : (xs ys : List ℕ) → digits_value 10 (xs ++ ys) ≡ digits_value 10 xs * 10 ^ length ys + digits_value 10 ys
value-append xs ys = after-append 0 xs ys ∙ value_after_is _ ys

-- one digit more
pub after_more : (n : ℕ) (ds : List ℕ) (i : ℕ) → i < length ds → digits_value_after 10 n (take (i + 1) ds) ≡ digits_value_after 10 n (take i ds) * 10 + digit_value (get_or ds i 0)
after_more n ds i inside = ap (digits_value_after 10 n) (take_more ds i 0 inside) ∙ after-append n (take i ds) (get_or ds i 0 ∷ [])

pub take_digits : (n : ℕ) (ds : List ℕ) → AllDigits 10 ds → AllDigits 10 (take n ds)
take_digits zero ds h = tt
take_digits (suc n) [] h = tt
take_digits (suc n) (d ∷ ds) h = (h.0, take_digits n ds h.1)

pub drop_digits : (n : ℕ) (ds : List ℕ) → AllDigits 10 ds → AllDigits 10 (drop n ds)
drop_digits zero ds h = h
drop_digits (suc n) [] h = tt
drop_digits (suc n) (d ∷ ds) h = drop_digits n ds h.1

pub append_digits : (xs ys : List ℕ) → AllDigits 10 xs → AllDigits 10 ys → AllDigits 10 (xs ++ ys)
append_digits [] ys p q = q
append_digits (x ∷ xs) ys p q = (p.0, append_digits xs ys p.1 q)

pub first_digits : (xs ys : List ℕ) → AllDigits 10 (xs ++ ys) → AllDigits 10 xs
first_digits [] ys h = tt
first_digits (x ∷ xs) ys h = (h.0, first_digits xs ys h.1)

pub last_digits : (xs ys : List ℕ) → AllDigits 10 (xs ++ ys) → AllDigits 10 ys
last_digits [] ys h = h
last_digits (x ∷ xs) ys h = last_digits xs ys h.1

-- what counts as digits from the front on is digits
pub counted_digits : (xs : List ℕ) (n : ℕ) → n ≤ prefix_len is_ascii_digit xs → AllDigits 10 (take n xs)
counted_digits xs zero h = tt
counted_digits [] (suc n) h = tt
counted_digits (x ∷ xs) (suc n) h = elim (is_ascii_digit x) as (λ b. is_ascii_digit x ≡ b → suc n ≤ cond b (1 + prefix_len is_ascii_digit xs) 0 → (digit_value x < 10) × AllDigits 10 (take n xs)) [
  | true ↦ λ e k. (let w = digit_worth x e in omega arith, counted_digits xs n (omega arith))
  | false ↦ λ e k. absurd (omega arith)
] refl h
