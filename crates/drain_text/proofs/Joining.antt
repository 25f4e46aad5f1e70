-- A text put together from words, spaces and line feeds is taken apart into them again.
--
-- The bytes of a word are above the space, so no line feed, carriage return, space or tab is among them. A split goes
-- by recursion along the text up to the first byte that passes.
use Rattle.drain_text.proofs.Names.{◌≡◌, ℕ, zero, suc, ◌-◌, ◌<◌, Bool, true, false, List, [], ◌∷◌, ◌++◌, length, take, arith, refl, ap, ◌∙◌, cond, nat_lt, ◌==◌, ◌||◌, filter, map, slice_index, slice_split, onto_first, list_all, strip_carriage_return, ltb-true, lt-ltb, ne_eqb, is_blank, lines_of, words_of}
use Rattle.drain_text.proofs.Digits.{both}

-- each byte is above the space
abbrev pub AllInk : List ℕ → Type 0
AllInk [] = Unit {0}
AllInk (x ∷ xs) = (32 < x) × AllInk xs

-- a word: some bytes, each above the space
pub record IsWord (word : List ℕ) : Type 0 where
  pub some : 0 < length word
  pub ink : AllInk word

pub ink-append : (xs ys : List ℕ) → AllInk xs → AllInk ys → AllInk (xs ++ ys)
ink-append [] ys p q = q
ink-append (x ∷ xs) ys p q = (p.0, ink-append xs ys p.1 q)

-- by a test that computes
pub ink_told : (xs : List ℕ) → list_all (λ x. nat_lt 32 x) xs ≡ true → AllInk xs
ink_told [] e = tt
ink_told (x ∷ xs) e = let r = both _ _ e in (ltb-true _ _ r.0, ink_told xs r.1)

-- no element passes
abbrev pub NonePasses : (ℕ → Bool) → List ℕ → Type 0
NonePasses p [] = Unit {0}
NonePasses p (x ∷ xs) = (p x ≡ false) × NonePasses p xs

none-append : (p : ℕ → Bool) (xs ys : List ℕ) → NonePasses p xs → NonePasses p ys → NonePasses p (xs ++ ys)
none-append p [] ys a b = b
none-append p (x ∷ xs) ys a b = (a.0, none-append p xs ys a.1 b)

-- a text up to the first that passes
split_at : (p : ℕ → Bool) (xs : List ℕ) (b : ℕ) (rest : List ℕ) → NonePasses p xs → p b ≡ true → slice_split p (xs ++ b ∷ rest) ≡ xs ∷ slice_split p rest
split_at p [] b rest none is = ap (λ t. cond t ([] ∷ slice_split p rest) (onto_first b (slice_split p rest))) is
split_at p (x ∷ xs) b rest none is =
    ap (λ t. cond t ([] ∷ slice_split p (xs ++ b ∷ rest)) (onto_first x (slice_split p (xs ++ b ∷ rest)))) none.0
    ∙ ap (onto_first x) (split_at p xs b rest none.1 is)

split_none : (p : ℕ → Bool) (xs : List ℕ) → NonePasses p xs → slice_split p xs ≡ xs ∷ []
split_none p [] none = refl
split_none p (x ∷ xs) none =
    ap (λ t. cond t ([] ∷ slice_split p xs) (onto_first x (slice_split p xs))) none.0
    ∙ ap (onto_first x) (split_none p xs none.1)

-- bytes above the space are neither line feeds, nor carriage returns, nor blanks
no_feed : (xs : List ℕ) → AllInk xs → NonePasses (λ b. b == 10) xs
no_feed [] h = tt
no_feed (x ∷ xs) h = let low = h.0 in (ne_eqb x 10 (λ e. omega (arith, e)), no_feed xs h.1)

no_return : (xs : List ℕ) → AllInk xs → NonePasses (λ b. b == 13) xs
no_return [] h = tt
no_return (x ∷ xs) h = let low = h.0 in (ne_eqb x 13 (λ e. omega (arith, e)), no_return xs h.1)

neither : (a b : Bool) → a ≡ false → b ≡ false → (a || b) ≡ false
neither a b p q = rw (p, q) refl

no_blank : (xs : List ℕ) → AllInk xs → NonePasses is_blank xs
no_blank [] h = tt
no_blank (x ∷ xs) h = let low = h.0 in (neither (x == 32) (x == 9) (ne_eqb x 32 (λ e. omega (arith, e))) (ne_eqb x 9 (λ e. omega (arith, e))), no_blank xs h.1)

no_return_at : (xs : List ℕ) (i : ℕ) → NonePasses (λ b. b == 13) xs → (slice_index xs i == 13) ≡ false
no_return_at [] zero h = refl
no_return_at [] (suc i) h = refl
no_return_at (x ∷ xs) zero h = h.0
no_return_at (x ∷ xs) (suc i) h = no_return_at xs i h.1

-- two words with a space between
abbrev pub spaced : List ℕ → List ℕ → List ℕ
spaced first second = first ++ 32 ∷ second

-- a text that begins with a line of two words
pub line_first : (first second rest : List ℕ) → AllInk first → AllInk second → lines_of (spaced first second ++ 10 ∷ rest) ≡ spaced first second ∷ lines_of rest
line_first first second rest ink more =
    let feeds : NonePasses (λ b. b == 10) (spaced first second) = none-append (λ b. b == 10) first (32 ∷ second) (no_feed _ ink) (refl, no_feed _ more) in
    let returns : NonePasses (λ b. b == 13) (spaced first second) = none-append (λ b. b == 13) first (32 ∷ second) (no_return _ ink) (refl, no_return _ more) in
    ap (map strip_carriage_return) (split_at (λ b. b == 10) (spaced first second) 10 rest feeds refl)
    ∙ ap (λ t. cond t (take (length (spaced first second) - 1) (spaced first second)) (spaced first second) ∷ lines_of rest) (no_return_at (spaced first second) (length (spaced first second) - 1) returns)

-- the words of that line
pub two_words : (first second : List ℕ) → IsWord first → IsWord second → words_of (spaced first second) ≡ first ∷ second ∷ []
two_words first second one other =
    ap (filter (λ w. nat_lt 0 (length w))) (split_at is_blank first 32 second (no_blank first one.ink) refl ∙ ap (λ ws. first ∷ ws) (split_none is_blank second (no_blank second other.ink)))
    ∙ ap (λ t. cond t (first ∷ cond (nat_lt 0 (length second)) (second ∷ []) []) (cond (nat_lt 0 (length second)) (second ∷ []) [])) (lt-ltb _ _ one.some)
    ∙ ap (λ t. first ∷ cond t (second ∷ []) []) (lt-ltb _ _ other.some)
