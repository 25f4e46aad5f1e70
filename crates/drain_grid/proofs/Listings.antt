-- What lines before others list, and what follows; and the first bad line.
use Rattle.drain_grid.proofs.Names.{◌<◌, ℕ, List, length, get_or, arith, ◌≡◌, Bool, true, false, Option, Some, None, is_none, refl, sym, ◌∙◌, [], ◌∷◌, ◌++◌, Result, Ok, Err, ap, append_assoc, ◌+◌, zero, suc, false≢true, line_says, listing, with_item, with_line}
use Rattle.drain_grid.specs.declared.number_line.LineSays.{LineSays}
use Rattle.drain_grid.specs.declared.number_line.LineSays.TheVariants.{Nothing, Numbers, Other}

-- what lists these first
abbrev pub after_these : {A : Type 0} → List A → Result (List A) ℕ → Result (List A) ℕ
after_these before (Ok xs) = Ok (before ++ xs)
after_these before (Err bad) = Err bad

pub after_none : {A : Type 0} (rest : Result (List A) ℕ) → after_these [] rest ≡ rest
after_none (Ok xs) = refl
after_none (Err bad) = refl

-- what a line lists joins what is listed before it
pub after_one_more : {A : Type 0} (before : List A) (number : ℕ) (x : A) (rest : Result (List A) ℕ) →
    after_these before (with_item number (Some x) rest) ≡ after_these (before ++ x ∷ []) rest
after_one_more before number x (Ok xs) = ap (λ xs. Ok xs) (sym (append_assoc before (x ∷ []) xs))
after_one_more before number x (Err bad) = refl

-- For a reviewer: the number in a listing's error is that of the first bad line, counted from the first line's number.

-- a line of this number is bad if its words aren't two whole numbers, or if these list nothing
abbrev pub is_bad : {A : Type 0} → (ℕ → ℕ → ℕ → Option A) → ℕ → LineSays → Bool
is_bad item number Nothing = false
is_bad item number Other = true
is_bad item number (Numbers a b) = is_none (item number a b)

-- k lines come before the first bad one, which has this number
pub record IsFirstBad {A : Type 0} (item : ℕ → ℕ → ℕ → Option A) (number : ℕ) (lines : List (List ℕ)) (bad k : ℕ) : Type 0 where
  pub inside : k < length lines
  pub counted : bad ≡ number + k
  pub bad_there : is_bad item (number + k) (line_says (get_or lines k [])) ≡ true
  pub first : (j : ℕ) → j < k → is_bad item (number + j) (line_says (get_or lines j [])) ≡ false

abbrev is_told : {A : Type 0} → Result (List A) ℕ → Bool
is_told (Ok xs) = false
is_told (Err bad) = true

abbrev told : {A : Type 0} → Result (List A) ℕ → ℕ
told (Ok xs) = 0
told (Err bad) = bad

past_item : {A : Type 0} (number : ℕ) (x : A) (rest : Result (List A) ℕ) (bad : ℕ) → with_item number (Some x) rest ≡ Err bad → rest ≡ Err bad
past_item number x (Ok xs) bad h = absurd (false≢true (ap is_told h))
past_item number x (Err b) bad h = h

module _ {A : Type 0} (item : ℕ → ℕ → ℕ → Option A) where
  -- a line that isn't bad before others
  one_before : (number : ℕ) (line : List ℕ) (more : List (List ℕ)) (bad : ℕ) → is_bad item number (line_says line) ≡ false →
      (k : ℕ) × IsFirstBad item (number + 1) more bad k → (k : ℕ) × IsFirstBad item number (line ∷ more) bad k
  one_before number line more bad good later =
      let found = later.1 in (
        suc later.0,
        record {
          inside = omega (arith, found.inside);
          counted = omega (arith, found.counted);
          bad_there = counted_on (number + 1 + later.0) (number + suc later.0) (omega arith) (get_or more later.0 []) true found.bad_there;
          first = shifted found.first;
        },
      )
    where
      counted_on : (m n : ℕ) → m ≡ n → (line : List ℕ) (b : Bool) → is_bad item m (line_says line) ≡ b → is_bad item n (line_says line) ≡ b
      counted_on m n same line b h = sym (ap (λ m. is_bad item m (line_says line)) same) ∙ h

      shifted : ((j : ℕ) → j < later.0 → is_bad item (number + 1 + j) (line_says (get_or more j [])) ≡ false) →
          (j : ℕ) → j < suc later.0 → is_bad item (number + j) (line_says (get_or (line ∷ more) j [])) ≡ false
      shifted h zero less = counted_on number (number + 0) (omega arith) line false good
      shifted h (suc j) less = counted_on (number + 1 + j) (number + suc j) (omega arith) (get_or more j []) false (h j (omega arith))

  here : (number : ℕ) (line : List ℕ) (more : List (List ℕ)) (bad : ℕ) → is_bad item number (line_says line) ≡ true → number ≡ bad →
      (k : ℕ) × IsFirstBad item number (line ∷ more) bad k
  here number line more bad is same = (
    0,
    record {
      inside = omega arith;
      counted = omega (arith, same);
      bad_there = ap (λ m. is_bad item m (line_says line)) (let e : number + 0 ≡ number = omega arith in e) ∙ is;
      first = λ j less. absurd (omega arith);
    },
  )

  at_item : (number : ℕ) (line : List ℕ) (more : List (List ℕ)) (bad : ℕ) (o : Option A) → is_bad item number (line_says line) ≡ is_none o →
      with_item number o (listing item (number + 1) more) ≡ Err bad →
      (listing item (number + 1) more ≡ Err bad → (k : ℕ) × IsFirstBad item (number + 1) more bad k) → (k : ℕ) × IsFirstBad item number (line ∷ more) bad k
  at_item number line more bad None is h later = here number line more bad is (ap told h)
  at_item number line more bad (Some x) is h later = one_before number line more bad is (later (past_item number x (listing item (number + 1) more) bad h))

  at_line : (number : ℕ) (line : List ℕ) (more : List (List ℕ)) (bad : ℕ) (says : LineSays) → line_says line ≡ says →
      with_line item number says (listing item (number + 1) more) ≡ Err bad →
      (listing item (number + 1) more ≡ Err bad → (k : ℕ) × IsFirstBad item (number + 1) more bad k) → (k : ℕ) × IsFirstBad item number (line ∷ more) bad k
  at_line number line more bad Other is h later = here number line more bad (ap (is_bad item number) is) (ap told h)
  at_line number line more bad Nothing is h later = one_before number line more bad (ap (is_bad item number) is) (later h)
  at_line number line more bad (Numbers a b) is h later = at_item number line more bad (item number a b) (ap (is_bad item number) is) h later

  pub first_bad : (number : ℕ) (lines : List (List ℕ)) (bad : ℕ) → listing item number lines ≡ Err bad → (k : ℕ) × IsFirstBad item number lines bad k
  first_bad number [] bad h = absurd (false≢true (ap is_told h))
  first_bad number (line ∷ more) bad h = at_line number line more bad (line_says line) refl h (first_bad (number + 1) more bad)
