-- Numbers of a sorted list that are tried in turn: those before a first and from an end on, and those that equal the one
-- before, are passed over.
use Rattle.drain_merge.proofs.Names.{◌≡◌, ℕ, ◌+◌, ◌-◌, ◌<◌, ◌≤◌, inl, inr, List, length, slice_index, sym, subst, ◌∙◌, below_more, arith, Contains, IsNonDecreasing, get_or_default, cases, same_number, less_number, IsNewBetween}

-- the first so many of the numbers, as far as they are from the first one up to the end, have the property
abbrev pub Passed : (ℕ → Type 0) → List ℕ → ℕ → ℕ → ℕ → Type 0
Passed P xs from end i = (k : ℕ) → k < i → from ≤ slice_index xs k → slice_index xs k < end → P (slice_index xs k)

module _ (P : ℕ → Type 0) (xs : List ℕ) (from end : ℕ) where
  pub passed_more : (i : ℕ) → Passed P xs from end i → (IsNewBetween xs i from end → P (slice_index xs i)) → Passed P xs from end (i + 1)
  passed_more i before tried = below_more (λ k. from ≤ slice_index xs k → slice_index xs k < end → P (slice_index xs k)) i before here
    where
      here : from ≤ slice_index xs i → slice_index xs i < end → P (slice_index xs i)
      here above below =
          elim (cases (less_number 0 i)) [
            | inl later ↦
                elim (cases (same_number (slice_index xs (i - 1)) (slice_index xs i))) [
                  | inl same ↦
                      subst P same (before (i - 1) (omega arith) (subst (λ n. from ≤ n) (sym same) above) (subst (λ n. n < end) (sym same) below))
                  | inr other ↦ tried (above, below, λ _. other)
                ]
            | inr first ↦ tried (above, below, λ later. absurd (first later))
          ]

  -- so each number of the list from the first one up to the end has it
  pub all_passed : Passed P xs from end (length xs) → (x : ℕ) → Contains xs x → from ≤ x → x < end → P x
  all_passed passed x at above below =
      let is : slice_index xs at.0 ≡ x = get_or_default xs at.0 0 x at.1 ∙ at.2 in
      subst P is (passed at.0 at.1 (subst (λ n. from ≤ n) (sym is) above) (subst (λ n. n < end) (sym is) below))

  -- and each that is smaller than the next one of the list
  pub passed_before : IsNonDecreasing xs → (i : ℕ) → i < length xs → slice_index xs i < end → Passed P xs from end i →
      (x : ℕ) → Contains xs x → from ≤ x → x < slice_index xs i → P x
  passed_before rising i inside below passed x at above less =
      let is : slice_index xs at.0 ≡ x = get_or_default xs at.0 0 x at.1 ∙ at.2 in
      elim (cases (less_number at.0 i)) [
        | inl before ↦ subst P is (passed at.0 before (subst (λ n. from ≤ n) (sym is) above) (subst (λ n. n < end) (sym is) (omega arith)))
        | inr behind ↦
            (let order : slice_index xs i ≤ slice_index xs at.0 = rising i at.0 0 (omega arith) at.1 in
            absurd (omega (arith, is)))
      ]

pub held_at : (xs : List ℕ) (i : ℕ) → i < length xs → Contains xs (slice_index xs i)
held_at xs i inside = (i, inside, get_or_default xs i (slice_index xs i) 0 inside)
