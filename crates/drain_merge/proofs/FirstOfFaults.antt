-- One window more, in a search for the first of the windows' faults; pairs of a list, and the first of them.
use Rattle.drain_merge.proofs.Names.{◌≡◌, ℕ, ◌+◌, ◌<◌, List, length, slice_index_or, take, subst, ◌∙◌, below_more, arith, inl, inr, Option, Some, None, [], ◌∷◌, ◌++◌, refl, sym, ap, All, Contains, IsPermutation, length-take-le, take_more, Contains-permutation, IsPermutation-sym, Contains-append_left, Contains-push, Contains-push_cases, pair_trans, Fault, WindowReport, union_fault, ComesBefore, IsEarlierFault, IsFirstOfFaults, earlier_differs, none_some, same_some}
use Rattle.std.proofs.Common.{get_or-take}
use Rattle.std.specs.List.{HoldsAt}
use Rattle.drain_merge.proofs.Elements.{at_place}

-- what holds of any two elements of a list holds of any two of one with the same elements
pub both_permuted : {X : Type 0} (R : X → X → Type 0) (xs ys : List X) → IsPermutation xs ys → ((x y : X) → Contains ys x → Contains ys y → R x y) →
    (x y : X) → Contains xs x → Contains xs y → R x y
both_permuted R xs ys theirs holds x y has_x has_y = holds x y (Contains-permutation xs ys x theirs has_x) (Contains-permutation xs ys y theirs has_y)

-- and two of the one are two of the other
pub pair_permuted : {X : Type 0} (R : X → X → Type 0) (S : X → Type 0) (xs ys : List X) → IsPermutation xs ys →
    ((x : X) × (y : X) × Contains ys x × Contains ys y × R x y × S y) → (x : X) × (y : X) × Contains xs x × Contains xs y × R x y × S y
pair_permuted R S xs ys theirs pair =
    let back = IsPermutation-sym xs ys theirs in
    (pair.0, pair.1, Contains-permutation ys xs pair.0 back pair.2, Contains-permutation ys xs pair.1 back pair.3, pair.4, pair.5)

-- pairs of the first so many elements
abbrev pub PairsBelow : {X : Type 0} → (X → X → Type 0) → List X → ℕ → Type 0
PairsBelow {X} R xs n = (i j : ℕ) (d : X) → i < j → j < n → R (slice_index_or xs i d) (slice_index_or xs j d)

pub pairs_more : {X : Type 0} (R : X → X → Type 0) (xs : List X) (n : ℕ) (x : X) → n < length xs → x ≡ slice_index_or xs n x →
    PairsBelow R xs n → All (λ y. R y x) (take n xs) → PairsBelow R xs (n + 1)
pairs_more {X} R xs n x inside is before here i j d less below =
    below_more (λ k. i < k → R (slice_index_or xs i d) (slice_index_or xs k d)) n (λ k within less. before i k d less within)
    (λ less. at_place (λ z. R (slice_index_or xs i d) z) xs n x inside is (earlier less) d) j below less
  where
    earlier : i < n → R (slice_index_or xs i d) x
    earlier less =
        let part : length (take n xs) ≡ n = length-take-le n xs (omega arith) in
        subst (λ y. R y x) (get_or-take n xs i d less) (here i d (omega arith))

-- and a pair of the last of them and an earlier one
pub pair_found : {X : Type 0} (R : X → X → Type 0) (xs : List X) (n i : ℕ) (x : X) → n < length xs → x ≡ slice_index_or xs n x →
    i < length (take n xs) → HoldsAt (λ y. R y x) (take n xs) i → (i < n) × (n < length xs) × ((d : X) → R (slice_index_or xs i d) (slice_index_or xs n d))
pair_found R xs n i x inside is among found =
    let part : length (take n xs) ≡ n = length-take-le n xs (omega arith) in
    let less : i < n = omega arith in
    (less, inside, λ d. at_place (λ z. R (slice_index_or xs i d) z) xs n x inside is (subst (λ y. R y x) (get_or-take n xs i d less) (found d)) d)

before_trans : (a b c : Fault) → ComesBefore a b → ComesBefore b c → ComesBefore a c
before_trans a b c first second = pair_trans a.cell b.cell c.cell a.rule b.rule c.rule (inl first) second

not_before_itself : (a : Fault) → ¬ ComesBefore a a
not_before_itself a (inl earlier) = earlier_differs a.cell a.cell earlier refl
not_before_itself a (inr same) = absurd (omega (arith, same.1))

module _ (ws : List WindowReport) (w : WindowReport) where
  -- a window of those before, or this one
  old_or_new : (P : WindowReport → Type 0) → ((x : WindowReport) → Contains ws x → P x) → P w → (x : WindowReport) → Contains (ws ++ w ∷ []) x → P x
  old_or_new P old new x has =
      elim (Contains-push_cases ws w x has) [
        | inl before ↦ old x before
        | inr here ↦ subst P here new
      ]

  pub fault_more : (first second found : Option Fault) → union_fault w ≡ second → IsFirstOfFaults ws first → IsEarlierFault first second found →
      IsFirstOfFaults (ws ++ w ∷ []) found
  fault_more None None found is none earlier =
      subst (IsFirstOfFaults (ws ++ w ∷ [])) (sym earlier) (old_or_new (λ x. union_fault x ≡ None) none is)
  fault_more None (Some b) found is none earlier = subst (IsFirstOfFaults (ws ++ w ∷ [])) (sym earlier) (
    (w, Contains-push ws w, is),
    λ x other has here. old_or_new (λ x. union_fault x ≡ Some other → ¬ ComesBefore other b)
        (λ x has here. absurd (none_some other (sym (none x has) ∙ here)))
        (λ here before. not_before_itself b (subst (λ f. ComesBefore f b) (same_some other b (sym here ∙ is)) before)) x has here,
  )
  fault_more (Some a) None found is first earlier = subst (IsFirstOfFaults (ws ++ w ∷ [])) (sym earlier) (
    (first.0.0, Contains-append_left ws (w ∷ []) first.0.0 first.0.1, first.0.2),
    λ x other has here. old_or_new (λ x. union_fault x ≡ Some other → ¬ ComesBefore other a)
        (λ x has here. first.1 x other has here)
        (λ here. absurd (none_some other (sym is ∙ here))) x has here,
  )
  fault_more (Some a) (Some b) found is first (inl new) = subst (IsFirstOfFaults (ws ++ w ∷ [])) (sym new.0) (
    (w, Contains-push ws w, is),
    λ x other has here. old_or_new (λ x. union_fault x ≡ Some other → ¬ ComesBefore other b)
        (λ x has here before. first.1 x other has here (before_trans other b a before new.1))
        (λ here before. not_before_itself b (subst (λ f. ComesBefore f b) (same_some other b (sym here ∙ is)) before)) x has here,
  )
  fault_more (Some a) (Some b) found is first (inr old) = subst (IsFirstOfFaults (ws ++ w ∷ [])) (sym old.0) (
    (first.0.0, Contains-append_left ws (w ∷ []) first.0.0 first.0.1, first.0.2),
    λ x other has here. old_or_new (λ x. union_fault x ≡ Some other → ¬ ComesBefore other a)
        (λ x has here. first.1 x other has here)
        (λ here before. old.1 (subst (λ f. ComesBefore f a) (same_some other b (sym here ∙ is)) before)) x has here,
  )

pub fault_of_next : (ws : List WindowReport) (n : ℕ) (w : WindowReport) (first found : Option Fault) → n < length ws → w ≡ slice_index_or ws n w →
    IsFirstOfFaults (take n ws) first → IsEarlierFault first (union_fault w) found → IsFirstOfFaults (take (n + 1) ws) found
fault_of_next ws n w first found below is before earlier =
    let more : take (n + 1) ws ≡ take n ws ++ w ∷ [] = take_more ws n w below ∙ ap (λ x. take n ws ++ x ∷ []) (sym is) in
    subst (λ xs. IsFirstOfFaults xs found) (sym more) (fault_more (take n ws) w first (union_fault w) found refl before earlier)

-- the two answers, where both faults are there
pub second_first : (first second : Option Fault) (a b : Fault) → first ≡ Some a → second ≡ Some b → ComesBefore b a → IsEarlierFault first second (Some b)
second_first first second a b is_a is_b before =
    subst (λ f. IsEarlierFault f second (Some b)) (sym is_a) (subst (λ s. IsEarlierFault (Some a) s (Some b)) (sym is_b) (inl (refl, before)))

pub first_first : (first second : Option Fault) (a b : Fault) → first ≡ Some a → second ≡ Some b → ¬ ComesBefore b a → IsEarlierFault first second (Some a)
first_first first second a b is_a is_b before =
    subst (λ f. IsEarlierFault f second (Some a)) (sym is_a) (subst (λ s. IsEarlierFault (Some a) s (Some a)) (sym is_b) (inr (refl, before)))
