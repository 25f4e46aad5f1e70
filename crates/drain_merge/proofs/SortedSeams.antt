-- What is shown, sorted in row order: what neighbours in the list say of the rest.
use Rattle.drain_merge.proofs.Names.{◌≡◌, ℕ, zero, suc, true, inl, inr, Some, List, [], ◌∷◌, slice_get, sym, ap, arith, map, refl, subst, ◌+◌, ◌-◌, ◌<◌, ◌≤◌, ◌⊎◌, Option, None, length, slice_index_or, ◌∙◌, Contains, flat_map, false≢true, or_cases, cases_order, Cell, same_cell, IsEarlier, same_cell_true, is_among, Contains-append_left, Contains-append_right, Contains-append_cases, Contains-get_or, Place, WindowReport, reports_of, places_of, IsPermutation, get_or_default, all_adjacent_more, Shown, Differ, IsFirstDifference, AreInRowOrder, NoneDiffersBelow, IsFirstDiffering, cases, passes, earlier_trans, earlier_differs, values_test, same_values, values_pass}
use Rattle.drain_merge.proofs.FirstOfFaults.{both_permuted, pair_permuted}

-- Cells of a list, by a test and by their places.

-- a cell that passes the test is in the list
pub contained_if_has : (cells : List Cell) (c : Cell) → is_among cells c ≡ true → Contains cells c
contained_if_has [] c is = absurd (false≢true is)
contained_if_has (d ∷ cells) c is =
    elim (or_cases (same_cell c d) (is_among cells c) is) [
      | inl same ↦ (0, omega arith, sym (same_cell_true c d same))
      | inr more ↦ (let at = contained_if_has cells c more in (suc at.0, omega (arith, at.1), at.2))
    ]

-- the place of a cell in the list
pub at_place : (cells : List Cell) (c : Cell) → Contains cells c → (k : ℕ) × (slice_get cells k ≡ Some c)
at_place [] c has = absurd (omega (arith, has.1))
at_place (d ∷ cells) c (zero, below, is) = (0, ap Some is)
at_place (d ∷ cells) c (suc k, below, is) = (let at = at_place cells c (k, omega (arith, below), is) in (suc at.0, at.1))

-- What the lists of all windows hold.

pub first_one : {X : Type 0} (x : X) (xs : List X) → Contains (x ∷ xs) x
first_one x xs = (0, omega arith, refl)

pub later_one : {X : Type 0} (v x : X) (xs : List X) → Contains xs x → Contains (v ∷ xs) x
later_one v x xs has = (suc has.0, omega (arith, has.1), has.2)

pub from_flat : {X Y : Type 0} (f : X → List Y) (xs : List X) (y : Y) → Contains (flat_map f xs) y → (x : X) × Contains xs x × Contains (f x) y
from_flat f [] y has = absurd (omega (arith, has.1))
from_flat f (x ∷ xs) y has =
    elim (Contains-append_cases (f x) (flat_map f xs) y has) [
      | inl here ↦ (x, first_one x xs, here)
      | inr rest ↦ (let found = from_flat f xs y rest in (found.0, later_one x found.0 xs found.1, found.2))
    ]

pub in_flat : {X Y : Type 0} (f : X → List Y) (xs : List X) (x : X) (y : Y) → Contains xs x → Contains (f x) y → Contains (flat_map f xs) y
in_flat f [] x y at inside = absurd (omega (arith, at.1))
in_flat f (v ∷ xs) x y (zero, below, is) inside = Contains-append_left (f v) (flat_map f xs) y (subst (λ z. Contains (f z) y) (sym is) inside)
in_flat f (v ∷ xs) x y (suc k, below, is) inside =
    Contains-append_right (f v) (flat_map f xs) y (in_flat f xs x y (k, omega (arith, below), is) inside)

-- where the windows lie, as their reports say
pub same_places : (ws : List WindowReport) → map (λ r. r.place) (reports_of ws) ≡ places_of ws
same_places [] = refl
same_places (w ∷ ws) = ap (λ (ps : List Place). w.report.place ∷ ps) (same_places ws)

-- x stands before y in row order, or they are of one cell
abbrev IsBeforeOrAt : Shown → Shown → Type 0
IsBeforeOrAt x y = IsEarlier x.cell y.cell ⊎ (x.cell ≡ y.cell)

in_turn : (x y z : Shown) → IsBeforeOrAt x y → IsBeforeOrAt y z → IsBeforeOrAt x z
in_turn x y z (inl f) (inl g) = inl (earlier_trans x.cell y.cell z.cell f g)
in_turn x y z (inl f) (inr g) = inl (subst (IsEarlier x.cell) g f)
in_turn x y z (inr f) (inl g) = inl (subst (λ c. IsEarlier c z.cell) (sym f) g)
in_turn x y z (inr f) (inr g) = inr (f ∙ g)

-- no cell is before itself
not_itself : (a b : Cell) → IsEarlier a b → a ≡ b → ⊥
not_itself a b before same = earlier_differs a b before same

module _ (xs : List Shown) (order : AreInRowOrder xs) (d : Shown) where
  ahead : (n i : ℕ) → i + n < length xs → IsBeforeOrAt (slice_index_or xs i d) (slice_index_or xs (i + n) d)
  ahead zero i below =
      let here : i ≡ i + 0 = omega arith in
      subst (λ k. IsBeforeOrAt (slice_index_or xs i d) (slice_index_or xs k d)) here (inr refl)
  ahead (suc n) i below =
      let next : i + n + 1 ≡ i + suc n = omega arith in
      subst (λ k. IsBeforeOrAt (slice_index_or xs i d) (slice_index_or xs k d)) next
      (in_turn (slice_index_or xs i d) (slice_index_or xs (i + n) d) (slice_index_or xs (i + n + 1) d) (ahead n i (omega arith)) (order (i + n) d (omega arith)))

  -- where neighbours up to a place show the same, so do all of one cell up to there
  same_ahead : (high : ℕ) → NoneDiffersBelow xs high → high ≤ length xs → (n i : ℕ) → i + n < high →
      (slice_index_or xs i d).cell ≡ (slice_index_or xs (i + n) d).cell → (slice_index_or xs i d).values ≡ (slice_index_or xs (i + n) d).values
  same_ahead high none within zero i below same =
      let here : i ≡ i + 0 = omega arith in
      ap (λ k. (slice_index_or xs k d).values) here
  same_ahead high none within (suc n) i below same =
      let next : i + n + 1 ≡ i + suc n = omega arith in
      let last : (slice_index_or xs (i + n + 1) d).cell ≡ (slice_index_or xs (i + suc n) d).cell = ap (λ k. (slice_index_or xs k d).cell) next in
      let middle = between (ahead n i (omega arith)) (order (i + n) d (omega arith)) (same ∙ sym last) in
      same_ahead high none within n i (omega arith) middle.0 ∙ none (i + n) d (omega arith) middle.1 ∙ ap (λ k. (slice_index_or xs k d).values) next
    where
      between : IsBeforeOrAt (slice_index_or xs i d) (slice_index_or xs (i + n) d) → IsBeforeOrAt (slice_index_or xs (i + n) d) (slice_index_or xs (i + n + 1) d) →
          (slice_index_or xs i d).cell ≡ (slice_index_or xs (i + n + 1) d).cell →
          ((slice_index_or xs i d).cell ≡ (slice_index_or xs (i + n) d).cell) × ((slice_index_or xs (i + n) d).cell ≡ (slice_index_or xs (i + n + 1) d).cell)
      between (inr f) g ends = (f, sym f ∙ ends)
      between (inl f) (inr g) ends = (ends ∙ sym g, g)
      between (inl f) (inl g) ends = absurd (not_itself _ _ (earlier_trans _ _ _ f g) ends)

module _ (xs : List Shown) (order : AreInRowOrder xs) where
  -- two places of a list, of which the later one is below high
  same_below : (high : ℕ) → NoneDiffersBelow xs high → high ≤ length xs → (x y : Shown) (has_x : Contains xs x) (has_y : Contains xs y) →
      has_x.0 < high → has_y.0 < high → x.cell ≡ y.cell → x.values ≡ y.values
  same_below high none within x y has_x has_y below_x below_y same =
      let at_x : slice_index_or xs has_x.0 x ≡ x = has_x.2 in
      let at_y : slice_index_or xs has_y.0 x ≡ y = get_or_default xs has_y.0 x y has_y.1 ∙ has_y.2 in
      elim (cases_order has_x.0 has_y.0) [
        | inl one ↦ ap (λ (s : Shown). s.values) (sym at_x ∙ ap (λ k. slice_index_or xs k x) one ∙ at_y)
        | inr (inl before) ↦ two x has_x.0 has_y.0 x y before below_y at_x at_y same
        | inr (inr after) ↦ sym (two x has_y.0 has_x.0 y x after below_x at_y at_x (sym same))
      ]
    where
      two : (d : Shown) (i j : ℕ) (a b : Shown) → i < j → j < high → slice_index_or xs i d ≡ a → slice_index_or xs j d ≡ b → a.cell ≡ b.cell → a.values ≡ b.values
      two d i j a b less below at_a at_b same =
          let is : i + (j - i) ≡ j = omega arith in
          let at_j : slice_index_or xs (i + (j - i)) d ≡ b = ap (λ k. slice_index_or xs k d) is ∙ at_b in
          sym (ap (λ (s : Shown). s.values) at_a)
          ∙ same_ahead xs order d high none within (j - i) i (omega arith) (ap (λ (s : Shown). s.cell) at_a ∙ same ∙ sym (ap (λ (s : Shown). s.cell) at_j))
          ∙ ap (λ (s : Shown). s.values) at_j

  pub none_differ : NoneDiffersBelow xs (length xs) → IsFirstDifference xs None
  none_differ none x y has_x has_y same = same_below (length xs) none (omega arith) x y has_x has_y has_x.1 has_y.1 same

  -- an earlier cell stands at an earlier place
  earlier_place : (k : ℕ) → k < length xs → (d x : Shown) (has : Contains xs x) → IsEarlier x.cell (slice_index_or xs k d).cell → has.0 < k
  earlier_place k below d x has before =
      let at_x : slice_index_or xs has.0 d ≡ x = get_or_default xs has.0 d x has.1 ∙ has.2 in
      elim (cases_order has.0 k) [
        | inl one ↦ absurd (not_itself _ _ before (ap (λ (s : Shown). s.cell) (sym at_x ∙ ap (λ n. slice_index_or xs n d) one)))
        | inr (inl less) ↦ less
        | inr (inr after) ↦ absurd (behind at_x after)
      ]
    where
      behind : slice_index_or xs has.0 d ≡ x → k < has.0 → ⊥
      behind at_x after =
          let is : k + (has.0 - k) ≡ has.0 = omega arith in
          let inside : has.0 < length xs = has.1 in
          let later = subst (λ (s : Shown). IsBeforeOrAt (slice_index_or xs k d) s) (ap (λ n. slice_index_or xs n d) is ∙ at_x) (ahead xs order d (has.0 - k) k (omega arith)) in
          by_later later
        where
          by_later : IsBeforeOrAt (slice_index_or xs k d) x → ⊥
          by_later (inl f) = not_itself _ _ (earlier_trans _ _ _ f before) refl
          by_later (inr f) = not_itself _ _ before (sym f)

  pub first_differs : (k : ℕ) (d : Shown) → IsFirstDiffering xs (Some k) → IsFirstDifference xs (Some (slice_index_or xs k d).cell)
  first_differs k d first =
      let some : 0 < k = first.0 in
      let below : k < length xs = first.1 in (
        (
          slice_index_or xs (k - 1) d,
          slice_index_or xs k d,
          Contains-get_or xs (k - 1) d (omega arith),
          Contains-get_or xs k d below,
          first.2 d,
          refl,
        ),
        λ x y has_x has_y before same.
            same_below k first.3 (omega arith) x y has_x has_y
            (earlier_place k below d x has_x (subst (λ c. IsEarlier c (slice_index_or xs k d).cell) (sym same) before))
            (earlier_place k below d y has_y before) same,
      )

-- of a list that holds the same
pub difference_of_permuted : (xs ys : List Shown) (o : Option Cell) → IsPermutation xs ys → IsFirstDifference ys o → IsFirstDifference xs o
difference_of_permuted xs ys None theirs none = both_permuted _ xs ys theirs none
difference_of_permuted xs ys (Some c) theirs first = (pair_permuted Differ (λ y. y.cell ≡ c) xs ys theirs first.0, both_permuted _ xs ys theirs first.1)

-- of two that don't differ, those of one cell show the same
not_differ : (x y : Shown) → ¬ Differ x y → x.cell ≡ y.cell → x.values ≡ y.values
not_differ x y alike same =
    elim (cases (passes (values_test x.values y.values))) [
      | inl passed ↦ same_values x.values y.values passed
      | inr failed ↦ absurd (alike (same, λ equal. failed (values_pass x.values y.values equal)))
    ]

abbrev ShowSame : Shown → Shown → Type 0
ShowSame a b = a.cell ≡ b.cell → a.values ≡ b.values

-- one place more
pub none_more : (xs : List Shown) (n : ℕ) (x y : Shown) → 0 < n → n < length xs → x ≡ slice_index_or xs (n - 1) x → y ≡ slice_index_or xs n y →
    NoneDiffersBelow xs n → ¬ Differ x y → NoneDiffersBelow xs (n + 1)
none_more xs n x y some below at_x at_y before alike = all_adjacent_more xs ShowSame n some before (λ d.
    (let is_x : x ≡ slice_index_or xs (n - 1) d = at_x ∙ get_or_default xs (n - 1) x d (omega arith) in
    let is_y : y ≡ slice_index_or xs n d = at_y ∙ get_or_default xs n y d below in
    subst (λ a. ShowSame a (slice_index_or xs n d)) is_x (subst (ShowSame x) is_y (not_differ x y alike))))
