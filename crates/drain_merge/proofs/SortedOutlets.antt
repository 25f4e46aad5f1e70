-- Outlets sorted by label, and those with one label in row order: what neighbours in the list say of the rest.
use Rattle.drain_merge.proofs.Names.{◌≡◌, ◌≢◌, ℕ, zero, suc, ◌+◌, ◌-◌, ◌<◌, ◌⊎◌, inl, inr, false, pos, ◌≤ℤ◌, Option, Some, None, List, length, slice_index_or, refl, sym, ap, subst, ◌∙◌, below_more, arith, int_cmp, Contains, IsPermutation, ordering_then, false≢true, cases_order, get_or_default, Contains-get_or, Cell, IsEarlier, place, earlier_trans, earlier_differs, Outlet, SharesAt, IsNoSooner, AreInOrder, IsLeastSharing, SharesWithEarlier, IsFirstSharing, IsEarlierOf}
use Rattle.std.proofs.Common.{is_lt, nat_cmp}
use Rattle.std.proofs.lemmas.Cmp.{ranked, int_ranked, by_ranked}
use Rattle.std.proofs.lemmas.Int.{ints}
use Rattle.drain_grid.proofs.Lowered.{same_or_not}
use Rattle.drain_merge.proofs.FirstOfFaults.{both_permuted, pair_permuted}

-- what a comparison of cells says
pub cell_order : (a b : Cell) → is_lt (ordering_then (nat_cmp b.row a.row) (nat_cmp b.col a.col)) ≡ false → IsEarlier a b ⊎ (a ≡ b)
cell_order a b not_less =
    by_ranked _ _ _ (nat_cmp b.row a.row) (ranked b.row a.row _ refl)
    (λ is less. absurd (false≢true (sym not_less ∙ ap (λ o. is_lt (ordering_then o (nat_cmp b.col a.col))) is)))
    (λ is same.
    by_ranked _ _ _ (nat_cmp b.col a.col) (ranked b.col a.col _ refl)
    (λ too less. absurd (false≢true (sym not_less ∙ ap (λ o. is_lt (ordering_then o (nat_cmp b.col a.col))) is ∙ ap is_lt too)))
    (λ too alike. inr (λ i. place (sym same i) (sym alike i)))
    (λ too more. inl (inr (sym same, more))))
    (λ is more. inl (inl more))

-- what a comparison of labels, and then of cells, says
pub outlet_order : (x y : Outlet) →
    is_lt (ordering_then (int_cmp y.label x.label) (ordering_then (nat_cmp y.cell.row x.cell.row) (nat_cmp y.cell.col x.cell.col))) ≡ false → IsNoSooner x y
outlet_order x y not_less =
    let cells = ordering_then (nat_cmp y.cell.row x.cell.row) (nat_cmp y.cell.col x.cell.col) in
    by_ranked _ _ _ (int_cmp y.label x.label) (int_ranked y.label x.label _ refl)
    (λ is less. absurd (false≢true (sym not_less ∙ ap (λ o. is_lt (ordering_then o cells)) is)))
    (λ is same. inr (sym same, cell_order x.cell y.cell (sym (ap (λ o. is_lt (ordering_then o cells)) is) ∙ not_less)))
    (λ is more. inl more)

module _ (xs : List Outlet) (order : AreInOrder xs) (d : Outlet) where
  -- labels don't fall
  label_next : (k : ℕ) → k + 1 < length xs → (slice_index_or xs k d).label ≤ℤ (slice_index_or xs (k + 1) d).label
  label_next k below = by_order (order k d below)
    where
      by_order : IsNoSooner (slice_index_or xs k d) (slice_index_or xs (k + 1) d) → (slice_index_or xs k d).label ≤ℤ (slice_index_or xs (k + 1) d).label
      by_order (inl less) = omega (arith, ints, less)
      by_order (inr same) = omega (arith, ints, same.0)

  label_ahead : (n i : ℕ) → i + n < length xs → (slice_index_or xs i d).label ≤ℤ (slice_index_or xs (i + n) d).label
  label_ahead zero i below =
      let here : i ≡ i + 0 = omega arith in
      subst (λ k. (slice_index_or xs i d).label ≤ℤ (slice_index_or xs k d).label) here (omega (arith, ints))
  label_ahead (suc n) i below =
      let next : i + n + 1 ≡ i + suc n = omega arith in
      let ahead : (slice_index_or xs i d).label ≤ℤ (slice_index_or xs (i + n) d).label = label_ahead n i (omega arith) in
      let one : (slice_index_or xs (i + n) d).label ≤ℤ (slice_index_or xs (i + n + 1) d).label = label_next (i + n) (omega arith) in
      subst (λ k. (slice_index_or xs i d).label ≤ℤ (slice_index_or xs k d).label) next (omega (arith, ints, ahead, one))

  -- an outlet with the label of the one before it and another cell
  shares : (k : ℕ) → k + 1 < length xs → (slice_index_or xs k d).label ≡ (slice_index_or xs (k + 1) d).label →
      (slice_index_or xs k d).cell ≢ (slice_index_or xs (k + 1) d).cell → SharesAt xs (k + 1)
  shares k below same other e =
      let before : slice_index_or xs k d ≡ slice_index_or xs (k + 1 - 1) e =
      (get_or_default xs k d e (omega arith) ∙ ap (λ n. slice_index_or xs n e) (omega arith)) in
      let here : slice_index_or xs (k + 1) d ≡ slice_index_or xs (k + 1) e = get_or_default xs (k + 1) d e below in (
        sym (ap (λ (o : Outlet). o.label) before) ∙ same ∙ ap (λ (o : Outlet). o.label) here,
        λ alike. other (ap (λ (o : Outlet). o.cell) before ∙ alike ∙ sym (ap (λ (o : Outlet). o.cell) here)),
      )

  -- of two outlets with one label and two cells, the cell of the later one is that of an outlet that shares its label with
  -- the one before it
  pub sharing_cell : (n i : ℕ) → i + n < length xs → (slice_index_or xs i d).label ≡ (slice_index_or xs (i + n) d).label →
      (slice_index_or xs i d).cell ≢ (slice_index_or xs (i + n) d).cell →
      (k : ℕ) × (0 < k) × (k < length xs) × SharesAt xs k × ((slice_index_or xs k d).cell ≡ (slice_index_or xs (i + n) d).cell)
  sharing_cell zero i below same other =
      let is : i ≡ i + 0 = omega arith in
      absurd (other (ap (λ k. (slice_index_or xs k d).cell) is))
  sharing_cell (suc n) i below same other =
      let next : i + n + 1 ≡ i + suc n = omega arith in
      let within : i + n + 1 < length xs = omega arith in
      let ahead : (slice_index_or xs i d).label ≤ℤ (slice_index_or xs (i + n) d).label = label_ahead n i (omega arith) in
      let one : (slice_index_or xs (i + n) d).label ≤ℤ (slice_index_or xs (i + n + 1) d).label = label_next (i + n) within in
      let last : (slice_index_or xs (i + n + 1) d).label ≡ (slice_index_or xs (i + suc n) d).label = ap (λ k. (slice_index_or xs k d).label) next in
      let last_cell : (slice_index_or xs (i + n + 1) d).cell ≡ (slice_index_or xs (i + suc n) d).cell = ap (λ k. (slice_index_or xs k d).cell) next in
      let first : (slice_index_or xs i d).label ≡ (slice_index_or xs (i + n) d).label = omega (arith, ints, ahead, one, last, same) in
      let second : (slice_index_or xs (i + n) d).label ≡ (slice_index_or xs (i + n + 1) d).label = omega (arith, ints, ahead, one, last, same) in
      elim (same_or_not (slice_index_or xs (i + n) d).cell (slice_index_or xs (i + n + 1) d).cell) [
        | inl alike ↦
            (let back = sharing_cell n i (omega arith) first (λ no. other (no ∙ alike ∙ last_cell)) in
            (back.0, back.1, back.2, back.3, back.4 ∙ alike ∙ last_cell))
        | inr differ ↦ (i + n + 1, omega arith, within, shares (i + n) within second differ, last_cell)
      ]

-- where a list is in order, what is least among neighbours is so among all outlets
module _ (xs : List Outlet) (order : AreInOrder xs) where
  abbrev SharingAt : Outlet → ℕ → Cell → Type 0
  SharingAt d k c = (0 < k) × (k < length xs) × SharesAt xs k × ((slice_index_or xs k d).cell ≡ c)

  -- where two outlets share a label, the cell of one is that of an outlet that shares its label with the one before it
  sharing : (x y : Outlet) → Contains xs x → Contains xs y → x.label ≡ y.label → x.cell ≢ y.cell →
      (k : ℕ) × (SharingAt x k x.cell ⊎ SharingAt x k y.cell)
  sharing x y has_x has_y same other =
      let at_x : slice_index_or xs has_x.0 x ≡ x = has_x.2 in
      let at_y : slice_index_or xs has_y.0 x ≡ y = get_or_default xs has_y.0 x y has_y.1 ∙ has_y.2 in
      elim (cases_order has_x.0 has_y.0) [
        | inl one ↦ absurd (other (ap (λ (o : Outlet). o.cell) (sym at_x ∙ ap (λ k. slice_index_or xs k x) one ∙ at_y)))
        | inr (inl before) ↦
            (let there = ahead x has_x.0 has_y.0 x y before has_y.1 at_x at_y same other in (there.0, inr there.1))
        | inr (inr after) ↦
            (let there = ahead x has_y.0 has_x.0 y x after has_x.1 at_y at_x (sym same) (λ no. other (sym no)) in (there.0, inl there.1))
      ]
    where
      ahead : (d : Outlet) (i j : ℕ) (a b : Outlet) → i < j → j < length xs → slice_index_or xs i d ≡ a → slice_index_or xs j d ≡ b →
          a.label ≡ b.label → a.cell ≢ b.cell → (k : ℕ) × SharingAt d k b.cell
      ahead d i j a b less below at_a at_b same other =
          let is : i + (j - i) ≡ j = omega arith in
          let at_j : slice_index_or xs (i + (j - i)) d ≡ b = ap (λ k. slice_index_or xs k d) is ∙ at_b in
          let found = sharing_cell xs order d (j - i) i (omega arith) (ap (λ (o : Outlet). o.label) at_a ∙ same ∙ sym (ap (λ (o : Outlet). o.label) at_j))
          (λ no. other (sym (ap (λ (o : Outlet). o.cell) at_a) ∙ no ∙ ap (λ (o : Outlet). o.cell) at_j)) in
          (found.0, (found.1, found.2, found.3, found.4 ∙ ap (λ (o : Outlet). o.cell) at_j))

  pub first_of_least : (o : Option Cell) → IsLeastSharing xs (length xs) o → IsFirstSharing xs o
  first_of_least None none = λ x y has_x has_y same.
      elim (same_or_not x.cell y.cell) [
        | inl one ↦ one
        | inr other ↦ absurd (by_place x y (sharing x y has_x has_y same other))
      ]
    where
      by_place : (x y : Outlet) → (k : ℕ) × (SharingAt x k x.cell ⊎ SharingAt x k y.cell) → ⊥
      by_place x y (k, inl at) = none k at.0 at.1 at.2
      by_place x y (k, inr at) = none k at.0 at.1 at.2
  first_of_least (Some c) least = (found, λ x y has_x has_y shares before. by_place x y shares.1 before (sharing x y has_x has_y shares.0 (earlier_differs x.cell y.cell shares.1)))
    where
      nothing : Outlet
      nothing = record { label = pos 0; cell = c }

      found : (x : Outlet) × (y : Outlet) × Contains xs x × Contains xs y × SharesWithEarlier x y × (y.cell ≡ c)
      found =
          let k = least.0.0 in
          let some : 0 < k = least.0.1 in
          let within : k < length xs = least.0.2 in
          let next : k - 1 + 1 ≡ k = omega arith in
          let shares = least.0.3 nothing in
          let steps = subst (λ n. IsNoSooner (slice_index_or xs (k - 1) nothing) (slice_index_or xs n nothing)) next (order (k - 1) nothing (omega arith)) in (
            slice_index_or xs (k - 1) nothing,
            slice_index_or xs k nothing,
            Contains-get_or xs (k - 1) nothing (omega arith),
            Contains-get_or xs k nothing within,
            (shares.0, earlier (slice_index_or xs (k - 1) nothing) (slice_index_or xs k nothing) shares.0 shares.1 steps),
            least.0.4 nothing,
          )
        where
          earlier : (x y : Outlet) → x.label ≡ y.label → x.cell ≢ y.cell → IsNoSooner x y → IsEarlier x.cell y.cell
          earlier x y same other (inl less) = absurd (omega (arith, ints, less, same))
          earlier x y same other (inr (label, inl before)) = before
          earlier x y same other (inr (label, inr one)) = absurd (other one)

      by_place : (x y : Outlet) → IsEarlier x.cell y.cell → IsEarlier y.cell c → (k : ℕ) × (SharingAt x k x.cell ⊎ SharingAt x k y.cell) → ⊥
      by_place x y after before (k, inl at) =
          least.1 k x at.0 at.1 at.2 (subst (λ b. IsEarlier b c) (sym at.3) (earlier_trans x.cell y.cell c after before))
      by_place x y after before (k, inr at) = least.1 k x at.0 at.1 at.2 (subst (λ b. IsEarlier b c) (sym at.3) before)

-- one place more
pub least_passed : (xs : List Outlet) (n : ℕ) (o : Option Cell) → IsLeastSharing xs n o → ¬ SharesAt xs n → IsLeastSharing xs (n + 1) o
least_passed xs n None none here = λ k some below. below_more (λ k. 0 < k → ¬ SharesAt xs k) n (λ k less some. none k some less) (λ some. here) k below some
least_passed xs n (Some c) least here = (
  (least.0.0, least.0.1, omega (arith, least.0.2), least.0.3, least.0.4),
  λ k d some below.
      below_more (λ k. 0 < k → SharesAt xs k → ¬ IsEarlier (slice_index_or xs k d).cell c) n (λ k less some. least.1 k d some less)
      (λ some shares. absurd (here shares)) k below some,
)

-- the earlier one of two cells isn't behind either
not_behind : (b c e : Cell) → IsEarlierOf (Some b) c e → (¬ IsEarlier b e) × (¬ IsEarlier c e)
not_behind b c e (inl first) = (
  λ before. earlier_differs b e before (sym first.0),
  λ before. first.1 (subst (IsEarlier c) first.0 before),
)
not_behind b c e (inr second) = (
  λ before. earlier_differs b b (earlier_trans b c b (subst (IsEarlier b) second.0 before) second.1) refl,
  λ before. earlier_differs c e before (sym second.0),
)

pub least_taken : (xs : List Outlet) (n : ℕ) (o : Option Cell) (c e : Cell) → 0 < n → IsLeastSharing xs n o → SharesAt xs n →
    ((d : Outlet) → (slice_index_or xs n d).cell ≡ c) → IsEarlierOf o c e → IsLeastSharing xs (n + 1) (Some e)
least_taken xs n None c e some none here is first = (
  (n, some, omega arith, here, λ d. is d ∙ sym first),
  λ k d more below.
      below_more (λ k. 0 < k → SharesAt xs k → ¬ IsEarlier (slice_index_or xs k d).cell e) n (λ k less more shares. absurd (none k more less shares))
      (λ more shares before. earlier_differs (slice_index_or xs n d).cell e before (is d ∙ sym first)) k below more,
)
least_taken xs n (Some b) c e some least here is first = (
  by_which first,
  λ k d more below.
      below_more (λ k. 0 < k → SharesAt xs k → ¬ IsEarlier (slice_index_or xs k d).cell e) n (λ k less more shares before. least.1 k d more less shares (older k d before))
      (λ more shares before. (not_behind b c e first).1 (subst (λ x. IsEarlier x e) (is d) before)) k below more,
)
  where
    by_which : IsEarlierOf (Some b) c e → (k : ℕ) × (0 < k) × (k < n + 1) × SharesAt xs k × ((d : Outlet) → (slice_index_or xs k d).cell ≡ e)
    by_which (inl old) = (least.0.0, least.0.1, omega (arith, least.0.2), least.0.3, λ d. least.0.4 d ∙ sym old.0)
    by_which (inr new) = (n, some, omega arith, here, λ d. is d ∙ sym new.0)

    older : (k : ℕ) (d : Outlet) → IsEarlier (slice_index_or xs k d).cell e → IsEarlier (slice_index_or xs k d).cell b
    older k d before = to_b first
      where
        to_b : IsEarlierOf (Some b) c e → IsEarlier (slice_index_or xs k d).cell b
        to_b (inl old) = subst (IsEarlier (slice_index_or xs k d).cell) old.0 before
        to_b (inr new) = earlier_trans (slice_index_or xs k d).cell c b (subst (IsEarlier (slice_index_or xs k d).cell) new.0 before) new.1

-- the same places, counted up to another number
pub least_at : (xs : List Outlet) (n m : ℕ) (o : Option Cell) → ((k : ℕ) → 0 < k → k < n → k < m) → ((k : ℕ) → 0 < k → k < m → k < n) →
    IsLeastSharing xs n o → IsLeastSharing xs m o
least_at xs n m None there back none = λ k some below. none k some (back k some below)
least_at xs n m (Some c) there back least = (
  (least.0.0, least.0.1, there least.0.0 least.0.1 least.0.2, least.0.3, least.0.4),
  λ k d some below. least.1 k d some (back k some below),
)

-- of a list that holds the same outlets
pub first_of_permuted : (xs ys : List Outlet) (o : Option Cell) → IsPermutation xs ys → IsFirstSharing ys o → IsFirstSharing xs o
first_of_permuted xs ys None theirs none = both_permuted _ xs ys theirs none
first_of_permuted xs ys (Some c) theirs first = (pair_permuted SharesWithEarlier (λ y. y.cell ≡ c) xs ys theirs first.0, both_permuted _ xs ys theirs first.1)
