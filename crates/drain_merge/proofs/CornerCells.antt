-- The first crossing of corner rows and corner columns that isn't judged is the first cell of the box that isn't.
use Rattle.drain_merge.proofs.Names.{◌≡◌, ℕ, ◌<◌, ◌≤◌, arith, suc, ◌⊎◌, inl, inr, Option, Some, None, List, [], ◌∷◌, ◌++◌, length, slice_index, map, sym, subst, place, Place, IsJudgedAt, IsJudgedAtSome, judged_bottom, judged_left, judged_right, judged_top, edges_within, within_edges, Contains, IsPermutation, IsNonDecreasing, Contains-append_left, Contains-push, Contains-permutation, Cell, IsEarlier, to_map, IsCornerRow, IsCornerCol, IsJudgedCrossing, IsNewBetween, IsFirstInRow, IsFirstCrossing, IsFirstUnjudged}
use Rattle.drain_merge.proofs.BoxCorners.{judged_if_corners_are, corners_tell_box}
use Rattle.drain_merge.proofs.NewNumbers.{Passed, all_passed, passed_before, held_at}

-- at these columns, from one up to another, the row is judged at some place
abbrev pub IsJudgedAcross : List Place → List ℕ → ℕ → ℕ → ℕ → Type 0
IsJudgedAcross places cols from end row = (col : ℕ) → Contains cols col → from ≤ col → col < end → IsJudgedCrossing places row col

-- the first number, and the end of each place, are in the list
corner_in : (f : Place → ℕ) (places : List Place) (first : ℕ) (xs : List ℕ) → IsPermutation (map f places ++ first ∷ []) xs → (n : ℕ) →
    (n ≡ first) ⊎ ((p : Place) × Contains places p × (n ≡ f p)) → Contains xs n
corner_in f places first xs theirs n (inl is) =
    subst (Contains xs) (sym is) (Contains-permutation _ xs first theirs (Contains-push (map f places) first))
corner_in f places first xs theirs n (inr end) =
    subst (Contains xs) (sym end.2) (Contains-permutation _ xs (f end.0) theirs (Contains-append_left (map f places) (first ∷ []) (f end.0) (to_map f places end.0 end.1)))

module _ (box : Place) (places : List Place) (rows cols : List ℕ)
    (rows_are : IsPermutation (map judged_bottom places ++ judged_top box ∷ []) rows)
    (cols_are : IsPermutation (map judged_right places ++ judged_left box ∷ []) cols) where
  in_rows : (c : Cell) → IsCornerRow box places c.row → Contains rows c.row
  in_rows c = corner_in judged_bottom places (judged_top box) rows rows_are c.row

  in_cols : (c : Cell) → IsCornerCol box places c.col → Contains cols c.col
  in_cols c = corner_in judged_right places (judged_left box) cols cols_are c.col

  pub first_of_corners : (o : Option Cell) → IsFirstCrossing box rows cols places o → IsFirstUnjudged box places o
  first_of_corners None all = corners_tell_box box places (λ c inside row col. all c (in_rows c row) (in_cols c col) inside)
  first_of_corners (Some c) first = (
    first.2,
    first.3,
    λ b inside before.
        (let at = within_edges box b inside in
        judged_if_corners_are box places (λ x. IsEarlier x c) west_of north_of
        (λ x inside before row col. first.4 x (in_rows x row) (in_cols x col) (edges_within box x inside) before) b.row at.top at.bottom b.col at.left at.right before),
  )
    where
      west_of : (row col : ℕ) → IsEarlier (place row (suc col)) c → IsEarlier (place row col) c
      west_of row col (inl above) = inl above
      west_of row col (inr beside) = inr (beside.0, omega (arith, beside.1))

      north_of : (row col : ℕ) → IsEarlier (place (suc row) col) c → IsEarlier (place row col) c
      north_of row col (inl above) = inl (omega (arith, above))
      north_of row col (inr beside) = inl (omega (arith, beside.0))

-- of crossings in turn
module _ (box : Place) (places : List Place) (rows cols : List ℕ) where
  -- the box's columns, where it judges this row
  abbrev pub Across : ℕ → Type 0
  Across = IsJudgedAcross places cols (judged_left box) (judged_right box)

  abbrev pub PassedRows : ℕ → Type 0
  PassedRows = Passed Across rows (judged_top box) (judged_bottom box)

  -- the first column that isn't judged, in the first row that has one
  pub crossing_found : IsNonDecreasing rows → (i : ℕ) → i < length rows → IsNewBetween rows i (judged_top box) (judged_bottom box) → PassedRows i →
      (col : ℕ) → IsFirstInRow (judged_left box) (judged_right box) (slice_index rows i) cols places (Some col) →
      IsFirstCrossing box rows cols places (Some (place (slice_index rows i) col))
  crossing_found rising i inside new passed col first =
      (held_at rows i inside, first.0, edges_within box at (record { top = new.0; bottom = new.1; left = first.1; right = first.2 }), first.3, earlier)
    where
      at : Cell
      at = place (slice_index rows i) col

      earlier : (b : Cell) → Contains rows b.row → Contains cols b.col → IsJudgedAt box b → IsEarlier b (place (slice_index rows i) col) → IsJudgedAtSome places b
      earlier b in_rows in_cols judged (inl above) =
          let edges = within_edges box b judged in
          passed_before Across rows (judged_top box) (judged_bottom box) rising i inside new.1 passed b.row in_rows edges.top above b.col in_cols edges.left edges.right
      earlier b in_rows in_cols judged (inr beside) =
          let edges = within_edges box b judged in
          subst (λ row. IsJudgedCrossing places row b.col) (sym beside.0) (first.4 b.col in_cols edges.left beside.1)

  pub none_found : PassedRows (length rows) → IsFirstCrossing box rows cols places None
  none_found passed c in_rows in_cols judged =
      let edges = within_edges box c judged in
      all_passed Across rows (judged_top box) (judged_bottom box) passed c.row in_rows edges.top edges.bottom c.col in_cols edges.left edges.right
