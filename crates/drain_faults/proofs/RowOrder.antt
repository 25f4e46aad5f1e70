-- The first of the cells of a grid's rows, one row after another, is the first in row order; and so the verdict.
use Rattle.drain_faults.proofs.Names.{◌≡◌, ℕ, zero, suc, ◌+◌, ◌<◌, ◌⊎◌, List, [], ◌∷◌, ◌++◌, Some, None, inl, inr, refl, sym, subst, arith, add-one, below_more, map-range_with_len_more, Cell, row_cells, Grid, Products, Rules, IsFirstFault, RulesHold, IsTried, tried, cells_above, place, IsFirstFault-row, cells_above-more, IsRowFault-cell, FaultyPatch, IsFirstFaulty, IsFirstWithout, AllHoldAt, IsLeastAt}

module _ (P : Cell → Type 0) where
  -- where none of two lists lacks the fact, none of either does
  none_of_both : (cs ds : List Cell) → IsFirstWithout P (cs ++ ds) None → IsFirstWithout P cs None × IsFirstWithout P ds None
  none_of_both [] ds none = (refl, none)
  none_of_both (c ∷ cs) ds (inl holds) = let both = none_of_both cs ds holds.1 in (inl (holds.0, both.0), both.1)
  none_of_both (c ∷ cs) ds (inr fails) = absurd (let e : None ≡ Some c = fails.1 in cc)

  -- the first of two lists is that of the one, or else of the other
  first_of_both : (cs ds : List Cell) (b : Cell) → IsFirstWithout P (cs ++ ds) (Some b) →
      IsFirstWithout P cs (Some b) ⊎ (IsFirstWithout P cs None × IsFirstWithout P ds (Some b))
  first_of_both [] ds b first = inr (refl, first)
  first_of_both (c ∷ cs) ds b (inl holds) = elim (first_of_both cs ds b holds.1) [
    | inl here ↦ inl (inl (holds.0, here))
    | inr behind ↦ inr (inl (holds.0, behind.0), behind.1)
  ]
  first_of_both (c ∷ cs) ds b (inr fails) = inl (inr fails)

  -- of a list of one cell
  none_of_one : (c : Cell) → IsFirstWithout P (c ∷ []) None → P c
  none_of_one c (inl holds) = holds.0
  none_of_one c (inr fails) = absurd (let e : None ≡ Some c = fails.1 in cc)

  first_of_one : (c b : Cell) → IsFirstWithout P (c ∷ []) (Some b) → b ≡ c
  first_of_one c b (inl holds) = absurd (let e : Some b ≡ None = holds.1 in cc)
  first_of_one c b (inr fails) = let e : Some b ≡ Some c = fails.1 in cc

  -- the fact holds at each of a row's cells where none lacks it
  holds_along : (row cols : ℕ) → IsFirstWithout P (row_cells cols row) None → (col : ℕ) → col < cols → P (place row col)
  holds_along row zero none col less = absurd (omega (arith, less))
  holds_along row (suc n) none col less =
      let more : row_cells (n + 1) row ≡ row_cells n row ++ place row n ∷ [] = map-range_with_len_more (λ k. place row k) 0 n n (omega arith) in
      let all : IsFirstWithout P (row_cells (n + 1) row) None = subst (λ m. IsFirstWithout P (row_cells m row) None) (sym (add-one n)) none in
      let both = none_of_both (row_cells n row) (place row n ∷ []) (subst (λ cs. IsFirstWithout P cs None) more all) in
      below_more (λ k. P (place row k)) n (holds_along row n both.0) (none_of_one (place row n) both.1) col (omega (arith, less))

  -- a cell of a row that lacks the fact, where each before it has it
  pub record IsFirstAlong (row cols : ℕ) (b : Cell) : Type 0 where
    pub col : ℕ
    pub inside : col < cols
    pub is : b ≡ place row col
    pub before : (k : ℕ) → k < col → P (place row k)

  first_along : (row cols : ℕ) (b : Cell) → IsFirstWithout P (row_cells cols row) (Some b) → IsFirstAlong row cols b
  first_along row zero b first = absurd (let e : Some b ≡ None = first in cc)
  first_along row (suc n) b first =
      let more : row_cells (n + 1) row ≡ row_cells n row ++ place row n ∷ [] = map-range_with_len_more (λ k. place row k) 0 n n (omega arith) in
      let all : IsFirstWithout P (row_cells (n + 1) row) (Some b) = subst (λ m. IsFirstWithout P (row_cells m row) (Some b)) (sym (add-one n)) first in
      elim (first_of_both (row_cells n row) (place row n ∷ []) b (subst (λ cs. IsFirstWithout P cs (Some b)) more all)) [
        | inl here ↦ (let at = first_along row n b here in record { col = at.col; inside = omega (arith, at.inside); is = at.is; before = at.before })
        | inr last ↦ record { col = n; inside = omega arith; is = first_of_one (place row n) b last.1; before = holds_along row n last.0 }
      ]

  -- the same of the rows of a grid
  pub holds_above : (g : Grid) (rows : ℕ) → IsFirstWithout P (cells_above g rows) None → (row : ℕ) → row < rows → (col : ℕ) → col < g.extent.cols → P (place row col)
  holds_above g zero none row less = absurd (omega (arith, less))
  holds_above g (suc n) none row less =
      let all : IsFirstWithout P (cells_above g (n + 1)) None = subst (λ m. IsFirstWithout P (cells_above g m) None) (sym (add-one n)) none in
      let both = none_of_both (cells_above g n) (row_cells g.extent.cols n) (subst (λ cs. IsFirstWithout P cs None) (cells_above-more g n) all) in
      below_more (λ r. (col : ℕ) → col < g.extent.cols → P (place r col)) n (holds_above g n both.0) (holds_along n g.extent.cols both.1) row (omega (arith, less))

  pub record IsFirstAbove (g : Grid) (rows : ℕ) (b : Cell) : Type 0 where
    pub row : ℕ
    pub inside : row < rows
    pub above : (r : ℕ) → r < row → (col : ℕ) → col < g.extent.cols → P (place r col)
    pub along : IsFirstAlong row g.extent.cols b

  pub first_above : (g : Grid) (rows : ℕ) (b : Cell) → IsFirstWithout P (cells_above g rows) (Some b) → IsFirstAbove g rows b
  first_above g zero b first = absurd (let e : Some b ≡ None = first in cc)
  first_above g (suc n) b first =
      let all : IsFirstWithout P (cells_above g (n + 1)) (Some b) = subst (λ m. IsFirstWithout P (cells_above g m) (Some b)) (sym (add-one n)) first in
      elim (first_of_both (cells_above g n) (row_cells g.extent.cols n) b (subst (λ cs. IsFirstWithout P cs (Some b)) (cells_above-more g n) all)) [
        | inl here ↦ (let at = first_above g n b here in record { row = at.row; inside = omega (arith, at.inside); above = at.above; along = at.along })
        | inr last ↦ record { row = n; inside = omega arith; above = holds_above g n last.0; along = first_along n g.extent.cols b last.1 }
      ]

-- so the first cell of all rows at which a rule that is tried fails, with the least that fails there, is the first fault of the grid
pub first_fault : (rules : Rules) (g : Grid) (ps : Products) (found : FaultyPatch) → IsFirstFaulty rules g ps (cells_above g g.extent.rows) found →
    IsFirstFault (tried rules) (IsTried rules.judged) g ps found.cell found.rule
first_fault rules g ps found first =
    let at = first_above (AllHoldAt rules g ps) g g.extent.rows found.cell first.first_is in
    let along = at.along in
    let least : IsLeastAt rules g ps (place at.row along.col) (Some found.rule) =
    subst (λ c. IsLeastAt rules g ps c (Some found.rule)) along.is first.least in
    subst (λ c. IsFirstFault (tried rules) (IsTried rules.judged) g ps c found.rule) (sym along.is)
    (IsFirstFault-row (tried rules) (IsTried rules.judged) g ps at.row along.col found.rule at.inside (λ r less col rule inside own. at.above r less col inside rule own)
    (IsRowFault-cell (tried rules) (IsTried rules.judged) g ps at.row along.col found.rule along.inside (λ col rule less own. along.before col less rule own) least))

-- and where there is none each of them holds
pub all_hold : (rules : Rules) (g : Grid) (ps : Products) → IsFirstWithout (AllHoldAt rules g ps) (cells_above g g.extent.rows) None →
    RulesHold (tried rules) (IsTried rules.judged) g ps
all_hold rules g ps none = λ c r inside own. holds_above (AllHoldAt rules g ps) g g.extent.rows none c.row inside.row c.col inside.col r own
