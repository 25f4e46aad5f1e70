-- One row more of the lists of a grid's marks and conditioned elevations; one place more of a comparison.
use Rattle.drain_filled.proofs.Names.{◌≡◌, ◌≢◌, ℕ, ◌+◌, ◌<◌, ◌∙◌, inl, inr, ℤ, pos, List, Option, None, get_or, ◌*◌, ◌++◌, length, map, length-append, set, below_more, ap, sym, subst, arith, cases_order, get_or_append_left, get_or-append-add, get_or-map, length-map, Cell, IsCellOf, index_of, Grid, Products, IsInside, same_index, before_row, UNREACHED, listed_at, AreOneBefore, HasMark, AreFirstCon, ConLists, mark_of, with_row, DataCells, data_mark}
use Rattle.std.proofs.Common.{get_or-set_other, get_or-set_same}

-- What a comparison place by place says of cells.

-- one place more, where the lists have one number or no cell has data
pub one_more_place : (w : DataCells) (con least : List ℤ) (place : ℕ) →
    ((c : Cell) → HasMark w c → index_of w.extent c ≡ place → listed_at w.extent con c ≡ listed_at w.extent least c) →
    AreOneBefore w con least place → AreOneBefore w con least (place + 1)
one_more_place w con least place here before c has below =
    elim (cases_order (index_of w.extent c) place) [
      | inl at ↦ here c has at
      | inr (inl earlier) ↦ before c has earlier
      | inr (inr after) ↦ absurd (omega (arith, below, after))
    ]

-- a cell at the place has data exactly where the cell found there has
pub no_data_at : (w : DataCells) (con least : List ℤ) (place : ℕ) (found : Cell) → IsCellOf w.extent found → index_of w.extent found ≡ place →
    (data_mark w found ≡ UNREACHED → ⊥) →
    (c : Cell) → HasMark w c → index_of w.extent c ≡ place → listed_at w.extent con c ≡ listed_at w.extent least c
no_data_at w con least place found inside there void c has at =
    let one = same_index w.extent c found has.inside inside (at ∙ sym there) in
    absurd (void (subst (λ (x : Cell). data_mark w x ≡ UNREACHED) one has.is_data))

-- a number at a place is that of the cell there
pub same_at : (w : DataCells) (con least : List ℤ) (place : ℕ) → get_or con place (pos 0) ≡ get_or least place (pos 0) →
    (c : Cell) → HasMark w c → index_of w.extent c ≡ place → listed_at w.extent con c ≡ listed_at w.extent least c
same_at w con least place same c has at = subst (λ k. get_or con k (pos 0) ≡ get_or least k (pos 0)) (sym at) same

-- Numbers put place by place.

-- one place more
pub one_more : {X : Type 0} (d : X) (numbers : ℕ → X) (out : List X) (k : ℕ) (n : X) → k < length out → n ≡ numbers k →
    ((i : ℕ) → i < k → get_or out i d ≡ numbers i) → (i : ℕ) → i < k + 1 → get_or (set out k n) i d ≡ numbers i
one_more {X} d numbers out k n inside here so_far =
    below_more (λ i. get_or (set out k n) i d ≡ numbers i) k
    (λ i h. let ne : i ≢ k = omega arith in get_or-set_other out k i n d ne ∙ so_far i h)
    (get_or-set_same out k n d inside ∙ here)

-- Rows of lists.

-- numbers of a row of the grid
pub record AreRowOf (g : Grid) (ps : Products) (row : ℕ) (z : List (Option ℤ)) (con : List ℤ) : Type 0 where
  pub z_long : length z ≡ g.extent.cols
  pub con_long : length con ≡ g.extent.cols
  pub marks : (col : ℕ) → col < g.extent.cols → get_or (map mark_of z) col 0 ≡ mark_of (g.elevation (record { row = row; col = col }))
  pub con_is : (col : ℕ) → col < g.extent.cols → get_or con col (pos 0) ≡ ps.con (record { row = row; col = col })

module _ {X : Type 0} (g : Grid) (row : ℕ) (before added : List X) (counted : length before ≡ row * g.extent.cols) (long : length added ≡ g.extent.cols) (d : X) where
  all_counted : length (before ++ added) ≡ (row + 1) * g.extent.cols
  all_counted = length-append before added ∙ omega (arith, counted, long)

  -- an earlier row keeps its numbers
  in_earlier : (c : Cell) → IsInside g c → c.row < row → get_or (before ++ added) (index_of g.extent c) d ≡ get_or before (index_of g.extent c) d
  in_earlier c inside above =
      let earlier = before_row c.row c.col row g.extent.cols above inside.col in
      get_or_append_left before added d (index_of g.extent c) (omega (arith, earlier, counted))

  -- the row has its own
  in_row : (c : Cell) → IsInside g c → c.row ≡ row → get_or (before ++ added) (index_of g.extent c) d ≡ get_or added c.col d
  in_row c inside here =
      let start : c.row * g.extent.cols ≡ row * g.extent.cols = ap (λ r. r * g.extent.cols) here in
      let at : index_of g.extent c ≡ length before + c.col = omega (arith, start, counted) in
      ap (λ k. get_or (before ++ added) k d) at ∙ get_or-append-add before added c.col d

  -- what holds of earlier rows and of the row holds of all so far
  each_cell : (what : Cell → X) → ((c : Cell) → IsInside g c → c.row < row → get_or before (index_of g.extent c) d ≡ what c) →
      ((col : ℕ) → col < g.extent.cols → get_or added col d ≡ what (record { row = row; col = col })) →
      (c : Cell) → IsInside g c → c.row < row + 1 → get_or (before ++ added) (index_of g.extent c) d ≡ what c
  each_cell what first own c inside less =
      elim (cases_order c.row row) [
        | inl here ↦ in_row c inside here ∙ own c.col inside.col ∙ ap what (ap (λ (r : ℕ). record { row = r; col = c.col }) (sym here))
        | inr (inl above) ↦ in_earlier c inside above ∙ first c inside above
        | inr (inr below) ↦ absurd (omega (arith, less, below))
      ]

pub AreFirstCon-row : (g : Grid) (ps : Products) (row : ℕ) (lists : ConLists) (z : List (Option ℤ)) (con : List ℤ) → AreFirstCon g ps row lists →
    AreRowOf g ps row z con → AreFirstCon g ps (row + 1) (with_row lists z con)
AreFirstCon-row g ps row lists z con first are =
    let long : length (map mark_of z) ≡ g.extent.cols = length-map z mark_of ∙ are.z_long in
    record {
      marks_are = all_counted g row lists.marks (map mark_of z) first.marks_are long 0;
      con_are = all_counted g row lists.con con first.con_are are.con_long (pos 0);
      has_data = each_cell g row lists.marks (map mark_of z) first.marks_are long 0 (λ c. mark_of (g.elevation c)) first.has_data are.marks;
      con = each_cell g row lists.con con first.con_are are.con_long (pos 0) ps.con first.con are.con_is;
    }

-- the marks of a row's elevations
pub row_marks : (g : Grid) (row : ℕ) (z : List (Option ℤ)) → length z ≡ g.extent.cols →
    ((col : ℕ) → col < g.extent.cols → get_or z col None ≡ g.elevation (record { row = row; col = col })) →
    (col : ℕ) → col < g.extent.cols → get_or (map mark_of z) col 0 ≡ mark_of (g.elevation (record { row = row; col = col }))
row_marks g row z long elevation col less =
    let within : col < length z = omega (arith, less, long) in
    get_or-map mark_of z col None 0 within ∙ ap mark_of (elevation col less)
