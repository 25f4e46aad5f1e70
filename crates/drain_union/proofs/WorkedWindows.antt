-- For a reviewer: a union of four cells in a column that two windows of three judge, so the premises on places can be
-- met; and that windows which overlap by one row leave that row unjudged.
use Rattle.drain_union.proofs.Names.{◌≡◌, ℕ, zero, suc, slice_index_or, ◌+◌, ◌-◌, ◌<◌, inl, inr, Bool, true, false, [], ◌∷◌, refl, sym, ap, subst, arith, false≢true, Cell, Extent, IsCellOf, cases, less_number, place, Place, in_union, IsPlaceIn, IsJudgedIn, IsJudgedAtSome, OverlapInSeams}

abbrev column : ℕ → Extent
column rows = record { rows = rows; cols = 1 }

-- from a row on, so many rows, with the north or the south an inner side
abbrev at : ℕ → ℕ → Bool → Bool → Place
at top rows north south = record { top = top; left = 0; extent = column rows; inner = record { north = north; south = south; west = false; east = false } }

abbrev upper : Place
upper = at 0 3 false true

abbrev lower : Place
lower = at 1 3 true false

upper_lies : IsPlaceIn (column 4) upper
upper_lies = record { rows = omega arith; cols = omega arith; north = inr refl; south = inl refl; west = inr refl; east = inr refl }

lower_lies : IsPlaceIn (column 4) lower
lower_lies = record { rows = omega arith; cols = omega arith; north = inl refl; south = inr refl; west = inr refl; east = inr refl }

-- each cell is judged at one of them
whole : (c : Cell) → IsCellOf (column 4) c → IsJudgedAtSome (upper ∷ lower ∷ []) c
whole c inside =
    let in_rows : c.row < 4 = inside.row in
    let in_cols : c.col < 1 = inside.col in
    let rows : 0 + c.row ≡ c.row = omega arith in
    let cols : 0 + c.col ≡ c.col = omega arith in
    elim (cases (less_number c.row 2)) [
      | inl high ↦ (
        upper,
        (0, omega arith, refl),
        (
          c,
          record {
            inside = record { row = omega arith; col = omega arith };
            north = λ no. absurd (false≢true no);
            south = λ _. omega arith;
            west = λ no. absurd (false≢true no);
            east = λ no. absurd (false≢true no);
          },
          λ i. place (rows i) (cols i),
        ),
      )
      | inr low ↦
          (let down : 1 + (c.row - 1) ≡ c.row = omega arith in (
            lower,
            (1, omega arith, refl),
            (
              place (c.row - 1) c.col,
              record {
                inside = record { row = omega arith; col = omega arith };
                north = λ _. omega arith;
                south = λ no. absurd (false≢true no);
                west = λ no. absurd (false≢true no);
                east = λ no. absurd (false≢true no);
              },
              λ i. place (down i) (cols i),
            ),
          ))
    ]

-- they overlap in their seams, which are two rows deep
overlap : OverlapInSeams 2 upper lower
overlap a b in_a in_b same =
    let row : 0 + a.row ≡ 1 + b.row = ap (λ (c : Cell). c.row) same in
    let a_rows : a.row < 3 = in_a.row in (
      record { inside = in_a; beside = inl (inr (refl, omega (arith, row))) },
      record { inside = in_b; beside = inl (inl (refl, omega (arith, row))) },
    )

-- two windows that share one row, the one north of it and the other south
abbrev north_of_row : Place
north_of_row = at 0 3 false true

abbrev south_of_row : Place
south_of_row = at 2 3 true false

-- neither judges it
abbrev JudgedAt : Place → Cell → Type 0
JudgedAt p c = (x : Cell) × IsJudgedIn p x × (in_union p x ≡ c)

not_north : (c : Cell) → c.row ≡ 2 → ¬ JudgedAt north_of_row c
not_north c row at =
    let x = at.0 in
    let lies : 0 + x.row ≡ c.row = ap (λ (k : Cell). k.row) at.2 in
    let before : x.row + 1 < 3 = at.1.south refl in
    absurd (omega (arith, lies, before, row))

not_south : (c : Cell) → c.row ≡ 2 → ¬ JudgedAt south_of_row c
not_south c row at =
    let x = at.0 in
    let lies : 2 + x.row ≡ c.row = ap (λ (k : Cell). k.row) at.2 in
    let after : 0 < x.row = at.1.north refl in
    absurd (omega (arith, lies, after, row))

row_between : (c : Cell) → c.row ≡ 2 → ¬ IsJudgedAtSome (north_of_row ∷ south_of_row ∷ []) c
row_between c row judged = by_place judged.1.0 judged.0 judged.1.1 judged.1.2 judged.2
  where
    by_place : (k : ℕ) (p : Place) → k < 2 → slice_index_or (north_of_row ∷ south_of_row ∷ []) k p ≡ p → ¬ JudgedAt p c
    by_place zero p below is at = not_north c row (subst (λ (q : Place). JudgedAt q c) (sym is) at)
    by_place (suc zero) p below is at = not_south c row (subst (λ (q : Place). JudgedAt q c) (sym is) at)
    by_place (suc (suc k)) p below is at = absurd (omega arith)
