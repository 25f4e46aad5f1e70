-- Numbers of a row of cells and of the rows above and below it, each with one number more at both ends, and what they
-- say of a cell's neighbours. Rows and columns are counted from 1, so those outside the grid have numbers too.
use Rattle.drain_grid.proofs.Names.{◌≡◌, ℕ, ◌+◌, ◌-◌, ◌*◌, ◌<◌, ◌≤◌, inl, inr, List, slice_index, refl, sym, ap, subst, arith, cases_eq, Cell, Direction, East, SouthEast, South, SouthWest, West, NorthWest, North, NorthEast, cols_right, rows_down, IsCellOf, Extent}
use Rattle.drain_grid.proofs.Neighbors.{place, reach}

-- the row in which the neighbour in a direction lies
abbrev pub row_beside : List ℕ → List ℕ → List ℕ → Direction → List ℕ
row_beside a h b East = h
row_beside a h b SouthEast = b
row_beside a h b South = b
row_beside a h b SouthWest = b
row_beside a h b West = h
row_beside a h b NorthWest = a
row_beside a h b North = a
row_beside a h b NorthEast = a

-- and its number
abbrev pub number_beside : List ℕ → List ℕ → List ℕ → ℕ → Direction → ℕ
number_beside a h b col East = slice_index h (col + 2)
number_beside a h b col SouthEast = slice_index b (col + 2)
number_beside a h b col South = slice_index b (col + 1)
number_beside a h b col SouthWest = slice_index b col
number_beside a h b col West = slice_index h col
number_beside a h b col NorthWest = slice_index a col
number_beside a h b col North = slice_index a (col + 1)
number_beside a h b col NorthEast = slice_index a (col + 2)

same_col : (col : ℕ) → col ≡ col + 0
same_col col = omega arith

pub number_in_row : (a h b : List ℕ) (col : ℕ) (d : Direction) → number_beside a h b col d ≡ slice_index (row_beside a h b d) (col + cols_right d)
number_in_row a h b col East = refl
number_in_row a h b col SouthEast = refl
number_in_row a h b col South = refl
number_in_row a h b col SouthWest = ap (slice_index b) (same_col col)
number_in_row a h b col West = ap (slice_index h) (same_col col)
number_in_row a h b col NorthWest = ap (slice_index a) (same_col col)
number_in_row a h b col North = refl
number_in_row a h b col NorthEast = refl

-- what holds of each of the rows holds of the one in a direction
pub three_rows : (P : ℕ → List ℕ → Type 0) (row own : ℕ) (a h b : List ℕ) → own ≡ row → P row a → P (row + 1) h → P (row + 2) b →
    (d : Direction) → P (own + rows_down d) (row_beside a h b d)
three_rows P row own a h b same in_a in_h in_b East = subst (λ k. P (k + 1) h) (sym same) in_h
three_rows P row own a h b same in_a in_h in_b SouthEast = subst (λ k. P (k + 2) b) (sym same) in_b
three_rows P row own a h b same in_a in_h in_b South = subst (λ k. P (k + 2) b) (sym same) in_b
three_rows P row own a h b same in_a in_h in_b SouthWest = subst (λ k. P (k + 2) b) (sym same) in_b
three_rows P row own a h b same in_a in_h in_b West = subst (λ k. P (k + 1) h) (sym same) in_h
three_rows P row own a h b same in_a in_h in_b NorthWest = subst (λ k. P k a) (omega (arith, same)) in_a
three_rows P row own a h b same in_a in_h in_b North = subst (λ k. P k a) (omega (arith, same)) in_a
three_rows P row own a h b same in_a in_h in_b NorthEast = subst (λ k. P k a) (omega (arith, same)) in_a

-- a neighbour's column is one of theirs
pub col_beside : (col cols : ℕ) (d : Direction) → col < cols → col + cols_right d < cols + 2
col_beside col cols d less = let most = (reach d).1 in omega (arith, less, most)

-- only the first and the last number of a row of the grid are no cell's
pub at_ends : (e : Extent) (down len outside right : ℕ) (numbers : List ℕ) → 0 < down → down ≤ e.rows → len ≡ e.cols + 2 → slice_index numbers 0 ≡ outside →
    ((k : ℕ) → k + 1 ≡ len → slice_index numbers k ≡ outside) → right < e.cols + 2 →
    ((n : Cell) → IsCellOf e n → n.row + 1 ≡ down → n.col + 1 ≡ right → ⊥) → slice_index numbers right ≡ outside
at_ends e down len outside right numbers some most long first last less none =
    elim (cases_eq right 0) [
      | inl zero ↦ subst (λ k. slice_index numbers k ≡ outside) (sym zero) first
      | inr more ↦
          elim (cases_eq (right + 1) len) [
            | inl end ↦ last right end
            | inr before ↦
                absurd (none (place (down - 1) (right - 1)) (record { row = omega (arith, some, most); col = omega (arith, more, before, less, long) })
                (omega (arith, some)) (omega (arith, more)))
          ]
    ]

-- the place of a cell from that of its row's first, by the number of its row counted from 1 and from 0
pub place_in_row : (row col down start cols : ℕ) → row + 1 ≡ down → start ≡ (down - 1) * cols → start + col ≡ row * cols + col
place_in_row row col down start cols next start_is =
    let above : down - 1 ≡ row = omega (arith, next) in
    let begins : (down - 1) * cols ≡ row * cols = ap (λ r. r * cols) above in
    omega (arith, begins, start_is)

pub place_in_own_row : (own col row start cols : ℕ) → own ≡ row → start ≡ row * cols → start + col ≡ own * cols + col
place_in_own_row own col row start cols at start_is =
    let begins : own * cols ≡ row * cols = ap (λ r. r * cols) at in
    omega (arith, begins, start_is)
