-- The cells before a place, as the place goes on in row order.
use Rattle.drain_faults.proofs.Names.{◌≡◌, ℕ, zero, suc, ◌+◌, ◌*◌, ◌<◌, ◌≤◌, ◌^◌, [], ◌∷◌, ◌++◌, length, sym, ◌∙◌, ap, subst, arith, add-one, append_assoc, length-append, append-nil, length-map-range_with_len, map-range_with_len_more, row_cells, Grid, cells_above, place, cells_above-more, cells_before}
use Rattle.std.proofs.Math.Nat.{mul-le-mul_right}

-- one cell more
pub cells_before-more : (g : Grid) (row col : ℕ) → cells_before g row (col + 1) ≡ cells_before g row col ++ place row col ∷ []
cells_before-more g row col =
    let one_more : row_cells (col + 1) row ≡ row_cells col row ++ place row col ∷ [] = map-range_with_len_more (λ k. place row k) 0 col col (omega arith) in
    ap (λ cs. cells_above g row ++ cs) one_more ∙ sym (append_assoc (cells_above g row) (row_cells col row) (place row col ∷ []))

-- before the first place of a row are the rows above it
pub cells_before-none : (g : Grid) (row : ℕ) → cells_before g row 0 ≡ cells_above g row
cells_before-none g row = append-nil (cells_above g row)

-- before its end are those above the next row
pub cells_before-all : (g : Grid) (row : ℕ) → cells_before g row g.extent.cols ≡ cells_above g (row + 1)
cells_before-all g row = sym (cells_above-more g row)

-- how many they are
row_cells-length : (cols row : ℕ) → length (row_cells cols row) ≡ cols
row_cells-length cols row = length-map-range_with_len (λ k. place row k) 0 cols

cells_above-length : (g : Grid) (row : ℕ) → length (cells_above g row) ≡ row * g.extent.cols
cells_above-length g zero = omega arith
cells_above-length g (suc row) =
    let split : length (cells_above g (row + 1)) ≡ length (cells_above g row) + length (row_cells g.extent.cols row) =
    ap length (cells_above-more g row) ∙ length-append (cells_above g row) (row_cells g.extent.cols row) in
    let sum : (row + 1) * g.extent.cols ≡ row * g.extent.cols + g.extent.cols = omega arith in
    let more : length (cells_above g (row + 1)) ≡ (row + 1) * g.extent.cols =
    omega (arith, split, sum, cells_above-length g row, row_cells-length g.extent.cols row) in
    subst (λ n. length (cells_above g n) ≡ n * g.extent.cols) (add-one row) more

few_enough : (row cols col : ℕ) → row < 28801 → cols ≤ 28801 → col < cols → row * cols + col + 1 < 2 ^ 32
few_enough row cols col few narrow inside =
    let above : row * cols ≤ 28801 * cols = mul-le-mul_right cols (omega arith) in
    omega arith

-- with one more, few enough that 32 bits count them
pub cells_before-few : (g : Grid) (row col : ℕ) → row < 28801 → g.extent.cols ≤ 28801 → col < g.extent.cols → length (cells_before g row col) + 1 < 2 ^ 32
cells_before-few g row col few narrow inside =
    let sum : length (cells_before g row col) ≡ length (cells_above g row) + length (row_cells col row) = length-append (cells_above g row) (row_cells col row) in
    omega (arith, sum, cells_above-length g row, row_cells-length col row, few_enough row g.extent.cols col few narrow inside)
