-- Lists of cells, one cell or one row longer.
use Rattle.drain_raster.proofs.Names.{◌≡◌, ℕ, zero, suc, ◌+◌, List, [], ◌∷◌, ◌++◌, length, map, refl, arith, ap, ◌∙◌, append-nil, ◌-◌, ◌*◌, ◌<◌, pos, get_or, range_with_len, flat_map, map-append, length-map, get_or-map, get_or_append_left, get_or-append_right, flat_map-append, map-range_with_len_more, length-map-range_with_len, get_or-map-range_with_len, Cell, row_cells, Extent, IsCellOf, index_of, cells, header_extent, pixel_at, NumbersArePixels}
use Rattle.std.proofs.lemmas.List.{length-append}
use Rattle.std.proofs.lemmas.Nat.{mul-add-lt}

-- the cell of a row and a column
abbrev pub cell_of : ℕ → ℕ → Cell
cell_of r k = record { row = r; col = k }

-- the numbers below n + 1 are those below n, and n
pub range-more : (a n j : ℕ) → a + n ≡ j → range_with_len a (n + 1) ≡ range_with_len a n ++ j ∷ []
range-more a zero j is = let same : a ≡ j = omega arith in rw same refl
range-more a (suc n) j is =
    let longer : suc n + 1 ≡ suc (n + 1) = omega arith in
    rw longer (ap (λ (xs : List ℕ). a ∷ xs) (range-more (a + 1) n j (omega arith)))

-- a row that is one cell longer
pub map-row_cells_more : {X : Type 0} (f : Cell → X) (cols r : ℕ) → map f (row_cells (cols + 1) r) ≡ map f (row_cells cols r) ++ f (cell_of r cols) ∷ []
map-row_cells_more f cols r =
    ap (map f) (map-range_with_len_more (cell_of r) 0 cols cols (omega arith)) ∙ map-append f (row_cells cols r) (cell_of r cols ∷ [])

-- as many cells as columns
pub length-map-row_cells : {X : Type 0} (f : Cell → X) (cols r : ℕ) → length (map f (row_cells cols r)) ≡ cols
length-map-row_cells f cols r = length-map (row_cells cols r) f ∙ length-map-range_with_len (cell_of r) 0 cols

-- a list of rows that is one row longer
pub flat_map-rows_more : {X : Type 0} (f : ℕ → List X) (rows : ℕ) →
    flat_map f (range_with_len 0 (rows + 1)) ≡ flat_map f (range_with_len 0 rows) ++ f rows
flat_map-rows_more f rows =
    ap (flat_map f) (range-more 0 rows rows (omega arith)) ∙ flat_map-append f (range_with_len 0 rows) (rows ∷ [])
    ∙ ap (λ xs. flat_map f (range_with_len 0 rows) ++ xs) (append-nil (f rows))

-- what f makes of the cells of one row more
pub map-rows_more : {X : Type 0} (f : Cell → X) (cols rows : ℕ) →
    map f (flat_map (row_cells cols) (range_with_len 0 (rows + 1))) ≡ map f (flat_map (row_cells cols) (range_with_len 0 rows)) ++ map f (row_cells cols rows)
map-rows_more f cols rows =
    ap (map f) (flat_map-rows_more (row_cells cols) rows) ∙ map-append f (flat_map (row_cells cols) (range_with_len 0 rows)) (row_cells cols rows)

-- Each cell of a grid is in the list of cells at its place in row order, so its value is found at its place.

-- as many cells as rows times columns
length-rows : (cols a n : ℕ) → length (flat_map (row_cells cols) (range_with_len a n)) ≡ n * cols
length-rows cols a zero = omega arith
length-rows cols a (suc n) =
    let row : length (row_cells cols a) ≡ cols = length-map-range_with_len _ 0 cols in
    let rest = length-rows cols (a + 1) n in
    omega (arith, length-append (row_cells cols a) (flat_map (row_cells cols) (range_with_len (a + 1) n)), row, rest)

-- the cell of a row and a column is in its place in row order
cell_in_rows : (cols a n i k : ℕ) (d : Cell) → i < n → k < cols →
    get_or (flat_map (row_cells cols) (range_with_len a n)) (i * cols + k) d ≡ record { row = a + i; col = k }
cell_in_rows cols a zero i k d low wide = absurd (omega arith)
cell_in_rows cols a (suc n) zero k d low wide =
    let row : length (row_cells cols a) ≡ cols = length-map-range_with_len _ 0 cols in
    let at : zero * cols + k ≡ k = omega arith in
    let here : a + zero ≡ a = omega arith in
    rw (at, here)
    (get_or_append_left (row_cells cols a) (flat_map (row_cells cols) (range_with_len (a + 1) n)) d k (omega arith)
    ∙ get_or-map-range_with_len (λ k. record { row = a; col = k }) 0 cols k k d wide (omega arith))
cell_in_rows cols a (suc n) (suc i) k d low wide =
    let row : length (row_cells cols a) ≡ cols = length-map-range_with_len _ 0 cols in
    let at : suc i * cols + k - cols ≡ i * cols + k = omega arith in
    let here : a + 1 + i ≡ a + suc i = omega arith in
    get_or-append_right (row_cells cols a) (flat_map (row_cells cols) (range_with_len (a + 1) n)) cols (suc i * cols + k) d row (omega arith)
    ∙ ap (λ m. get_or (flat_map (row_cells cols) (range_with_len (a + 1) n)) m d) at
    ∙ cell_in_rows cols (a + 1) n i k d (omega arith) wide
    ∙ ap (λ r. record { row = r; col = k }) here

-- what f makes of the cells, at a cell's place
made_at : {X : Type 0} (f : Cell → X) (e : Extent) (c : Cell) (x : X) → IsCellOf e c → get_or (map f (cells e)) (index_of e c) x ≡ f c
made_at f e c x inside =
    let few : c.row * e.cols + c.col < e.cols * e.rows = mul-add-lt c.row e.cols c.col e.rows inside.row inside.col in
    let within : index_of e c < length (cells e) = omega (arith, length-rows e.cols 0 e.rows, few) in
    let first : 0 + c.row ≡ c.row = omega arith in
    get_or-map f (cells e) (index_of e c) c x within
    ∙ ap f (cell_in_rows e.cols 0 e.rows c.row c.col c inside.row inside.col ∙ ap (λ r. record { row = r; col = c.col }) first)

pub numbers_are_pixels : NumbersArePixels
numbers_are_pixels h default body c inside = made_at (pixel_at h body) (header_extent h) c (pos 0) inside
