-- What is at the front of a buffer, pixel by pixel, and lists of zeros.
use Rattle.drain_raster.proofs.Names.{◌≡◌, ℕ, zero, suc, ◌+◌, ◌-◌, ◌*◌, ◌<◌, ◌≤◌, ℤ, List, [], ◌∷◌, ◌++◌, length, map, take, drop, replicate, set, refl, arith, sym, ap, subst, ◌∙◌, append_assoc, append-nil, flat_map, range_with_len, take_at, map-append, take_more_set, All-push, flat_map-append, map-range_with_len_more, put_mid, take-put_mid_part, Cell, Pixels, IsPixel, cells_bytes, cells_from}
use Rattle.std.proofs.Common.{All, length-append, length-drop}
use Rattle.drain_grid.specs.WholeGrid.{number_at}
use Rattle.drain_raster.proofs.CellPlaces.{cell_of, flat_map-rows_more}

-- zeros, and more of them
pub zeros-more : (m n : ℕ) → replicate {A = ℕ} (m + n) 0 ≡ replicate {A = ℕ} m 0 ++ replicate {A = ℕ} n 0
zeros-more zero n = let same : zero + n ≡ n = omega arith in rw same refl
zeros-more (suc m) n = let longer : suc m + n ≡ suc (m + n) = omega arith in rw longer (ap (λ (xs : List ℕ). 0 ∷ xs) (zeros-more m n))

-- zeros in three parts
pub zeros-parts : (count before next : ℕ) (part : List ℕ) → part ≡ replicate next 0 → before + next ≤ count →
    (replicate {A = ℕ} before 0 ++ part) ++ replicate {A = ℕ} (count - (before + next)) 0 ≡ replicate {A = ℕ} count 0
zeros-parts count before next part is within =
    let all : count ≡ before + next + (count - (before + next)) = omega arith in
    ap (λ xs. (replicate {A = ℕ} before 0 ++ xs) ++ replicate {A = ℕ} (count - (before + next)) 0) is
    ∙ ap (λ xs. xs ++ replicate {A = ℕ} (count - (before + next)) 0) (sym (zeros-more before next))
    ∙ sym (zeros-more (before + next) (count - (before + next))) ∙ ap (λ n. replicate {A = ℕ} n 0) (sym all)

-- the bytes of one cell more
pub cells_bytes-more : (bytes : ℤ → List ℕ) (p : Pixels) (r first n : ℕ) →
    cells_bytes bytes p (cells_from r first (n + 1)) ≡ cells_bytes bytes p (cells_from r first n) ++ bytes (number_at p (cell_of r (first + n)))
cells_bytes-more bytes p r first n =
    ap (cells_bytes bytes p) (map-range_with_len_more (cell_of r) first n (first + n) refl)
    ∙ flat_map-append (λ c. bytes (number_at p c)) (cells_from r first n) (cell_of r (first + n) ∷ [])
    ∙ ap (λ xs. cells_bytes bytes p (cells_from r first n) ++ xs) (append-nil (bytes (number_at p (cell_of r (first + n)))))

-- a number's bytes are as many as a pixel's, where they were put over those
pub length-put : (bytes put old : List ℕ) (len : ℕ) → put ≡ bytes ++ drop len old → length put ≡ length old → len ≤ length old → length bytes ≡ len
length-put bytes put old len is long room = omega (arith, ap length is, length-append bytes (drop len old), length-drop len old)

-- one pixel more at the front
pub put-more : (bytes : ℤ → List ℕ) (p : Pixels) (r first n len at : ℕ) (buffer old put : List ℕ) (number : ℤ) →
    take (n * len) buffer ≡ cells_bytes bytes p (cells_from r first n) → at ≡ n * len → at + len ≤ length buffer →
    put ≡ bytes number ++ drop len old → length put ≡ length old → length old ≡ length buffer - at → number ≡ number_at p (cell_of r (first + n)) →
    take ((n + 1) * len) (put_mid at (length buffer - at) buffer put) ≡ cells_bytes bytes p (cells_from r first (n + 1))
put-more bytes p r first n len at buffer old put number so_far is_at room is long rest is_number =
    let fits = length-put (bytes number) put old len is long (omega arith) in
    let front : take len put ≡ bytes number = ap (take len) is ∙ take_at (bytes number) (drop len old) len fits in
    let place : (n + 1) * len ≡ at + len = omega arith in
    ap (λ k. take k (put_mid at (length buffer - at) buffer put)) place
    ∙ take-put_mid_part at (length buffer - at) len buffer put (omega arith) (omega arith)
    ∙ ap (λ xs. xs ++ take len put) (ap (λ k. take k buffer) is_at ∙ so_far)
    ∙ ap (λ xs. cells_bytes bytes p (cells_from r first n) ++ xs) (front ∙ ap bytes is_number)
    ∙ sym (cells_bytes-more bytes p r first n)

-- the numbers from a on, in two parts
range-split : (a m n : ℕ) → range_with_len a (m + n) ≡ range_with_len a m ++ range_with_len (a + m) n
range-split a zero n = let same : zero + n ≡ n = omega arith in let from : a + zero ≡ a = omega arith in rw (same, from) refl
range-split a (suc m) n =
    let longer : suc m + n ≡ suc (m + n) = omega arith in
    let from : a + suc m ≡ (a + 1) + m = omega arith in
    rw (longer, from) (ap (λ (xs : List ℕ). a ∷ xs) (range-split (a + 1) m n))

-- what f makes of the cells of a row up to a column, and on to another
pub map-cells_on : {X : Type 0} (f : Cell → X) (r first end : ℕ) → first ≤ end →
    map f (cells_from r 0 first) ++ map f (cells_from r first (end - first)) ≡ map f (cells_from r 0 end)
map-cells_on f r first end within =
    let all : end ≡ first + (end - first) = omega arith in
    let from : 0 + first ≡ first = omega arith in
    ap (λ k. map f (cells_from r 0 first) ++ map f (cells_from r k (end - first))) (sym from)
    ∙ sym (map-append f (cells_from r 0 first) (cells_from r (0 + first) (end - first)))
    ∙ ap (map f) (sym (map-append (cell_of r) (range_with_len 0 first) (range_with_len (0 + first) (end - first))))
    ∙ ap (λ ks. map f (map (cell_of r) ks)) (sym (range-split 0 first (end - first))) ∙ ap (λ n. map f (cells_from r 0 n)) (sym all)

-- and of one cell more
pub map-cells_more : {X : Type 0} (f : Cell → X) (r first n col : ℕ) → first + n ≡ col →
    map f (cells_from r first (n + 1)) ≡ map f (cells_from r first n) ++ f (cell_of r col) ∷ []
map-cells_more f r first n col is =
    ap (map f) (map-range_with_len_more (cell_of r) first n col is) ∙ map-append f (cells_from r first n) (cell_of r col ∷ [])

-- one number more at the front of a buffer
pub number-put : (f : Cell → ℤ) (r first n col stepped : ℕ) (buffer : List ℤ) (x stored : ℤ) → first + n ≡ col → stepped ≡ n + 1 → n < length buffer →
    take n buffer ≡ map f (cells_from r first n) → All IsPixel (take n buffer) → stored ≡ x → x ≡ f (cell_of r col) → IsPixel x →
    (take stepped (set buffer n stored) ≡ map f (cells_from r first stepped)) × All IsPixel (take stepped (set buffer n stored))
number-put f r first n col stepped buffer x stored here is_next inside so_far pixels is_stored is_number is_pixel =
    let grown : take stepped (set buffer n stored) ≡ take n buffer ++ x ∷ [] =
    ap (λ m. take m (set buffer n stored)) is_next ∙ take_more_set buffer n stored inside ∙ ap (λ z. take n buffer ++ z ∷ []) is_stored in (
      grown ∙ ap (λ zs. zs ++ x ∷ []) so_far ∙ ap (λ z. map f (cells_from r first n) ++ z ∷ []) is_number
          ∙ sym (map-cells_more f r first n col here) ∙ ap (λ m. map f (cells_from r first m)) (sym is_next),
      subst (All IsPixel) (sym grown) (All-push IsPixel (take n buffer) x pixels is_pixel),
    )

-- numbers of some more cells after others
pub numbers-pushed : (f : Cell → ℤ) (r first end : ℕ) (old before new part : List ℤ) → first ≤ end → before ≡ old ++ map f (cells_from r 0 first) →
    part ≡ map f (cells_from r first (end - first)) → new ≡ before ++ part → new ≡ old ++ map f (cells_from r 0 end)
numbers-pushed f r first end old before new part within so_far is pushed =
    pushed ∙ ap (λ zs. zs ++ part) so_far ∙ append_assoc old (map f (cells_from r 0 first)) part
    ∙ ap (λ zs. old ++ zs) (ap (λ zs. map f (cells_from r 0 first) ++ zs) is ∙ map-cells_on f r first end within)

-- the bytes of cells in two parts
cells_bytes-split : (bytes : ℤ → List ℕ) (p : Pixels) (r k m n : ℕ) →
    cells_bytes bytes p (cells_from r k (m + n)) ≡ cells_bytes bytes p (cells_from r k m) ++ cells_bytes bytes p (cells_from r (k + m) n)
cells_bytes-split bytes p r k m n =
    ap (λ ks. cells_bytes bytes p (map (cell_of r) ks)) (range-split k m n)
    ∙ ap (cells_bytes bytes p) (map-append (cell_of r) (range_with_len k m) (range_with_len (k + m) n))
    ∙ flat_map-append (λ c. bytes (number_at p c)) (cells_from r k m) (cells_from r (k + m) n)

-- the bytes of the cells of a row up to a column, and on to another
pub cells_bytes-on : (bytes : ℤ → List ℕ) (p : Pixels) (r first end : ℕ) (part : List ℕ) → part ≡ cells_bytes bytes p (cells_from r first (end - first)) →
    first ≤ end → cells_bytes bytes p (cells_from r 0 first) ++ part ≡ cells_bytes bytes p (cells_from r 0 end)
cells_bytes-on bytes p r first end part is within =
    let all : end ≡ first + (end - first) = omega arith in
    let from : 0 + first ≡ first = omega arith in
    ap (λ xs. cells_bytes bytes p (cells_from r 0 first) ++ xs) (is ∙ ap (λ k. cells_bytes bytes p (cells_from r k (end - first))) (sym from))
    ∙ sym (cells_bytes-split bytes p r 0 first (end - first)) ∙ ap (λ n. cells_bytes bytes p (cells_from r 0 n)) (sym all)

-- and from there to the end of the row
pub cells_bytes-parts : (bytes : ℤ → List ℕ) (p : Pixels) (r first end cols : ℕ) (part : List ℕ) → part ≡ cells_bytes bytes p (cells_from r first (end - first)) →
    first ≤ end → end ≤ cols → (cells_bytes bytes p (cells_from r 0 first) ++ part) ++ cells_bytes bytes p (cells_from r end (cols - end)) ≡ cells_bytes bytes p (cells_from r 0 cols)
cells_bytes-parts bytes p r first end cols part is within inside =
    ap (λ xs. xs ++ cells_bytes bytes p (cells_from r end (cols - end))) (cells_bytes-on bytes p r first end part is within)
    ∙ cells_bytes-on bytes p r end cols (cells_bytes bytes p (cells_from r end (cols - end))) refl inside

-- numbers with the same bytes give cells the same bytes
pub cells_bytes-same : (f g : ℤ → List ℕ) (p : Pixels) (cs : List Cell) → ((z : ℤ) → f z ≡ g z) → cells_bytes f p cs ≡ cells_bytes g p cs
cells_bytes-same f g p [] same = refl
cells_bytes-same f g p (c ∷ cs) same = rw (same (number_at p c), cells_bytes-same f g p cs same) refl

-- the rows above, a row, and the rows below
pub rows-parts : (f : ℕ → List ℕ) (row rows : ℕ) → row < rows →
    (flat_map f (range_with_len 0 row) ++ f row) ++ flat_map f (range_with_len (row + 1) (rows - (row + 1))) ≡ flat_map f (range_with_len 0 rows)
rows-parts f row rows inside =
    let all : rows ≡ (row + 1) + (rows - (row + 1)) = omega arith in
    let from : 0 + (row + 1) ≡ row + 1 = omega arith in
    ap (λ xs. xs ++ flat_map f (range_with_len (row + 1) (rows - (row + 1)))) (sym (flat_map-rows_more f row))
    ∙ sym (flat_map-append f (range_with_len 0 (row + 1)) (range_with_len (row + 1) (rows - (row + 1))))
    ∙ ap (λ k. flat_map f (range_with_len 0 (row + 1) ++ range_with_len k (rows - (row + 1)))) (sym from)
    ∙ ap (flat_map f) (sym (range-split 0 (row + 1) (rows - (row + 1)))) ∙ ap (λ n. flat_map f (range_with_len 0 n)) (sym all)
