-- A raster's bytes hold each pixel at its place, and so read back.
use Rattle.drain_raster.proofs.Names.{◌≡◌, ℕ, zero, suc, ◌+◌, ◌-◌, ◌*◌, ◌<◌, ◌≤◌, ℤ, pos, List, [], ◌∷◌, ◌++◌, length, map, take, drop, get_or, replicate, refl, arith, sym, ap, ◌∙◌, append_assoc, append-nil, flat_map, range_with_len, length-replicate, take_all, take_more, get_or-drop, drop_at, length-map-range_with_len, take-add, drop-append-add, Cell, Extent, IsCellOf, row_cells, Pixels, Fields, AreWithinBounds, IsShort, pixel_len, pixel_place, pixel_of, pixel_at, header_extent, CanSpellAll, pixel_bytes, cells_bytes, cells_from, padding_len, bytes_of_row, raster_bytes, BytesReadBack}
use Rattle.std.proofs.lemmas.List.{length-drop}
use Rattle.drain_grid.specs.WholeGrid.{number_at}
use Rattle.drain_raster.proofs.BufferLemmas.{cells_bytes-parts, rows-parts}
use Rattle.drain_raster.proofs.CellPlaces.{cell_of, map-row_cells_more, map-rows_more}
use Rattle.drain_raster.proofs.LengthLemmas.{length-cells_bytes, length-row, length-lists, length-raster}
use Rattle.drain_raster.proofs.PixelLemmas.{packed-fits}
use Rattle.drain_raster.proofs.SpellLemmas.{pixel_of-pixel_bytes}

-- what is dropped, where the front has a known length
drop-front : (front rest : List ℕ) (len n : ℕ) → length front ≡ len → drop (len + n) (front ++ rest) ≡ drop n rest
drop-front front rest len n is = ap (λ k. drop (k + n) (front ++ rest)) (sym is) ∙ drop-append-add front rest n

-- from a pixel's place in its row on, there are its bytes
row-from : (h : Fields) (p : Pixels) (r k : ℕ) (below : List ℕ) → k < h.cols → (rest : List ℕ)
    × (drop (k * pixel_len h) (bytes_of_row h p r ++ below) ≡ pixel_bytes h (number_at p (cell_of r k)) ++ rest)
row-from h p r k below inside =
    let bytes = pixel_bytes h in
    let front = cells_bytes bytes p (cells_from r 0 k) in
    let part = cells_bytes bytes p (cells_from r k (k + 1 - k)) in
    let later = cells_bytes bytes p (cells_from r (k + 1) (h.cols - (k + 1))) in
    let pad = replicate {A = ℕ} (padding_len h) 0 in
    let one : k + 1 - k ≡ 1 = omega arith in
    let here : part ≡ bytes (number_at p (cell_of r k)) = ap (λ n. cells_bytes bytes p (cells_from r k n)) one ∙ append-nil (bytes (number_at p (cell_of r k))) in
    let pixels : (front ++ part) ++ later ≡ cells_bytes bytes p (row_cells h.cols r) = cells_bytes-parts bytes p r k (k + 1) h.cols part refl (omega arith) (omega arith) in
    let cells_are : length (cells_from r 0 k) ≡ k = length-map-range_with_len (cell_of r) 0 k in
    let front_is : length front ≡ k * pixel_len h = length-cells_bytes h p (cells_from r 0 k) ∙ ap (λ n. n * pixel_len h) cells_are in
    let grouped : ((((front ++ part) ++ later) ++ pad) ++ below) ≡ front ++ (part ++ (later ++ (pad ++ below))) = simp append_assoc in (
      later ++ (pad ++ below),
      ap (λ xs. drop (k * pixel_len h) ((xs ++ pad) ++ below)) (sym pixels) ∙ ap (drop (k * pixel_len h)) grouped
          ∙ drop_at front (part ++ (later ++ (pad ++ below))) (k * pixel_len h) front_is ∙ ap (λ xs. xs ++ (later ++ (pad ++ below))) here,
    )

-- and from its place in the raster
raster-from : (h : Fields) (p : Pixels) (r k : ℕ) → AreWithinBounds h → r < h.rows → k < h.cols → (rest : List ℕ)
    × (drop (pixel_place h r k) (raster_bytes h p) ≡ pixel_bytes h (number_at p (cell_of r k)) ++ rest)
raster-from h p r k ok above inside =
    let row = bytes_of_row h p in
    let skipped = replicate {A = ℕ} h.skip 0 in
    let over = flat_map row (range_with_len 0 r) in
    let under = flat_map row (range_with_len (r + 1) (h.rows - (r + 1))) in
    let rows : over ++ (row r ++ under) ≡ flat_map row (range_with_len 0 h.rows) = sym (append_assoc over (row r) under) ∙ rows-parts row r h.rows above in
    let over_is : length over ≡ r * h.row_bytes = length-lists row 0 r h.row_bytes (λ q. length-row h p q ok) in
    let from = row-from h p r k under inside in
    let place : pixel_place h r k ≡ h.skip + (r * h.row_bytes + k * pixel_len h) = omega arith in (
      from.0,
      ap (λ n. drop n (raster_bytes h p)) place
          ∙ drop-front skipped (flat_map row (range_with_len 0 h.rows)) h.skip (r * h.row_bytes + k * pixel_len h) (length-replicate {A = ℕ} h.skip 0)
          ∙ ap (drop (r * h.row_bytes + k * pixel_len h)) (sym rows) ∙ drop-front over (row r ++ under) (r * h.row_bytes) (k * pixel_len h) over_is ∙ from.1,
    )

-- numbers of cells are a list, where each is the one at the cell's place
row-listed : (f : Cell → ℤ) (xs : List ℤ) (cols r n : ℕ) → n ≤ cols → (r + 1) * cols ≤ length xs →
    ((k : ℕ) → k < cols → f (cell_of r k) ≡ get_or xs (r * cols + k) (pos 0)) → map f (row_cells n r) ≡ take n (drop (r * cols) xs)
row-listed f xs cols r zero within long each = refl
row-listed f xs cols r (suc n) within long each =
    let more : suc n ≡ n + 1 = omega arith in
    let sum : (r + 1) * cols ≡ r * cols + cols = omega arith in
    let some : n < length (drop (r * cols) xs) = omega (arith, length-drop (r * cols) xs, sum, long, within) in
    ap (λ m. map f (row_cells m r)) more ∙ map-row_cells_more f n r
    ∙ ap (λ ys. ys ++ f (cell_of r n) ∷ []) (row-listed f xs cols r n (omega (arith, within)) long each)
    ∙ ap (λ z. take n (drop (r * cols) xs) ++ z ∷ []) (each n (omega (arith, within)) ∙ sym (get_or-drop (r * cols) xs n (pos 0)))
    ∙ sym (take_more (drop (r * cols) xs) n (pos 0) some) ∙ ap (λ m. take m (drop (r * cols) xs)) (sym more)

rows-listed : (f : Cell → ℤ) (xs : List ℤ) (cols rows : ℕ) → rows * cols ≤ length xs →
    ((r k : ℕ) → r < rows → k < cols → f (cell_of r k) ≡ get_or xs (r * cols + k) (pos 0)) → map f (flat_map (row_cells cols) (range_with_len 0 rows)) ≡ take (rows * cols) xs
rows-listed f xs cols zero long each = let none : zero * cols ≡ 0 = omega arith in rw none refl
rows-listed f xs cols (suc rows) long each =
    let more : suc rows ≡ rows + 1 = omega arith in
    let sum : (rows + 1) * cols ≡ rows * cols + cols = omega arith in
    let enough : (rows + 1) * cols ≤ length xs = rw (← more) long in
    let above : map f (flat_map (row_cells cols) (range_with_len 0 rows)) ≡ take (rows * cols) xs =
    rows-listed f xs cols rows (omega (arith, sum, enough)) (λ r k h i. each r k (omega (arith, h)) i) in
    ap (λ m. map f (flat_map (row_cells cols) (range_with_len 0 m))) more ∙ map-rows_more f cols rows
    ∙ ap (λ ys. ys ++ map f (row_cells cols rows)) above
    ∙ ap (λ ys. take (rows * cols) xs ++ ys) (row-listed f xs cols rows cols (omega arith) enough (λ k i. each rows k (omega arith) i))
    ∙ sym (take-add (rows * cols) cols xs) ∙ ap (λ n. take n xs) (sym sum) ∙ ap (λ m. take (m * cols) xs) (sym more)

-- the number at a cell comes back
cell-back : (h : Fields) (p : Pixels) (r k : ℕ) → AreWithinBounds h → p.extent ≡ header_extent h → CanSpellAll h p → r < h.rows → k < h.cols →
    pixel_at h (raster_bytes h p) (cell_of r k) ≡ get_or p.numbers (r * h.cols + k) (pos 0)
cell-back h p r k ok shape spelled above inside =
    let from = raster-from h p r k ok above inside in
    let is_cell : IsCellOf p.extent (cell_of r k) = rw shape (record { row = above; col = inside }) in
    ap (pixel_of h) from.1 ∙ pixel_of-pixel_bytes h (number_at p (cell_of r k)) from.0 ok.bits_ok ok.float_bits (spelled (cell_of r k) is_cell)
    ∙ ap (λ (e : Extent). get_or p.numbers (r * e.cols + k) (pos 0)) shape

-- no needed byte is missing
raster-long : (h : Fields) (p : Pixels) → AreWithinBounds h → ¬ IsShort h (raster_bytes h p)
raster-long h p ok short =
    let some : h.rows ≡ (h.rows - 1) + 1 = omega (arith, ok.some_row) in
    let last : ((h.rows - 1) + 1) * h.row_bytes ≡ (h.rows - 1) * h.row_bytes + h.row_bytes = omega arith in
    let all : h.rows * h.row_bytes ≡ (h.rows - 1) * h.row_bytes + h.row_bytes = ap (λ n. n * h.row_bytes) some ∙ last in
    omega (arith, length-raster h p ok, packed-fits h ok.row_holds, all, short)

pub bytes_read_back : BytesReadBack
bytes_read_back h p ok pixels shape spelled =
    let counted : length p.numbers ≡ h.rows * h.cols = pixels.counted ∙ ap (λ (e : Extent). e.rows * e.cols) shape in
    record {
      long = raster-long h p ok;
      numbers = rows-listed (pixel_at h (raster_bytes h p)) p.numbers h.cols h.rows (omega (arith, counted))
          (λ r k above inside. cell-back h p r k ok shape spelled above inside)
          ∙ take_all (h.rows * h.cols) p.numbers (omega (arith, counted));
    }
