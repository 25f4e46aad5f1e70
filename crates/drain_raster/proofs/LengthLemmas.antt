-- A worked raster: what the definitions say of it, by computation.
use Rattle.drain_raster.proofs.Names.{◌≡◌, ℕ, ℤ, pos, neg_ℤ, true, List, [], ◌∷◌, None, refl, zero, suc, ◌+◌, ◌-◌, ◌*◌, ◌/◌, ◌<◌, ◌≤◌, Bool, ◌++◌, length, replicate, arith, ap, ◌∙◌, Pixels, ByteOrdering, Least, Most, Fields, AreWithinBounds, needed_len, header_extent, raster_of, pixel_len, HeightKind, Whole, raster_bytes, bytes_in, pixel_bytes, cells_bytes, padding_len, bytes_of_row, AreWritten, flat_map, range_with_len, length-replicate, length-map-range_with_len, mul-le-mul, length-bytes_high_first, length-bytes_low_first, Cell, row_cells}
use Rattle.std.proofs.Common.{length-append}
use Rattle.drain_grid.specs.WholeGrid.{number_at}
use Rattle.drain_raster.proofs.BufferLemmas.{cells_bytes-same}
use Rattle.drain_raster.proofs.CellPlaces.{cell_of}
use Rattle.drain_raster.proofs.PixelLemmas.{packed-fits, pixel_len-least}

-- two by two pixels of 16 bits, a byte to skip, and one after each row
abbrev header : ByteOrdering → Fields
header order = record {
  rows = 2;
  cols = 2;
  bits = 16;
  order = order;
  signed = true;
  skip = 1;
  row_bytes = 5;
  place = record { ulx = pos 0; uly = pos 0; xdim = pos 0; ydim = pos 0 };
  nodata = None;
  kind = Whole;
}

abbrev body : List ℕ
body = 255 ∷ 1 ∷ 0 ∷ 254 ∷ 255 ∷ 170 ∷ 0 ∷ 128 ∷ 2 ∷ 0 ∷ []

abbrev numbers : List ℤ
numbers = pos 1 ∷ neg_ℤ (pos 2) ∷ neg_ℤ (pos 32768) ∷ pos 2 ∷ []

abbrev raster : Pixels
raster = record { extent = header_extent (header Least); nodata = pos 7; numbers = numbers }

ten_bytes : needed_len (header Least) ≡ 10
ten_bytes = refl

least_first : (raster_of (header Least) (pos 7) body).numbers ≡ numbers
least_first = refl

most_first : (raster_of (header Most) (pos 7) body).numbers ≡ (pos 256 ∷ neg_ℤ (pos 257) ∷ pos 128 ∷ pos 512 ∷ [])
most_first = refl

written : raster_bytes (header Least) raster ≡ (0 ∷ 1 ∷ 0 ∷ 254 ∷ 255 ∷ 0 ∷ 0 ∷ 128 ∷ 2 ∷ 0 ∷ 0 ∷ [])
written = refl

written_most_first : raster_bytes (header Most) raster ≡ (0 ∷ 0 ∷ 1 ∷ 255 ∷ 254 ∷ 0 ∷ 128 ∷ 0 ∷ 0 ∷ 2 ∷ 0 ∷ [])
written_most_first = refl

-- How long the bytes of rows and rasters are.

length-bytes_in : (order : ByteOrdering) (n number : ℕ) → length (bytes_in order n number) ≡ n
length-bytes_in Least n number = length-bytes_low_first 0 n number
length-bytes_in Most n number = length-bytes_high_first n number

-- as many bytes a number as a pixel takes
pub length-pixel_bytes : (h : Fields) (z : ℤ) → length (pixel_bytes h z) ≡ pixel_len h
length-pixel_bytes h z = length-bytes_in h.order (pixel_len h) _

-- as many bytes a cell
pub length-cells_bytes : (h : Fields) (p : Pixels) (cs : List Cell) → length (cells_bytes (pixel_bytes h) p cs) ≡ length cs * pixel_len h
length-cells_bytes h p [] = omega arith
length-cells_bytes h p (c ∷ cs) =
    let rest = length-cells_bytes h p cs in
    let here = length-pixel_bytes h (number_at p c) in
    let both = length-append (pixel_bytes h (number_at p c)) (cells_bytes (pixel_bytes h) p cs) in
    let more : length (c ∷ cs) ≡ length cs + 1 = omega arith in
    let sum : (length cs + 1) * pixel_len h ≡ length cs * pixel_len h + pixel_len h = omega arith in
    rw more (omega (arith, rest, here, both, sum))

-- a row is as long as the header says
pub length-row : (h : Fields) (p : Pixels) (r : ℕ) → AreWithinBounds h → length (bytes_of_row h p r) ≡ h.row_bytes
length-row h p r ok =
    let pixels = length-cells_bytes h p (row_cells h.cols r) in
    let cells : length (row_cells h.cols r) ≡ h.cols = length-map-range_with_len (cell_of r) 0 h.cols in
    let packed : length (cells_bytes (pixel_bytes h) p (row_cells h.cols r)) ≡ h.cols * pixel_len h = pixels ∙ ap (λ n. n * pixel_len h) cells in
    omega (arith, length-append (cells_bytes (pixel_bytes h) p (row_cells h.cols r)) (replicate {A = ℕ} (padding_len h) 0), length-replicate {A = ℕ} (padding_len h) 0, packed, packed-fits h ok.row_holds)

-- lists of one length, one after the other
pub length-lists : {X : Type 0} (f : ℕ → List X) (a n len : ℕ) → ((r : ℕ) → length (f r) ≡ len) → length (flat_map f (range_with_len a n)) ≡ n * len
length-lists f a zero len each = omega arith
length-lists f a (suc n) len each =
    let rest = length-lists f (a + 1) n len each in
    let more : suc n * len ≡ n * len + len = omega arith in
    omega (arith, length-append (f a) (flat_map f (range_with_len (a + 1) n)), each a, rest, more)

-- the skipped bytes and the rows
pub length-raster : (h : Fields) (p : Pixels) → AreWithinBounds h → length (raster_bytes h p) ≡ h.skip + h.rows * h.row_bytes
length-raster h p ok =
    omega (
      arith,
      length-append (replicate {A = ℕ} h.skip 0) (flat_map (bytes_of_row h p) (range_with_len 0 h.rows)),
      length-replicate {A = ℕ} h.skip 0,
      length-lists (bytes_of_row h p) 0 h.rows h.row_bytes (λ r. length-row h p r ok),
    )

-- a row has a byte
pub row-some : (h : Fields) → AreWithinBounds h → 0 < h.row_bytes
row-some h ok =
    omega (arith, packed-fits h ok.row_holds, mul-le-mul {n₁ = 1} {m₁ = 1} {n₂ = h.cols} {m₂ = pixel_len h} ok.some_col (pixel_len-least h.bits ok.bits_ok))

-- and so a raster has
pub raster-some : (h : Fields) (p : Pixels) → AreWithinBounds h → 0 < length (raster_bytes h p)
raster-some h p ok =
    omega (arith, length-raster h p ok, mul-le-mul {n₁ = 1} {m₁ = 1} {n₂ = h.rows} {m₂ = h.row_bytes} ok.some_row (row-some h ok))

-- the pixels of a row and the zeros after them
pub row-bytes : (h inside : Fields) (kind : HeightKind) (len l bits : ℕ) (signed : Bool) (bytes : ℤ → List ℕ) (p : Pixels) (r : ℕ) → AreWritten h kind len bits signed bytes → inside ≡ h → l ≡ len →
    cells_bytes bytes p (row_cells inside.cols r) ++ replicate (inside.row_bytes - inside.cols * l) 0 ≡ bytes_of_row h p r
row-bytes h inside kind len l bits signed bytes p r written view same =
    rw (view, same, written.len_is) (ap (λ xs. xs ++ replicate (padding_len h) 0) (cells_bytes-same bytes (pixel_bytes h) p (row_cells h.cols r) written.bytes_are))

-- the padding of a row is no less than none
pub padding-fits : (h inside : Fields) (len l : ℕ) → inside ≡ h → l ≡ len → len ≡ pixel_len h → inside.cols * inside.bits / 8 ≤ inside.row_bytes →
    inside.cols * l ≤ inside.row_bytes
padding-fits h inside len l view same is holds = rw (same, is, ← view) (packed-fits inside holds)
