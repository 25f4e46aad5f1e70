-- A raster's bytes read back, the value of the raster and of a body's rows at a cell, and how rows end.
use Rattle.std.specs.Prelude.{◌≡◌, ◌↔◌, ◌<◌}
use Rattle.drain_raster.specs.Names.{ℕ, ℤ, pos, List, [], IsTrue, length, slice_index_or, after_rows, ends_wrong, nth_row, Wrong, Cell, IsCellOf, Pixels, ArePixels, number_at, Fields, AreWithinBounds}
use Rattle.drain_raster.specs.Pixels.{IsShort, header_extent, needed_len, pixel_at, raster_of}
use Rattle.drain_raster.specs.Bytes.{CanSpellAll, raster_bytes}
use Rattle.drain_raster.specs.RasterRows.{bytes_of_rows, raster_rows}

-- the bytes are long enough, and encode the same numbers
pub record ReadBack (h : Fields) (p : Pixels) : Type 0 where
  pub long : ¬ IsShort h (raster_bytes h p)
  pub numbers : (raster_of h p.nodata (raster_bytes h p)).numbers ≡ p.numbers

-- the bytes of a raster whose numbers pixels can encode are the raster again
abbrev pub BytesReadBack : Type 0
BytesReadBack =
    (h : Fields) (p : Pixels) → AreWithinBounds h → ArePixels p → p.extent ≡ header_extent h → CanSpellAll h p → ReadBack h p

-- the number of a body's raster at a cell is the cell's pixel
abbrev pub NumbersArePixels : Type 0
NumbersArePixels =
    (h : Fields) (default : ℤ) (body : List ℕ) (c : Cell) → IsCellOf (header_extent h) c → number_at (raster_of h default body) c ≡ pixel_at h body c

-- the rows of a raster that isn't short are its pixels
abbrev pub RasterRowsArePixels : Type 0
RasterRowsArePixels =
    (h : Fields) (body : List ℕ) (row col : ℕ) → AreWithinBounds h → ¬ IsShort h body → row < h.rows → col < h.cols →
    slice_index_or (nth_row row (raster_rows h h.rows h.skip body)) col (pos 0) ≡ pixel_at h body (record { row = row; col = col })

-- a raster's rows end wrong exactly where it is short
abbrev pub RasterRowsTellLengths : Type 0
RasterRowsTellLengths = (h : Fields) (body : List ℕ) → AreWithinBounds h → IsTrue (ends_wrong (raster_rows h h.rows h.skip body)) ↔ IsShort h body

-- all rows of a raster read the bytes that it needs, and no more
abbrev pub RasterRowsTakeWhatIsNeeded : Type 0
RasterRowsTakeWhatIsNeeded = (h : Fields) → AreWithinBounds h → bytes_of_rows h h.rows h.skip ≡ needed_len h

-- rows of a raster that isn't short have a number per column; none follows the last, and there a short one is found
pub record AreAllRows (h : Fields) (body : List ℕ) : Type 0 where
  pub long : (row : ℕ) → row < h.rows → ¬ IsShort h body → length (nth_row row (raster_rows h h.rows h.skip body)) ≡ h.cols
  pub none_behind : nth_row h.rows (raster_rows h h.rows h.skip body) ≡ []
  pub short : (after_rows h.rows (raster_rows h h.rows h.skip body) ≡ Wrong) ↔ IsShort h body

-- all rows of a raster come, and then the end, or the answer that it is short
abbrev pub RasterRowsEnd : Type 0
RasterRowsEnd = (h : Fields) (body : List ℕ) → AreWithinBounds h → AreAllRows h body
