-- What a write of many calls left: the bytes that the sink took, and how its faults decide the patience and the answer.
use Rattle.std.specs.Prelude.{◌≡◌, ◌↔◌, ◌-◌, ◌+◌, ◌*◌, ◌∷◌, if◌then◌else◌}
use Rattle.drain_raster.specs.Names.{ℕ, List, Option, Result, IsErr, zero, suc, ℤ, nat_lt, [], length, take, drop, Answered, counted, HandsOver, GivesUpWriting, Coming, coming_at, most_at, Next, End, Wrong, Fields}
use Rattle.drain_device.specs.declared.counts.FaultCounts.{FaultCounts}
use Rattle.drain_raster.specs.declared.raster_rows.RasterRows.{RasterRows}
use Rattle.drain_raster.specs.Bytes.{padding_len}
use Rattle.drain_raster.specs.Pixels.{pixel_len, pixel_of}

-- a part of a write with one patience before and another after: it wrote the bytes, or failed for good before the end
pub record Hands {E : Type 0} (taken_old taken_new : Option (List ℕ)) (counts_old counts_new : FaultCounts) (stalls_old stalls_new : ℕ)
    (patience left : ℕ) (result : Result (Unit {0}) E) (bytes : List ℕ) : Type 0 where
  pub handed : HandsOver taken_old taken_new result bytes
  pub failures : ℕ
  pub interruptions : ℕ
  pub stalls : ℕ
  pub answered : Answered counts_old counts_new failures interruptions
  pub stalled : stalls_new ≡ counted stalls_old stalls
  pub left_is : left ≡ patience - interruptions
  pub exactly : IsErr result ↔ GivesUpWriting patience failures interruptions stalls

-- What is to come of a raster's bytes, row by row.
-- Source: the Esri description of BIL files and their headers (NROWS, NCOLS, NBITS, SKIPBYTES, TOTALROWBYTES), of one band

-- count numbers of equal size, from the front of the bytes
abbrev pub raster_numbers_of : ℕ → (List ℕ → ℤ) → ℕ → List ℕ → List ℤ
raster_numbers_of len number zero bytes = []
raster_numbers_of len number (suc n) bytes = number (take len bytes) ∷ raster_numbers_of len number n (drop len bytes)

-- the pixels of a row
abbrev pub pixels_of : Fields → List ℕ → List ℤ
pixels_of h bytes = raster_numbers_of (pixel_len h) (pixel_of h) h.cols bytes

-- how many bytes the pixels of a row take
abbrev pub packed_len : Fields → ℕ
packed_len h = h.cols * pixel_len h

-- the pixels of a row after skipped bytes
abbrev pub pixels_behind : Fields → ℕ → List ℕ → List ℤ
pixels_behind h gap bytes = pixels_of h (drop gap bytes)

-- the rows of a raster with some to go, after the bytes to skip; a row with a missing byte of a pixel is wrong
abbrev pub raster_rows : Fields → ℕ → ℕ → List ℕ → Coming
raster_rows h zero gap bytes = End
raster_rows h (suc left) gap bytes =
    if nat_lt (length bytes) (gap + packed_len h)
    then Wrong
    else Next (pixels_behind h gap (take (gap + packed_len h) bytes)) (raster_rows h left (padding_len h) (drop (gap + packed_len h) bytes))

-- how many bytes those rows take at most: none after the last pixel
abbrev pub bytes_of_rows : Fields → ℕ → ℕ → ℕ
bytes_of_rows h zero gap = 0
bytes_of_rows h (suc left) gap = gap + packed_len h + bytes_of_rows h left (padding_len h)

-- what is to come of a reader of a raster's rows
abbrev pub raster_coming : RasterRows → List ℕ → Coming
raster_coming rows bytes = coming_at rows.progress (raster_rows rows.header rows.left rows.gap bytes)

-- how many bytes it still reads at most
abbrev pub raster_most_bytes : RasterRows → ℕ
raster_most_bytes rows = most_at rows.progress (bytes_of_rows rows.header rows.left rows.gap)
