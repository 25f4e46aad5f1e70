-- The pixels of a raster's bytes: where they are, and their numbers.
-- Source: the Esri description of BIL files and their headers (NROWS, NCOLS, NBITS, PIXELTYPE, BYTEORDER, SKIPBYTES,
-- TOTALROWBYTES), of one band; IEEE 754 binary32
use Rattle.std.specs.Prelude.{◌≡◌, ◌+◌, ◌-◌, ◌*◌, ◌/◌, ◌<◌}
use Rattle.drain_raster.specs.Names.{ℕ, ℤ, pos, Bool, true, false, List, length, drop, map, unwrap_or, big_number, little_number, twos_complement, number_of, Cell, HeightKind, Whole, Single, Extent, cells, Pixels, ByteOrdering, Least, Most, Fields}
use Rattle.drain_grid.specs.declared.product.Product.{Product}
use Rattle.drain_grid.specs.Product.{default_no_data}

-- how many bytes a pixel takes
abbrev pub pixel_len : Fields → ℕ
pixel_len h = h.bits / 8

-- where the pixel of a row and a column begins
abbrev pub pixel_place : Fields → ℕ → ℕ → ℕ
pixel_place h row col = h.skip + row * h.row_bytes + col * pixel_len h

-- how many bytes a raster needs: up to the end of its last pixel
abbrev pub needed_len : Fields → ℕ
needed_len h = pixel_place h (h.rows - 1) h.cols

-- a byte that is needed is missing
abbrev pub IsShort : Fields → List ℕ → Type 0
IsShort h body = length body < needed_len h

-- the number of the first n bytes in this order
abbrev pub number_in : ByteOrdering → ℕ → List ℕ → ℕ
number_in Least n bytes = little_number n bytes
number_in Most n bytes = big_number n bytes

-- the number of the first n bytes, in two's complement if pixels are signed
abbrev pub spelled_by : Bool → ByteOrdering → ℕ → List ℕ → ℤ
spelled_by true order n bytes = twos_complement n (number_in order n bytes)
spelled_by false order n bytes = pos (number_in order n bytes)

-- the number of the first n bytes of pixels of a kind: of floats that of their pattern
abbrev pub spelled_as : HeightKind → Bool → ByteOrdering → ℕ → List ℕ → ℤ
spelled_as Whole signed order n bytes = spelled_by signed order n bytes
spelled_as Single signed order n bytes = number_of (number_in order n bytes)

-- the number of the pixel at the front of the bytes
abbrev pub pixel_of : Fields → List ℕ → ℤ
pixel_of h bytes = spelled_as h.kind h.signed h.order (pixel_len h) bytes

-- the number of the pixel at a cell
abbrev pub pixel_at : Fields → List ℕ → Cell → ℤ
pixel_at h body c = pixel_of h (drop (pixel_place h c.row c.col) body)

-- pixels of n bytes, whose bytes encode this number, are those of the header
pub record AreSpelled (h : Fields) (len : ℕ) (number : List ℕ → ℤ) : Type 0 where
  pub len_is : len ≡ pixel_len h
  pub number_is : (bytes : List ℕ) → number bytes ≡ pixel_of h bytes

-- the rows and columns of a header
abbrev pub header_extent : Fields → Extent
header_extent h = record { rows = h.rows; cols = h.cols }

-- the no-data number of a product whose header has none: the product's default, and of floats the number of NaN
abbrev pub default_number : HeightKind → Product → ℤ
default_number Whole p = default_no_data p
default_number Single p = pos 2143289344

-- the raster of a body: its pixels in row order, with the header's no-data number or else this one
abbrev pub raster_of : Fields → ℤ → List ℕ → Pixels
raster_of h default body = record {
  extent = header_extent h;
  nodata = unwrap_or h.nodata default;
  numbers = map (pixel_at h body) (cells (header_extent h));
}
