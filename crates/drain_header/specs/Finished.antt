-- A header from the values of its keywords, or the first fault of the text as a whole.
use Rattle.std.specs.Prelude.{◌*◌, ◌/◌, ◌≤◌, ◌||◌, ◌==◌, if◌then◌else◌}
use Rattle.drain_header.specs.Names.{ℕ, ℤ, pos, Bool, true, false, not, nat_lt, Option, Some, None, is_none, IfSome, unwrap_or, Result, Ok, Err, slice_index_or, IsNoData, IsFloatNumber, HeightKind, Whole, Single}
use Rattle.drain_header.specs.declared.header.ByteOrdering.TheVariants.{Least}
use Rattle.drain_header.specs.declared.key.Key.{Key}
use Rattle.drain_header.specs.declared.key.Key.TheVariants.{Nrows, Ncols, Nbands, Nbits, ByteOrder, PixelType, SkipBytes, BandRowBytes, TotalRowBytes, Ulxmap, Ulymap, Xdim, Ydim}
use Rattle.drain_header.specs.declared.key.Key.TheVariants as keys
use Rattle.drain_header.specs.declared.value.Value.{Value}
use Rattle.drain_header.specs.declared.value.Value.TheVariants.{Signed}
use Rattle.drain_header.specs.declared.fault.HeaderFault.{HeaderFault}
use Rattle.drain_header.specs.declared.fault.HeaderFault.TheVariants.{NotOneBand, BadBits, BadPixelType, RowTooShort}
use Rattle.drain_header.specs.Header.{Fields, IsCoordinate}
use Rattle.drain_header.specs.Lines.{key_order}
use Rattle.drain_header.specs.Reading.{Seen}
use Rattle.drain_header.specs.Said.{said_by, said_number, ordering_in, sign_in, coordinate_in, said_nodata}

-- the whole number of a keyword, or else a default
abbrev pub number_or : Key → ℕ → Seen → ℕ
number_or key default seen = unwrap_or (said_by said_number key seen) default

-- the coordinate of a keyword
abbrev pub coordinate_or_zero : Key → Seen → ℤ
coordinate_or_zero key seen = unwrap_or (said_by coordinate_in key seen) (pos 0)

-- how many bytes the pixels of a row need
abbrev pub packed_row_in : Seen → ℕ
packed_row_in seen = number_or Ncols 0 seen * number_or Nbits 8 seen / 8

-- how many bytes from one row to the next
abbrev pub row_bytes_in : Seen → ℕ
row_bytes_in seen = number_or TotalRowBytes (number_or BandRowBytes (packed_row_in seen) seen) seen

-- the pixel type is none of the kind's
abbrev pub is_other_type : Value → Bool
is_other_type (Signed signed) = is_none signed
is_other_type value = false

-- heights of the kind must say their pixel type
abbrev pub needs_type : HeightKind → Bool
needs_type Whole = false
needs_type Single = true

-- there is such a pixel type, or none where one must be
abbrev pub is_other_type_in : HeightKind → Option Value → Bool
is_other_type_in kind None = needs_type kind
is_other_type_in kind (Some value) = is_other_type value

-- 8, 16 or 32
abbrev pub is_pixel_size : ℕ → Bool
is_pixel_size bits = (bits == 8) || ((bits == 16) || (bits == 32))

-- the size of a pixel of heights of the kind
abbrev pub is_pixel_size_of : HeightKind → ℕ → Bool
is_pixel_size_of Whole bits = is_pixel_size bits
is_pixel_size_of Single bits = bits == 32

-- whether pixels are signed: floats are, and by default numbers of 16 bits
abbrev pub signed_in : HeightKind → Seen → Bool
signed_in Whole seen = unwrap_or (said_by sign_in PixelType seen) (number_or Nbits 8 seen == 16)
signed_in Single seen = true

-- the header of the values
abbrev pub header_in : HeightKind → Seen → Fields
header_in kind seen = record {
  rows = number_or Nrows 0 seen;
  cols = number_or Ncols 0 seen;
  bits = number_or Nbits 8 seen;
  order = unwrap_or (said_by ordering_in ByteOrder seen) Least;
  signed = signed_in kind seen;
  skip = number_or SkipBytes 0 seen;
  row_bytes = row_bytes_in seen;
  place = record {
    ulx = coordinate_or_zero Ulxmap seen;
    uly = coordinate_or_zero Ulymap seen;
    xdim = coordinate_or_zero Xdim seen;
    ydim = coordinate_or_zero Ydim seen;
  };
  nodata = said_by said_nodata keys.Nodata seen;
  kind = kind;
}

-- that header, or the first of the faults that belong to no line
abbrev pub finished : HeightKind → Seen → Result Fields HeaderFault
finished kind seen =
    if not (number_or Nbands 1 seen == 1) then Err NotOneBand
    else (if not (is_pixel_size_of kind (number_or Nbits 8 seen)) then Err BadBits
    else (if is_other_type_in kind (slice_index_or seen (key_order PixelType) None) then Err BadPixelType
    else (if nat_lt (row_bytes_in seen) (packed_row_in seen) then Err RowTooShort else Ok (header_in kind seen))))

-- a valid number of rows or of columns
pub record IsSize (n : ℕ) : Type 0 where
  pub low : 1 ≤ n
  pub high : n ≤ 28801

-- a no-data number of heights of the kind
abbrev pub IsNoDataOf : HeightKind → ℤ → Type 0
IsNoDataOf Whole n = IsNoData n
IsNoDataOf Single n = IsFloatNumber n

-- the values are within the bounds of a header
pub record AreTaken (kind : HeightKind) (seen : Seen) : Type 0 where
  pub rows : IsSize (number_or Nrows 0 seen)
  pub cols : IsSize (number_or Ncols 0 seen)
  pub ulx : IsCoordinate (coordinate_or_zero Ulxmap seen)
  pub uly : IsCoordinate (coordinate_or_zero Ulymap seen)
  pub xdim : IsCoordinate (coordinate_or_zero Xdim seen)
  pub ydim : IsCoordinate (coordinate_or_zero Ydim seen)
  pub nodata : IfSome (said_by said_nodata keys.Nodata seen) (IsNoDataOf kind)
