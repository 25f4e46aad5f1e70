-- The headers of products on elevations with a header of their own.
-- Source: the Esri description of BIL headers; sizes, byte order and no-data numbers are this project's own
use Rattle.std.specs.Prelude.{◌*◌, ◌/◌}
use Rattle.drain_sets.specs.Names.{ℕ, ℤ, pos, Bool, true, false, Some, unwrap_or, Whole, Single, Least, Fields}
use Rattle.drain_grid.specs.declared.height_kind.HeightKind.{HeightKind}
use Rattle.drain_grid.specs.declared.product.Product.{Product}
use Rattle.drain_grid.specs.declared.product.Product.TheVariants.{Con, Dir, Acc, Bas, Spl, Rnk}
use Rattle.drain_grid.specs.Product.{default_no_data}

-- heights have 16 bits, codes 8, counts, labels and ranks 32
abbrev pub bits_of : Product → ℕ
bits_of Con = 16
bits_of Dir = 8
bits_of Acc = 32
bits_of Bas = 32
bits_of Spl = 8
bits_of Rnk = 32

-- only heights can be negative
abbrev pub is_signed : Product → Bool
is_signed Con = true
is_signed p = false

-- a number that no height is: one that no pixel spells, and of floats that of NaN
abbrev pub no_height : HeightKind → ℤ
no_height Whole = pos 4294967296
no_height Single = pos 2143289344

-- the no-data number of con on a raster of elevations: the raster's own, or one that no height is
abbrev pub con_no_data : Fields → ℤ
con_no_data h = unwrap_or h.nodata (no_height h.kind)

-- the header of a product that isn't con on a raster of elevations with this header: of its size, at its place
abbrev pub header_beside : Fields → Product → Fields
header_beside h p = record {
  rows = h.rows;
  cols = h.cols;
  bits = bits_of p;
  order = Least;
  signed = false;
  skip = 0;
  row_bytes = h.cols * (bits_of p / 8);
  place = h.place;
  nodata = Some (default_no_data p);
  kind = Whole;
}

-- that of any product: con has the raster's pixels, floats where these are
abbrev pub header_on : Fields → Product → Fields
header_on h Con = record {
  rows = h.rows;
  cols = h.cols;
  bits = h.bits;
  order = Least;
  signed = h.signed;
  skip = 0;
  row_bytes = h.cols * (h.bits / 8);
  place = h.place;
  nodata = Some (con_no_data h);
  kind = h.kind;
}
header_on h p = header_beside h p
