-- The files of a product set or of derived rasters: the headers of a mosaic's, their bytes, what has to hold so that they
-- can be written, and that they are.
use Rattle.std.specs.Prelude.{◌*◌, ◌/◌, ◌≡◌, ◌∷◌}
use Rattle.drain_maker.specs.Names.{ℕ, Bool, Some, List, [], Result, Cell, Whole, Con, Acc, Bas, Rnk, default_no_data, Fields, Tiling, west_edge, north_edge, extent_of, flat_map, Sink, ProductSet, SetProduct, IsCellOf, Pixels, number_at, raster_in, product_of, products, IsTextOf, text_of, CanSpellAll, CanSpellIn, raster_bytes, header_extent, WritesFile, WritesFiles, bits_of, con_no_data, header_on, is_signed}
use Rattle.drain_grid.specs.declared.product.Product.{Product}
use Rattle.drain_header.specs.declared.header.ByteOrdering.TheVariants.{Least}
use Rattle.drain_header.specs.declared.header.Place.{Place}
use Rattle.drain_mosaic.specs.Tiling.{spacing_of}
use Rattle.drain_maker.specs.declared.derivation.Derived.{Derived}
use Rattle.drain_sets.specs.declared.set_files.FilePart.{FilePart}
use Rattle.drain_sets.specs.declared.set_files.FilePart.TheVariants.{Header, Raster}
use Rattle.drain_sets.specs.declared.set_files.SetFile.{SetFile}
use Rattle.drain_sets.specs.declared.set_files.SetFault.{SetFault}
use Rattle.drain_grid.specs.declared.set_product.SetProduct.TheVariants as held

-- The headers of the rasters of `make`. Source: this project's own.

-- the corner of the mosaic, and the spacing of its samples
abbrev pub mosaic_place : Tiling → Place
mosaic_place t = record {
  ulx = west_edge t;
  uly = north_edge t;
  xdim = spacing_of t;
  ydim = spacing_of t;
}

-- the header of a product: the least significant byte first, nothing to skip, rows without padding
abbrev pub made_header : Tiling → Product → Fields
made_header t p = record {
  rows = (extent_of t).rows;
  cols = (extent_of t).cols;
  bits = bits_of p;
  order = Least;
  signed = is_signed p;
  skip = 0;
  row_bytes = (extent_of t).cols * (bits_of p / 8);
  place = mosaic_place t;
  nodata = Some (default_no_data p);
  kind = Whole;
}

-- the raster's header with that number
abbrev pub marked_header : Fields → Fields
marked_header h = record {
  rows = h.rows;
  cols = h.cols;
  bits = h.bits;
  order = h.order;
  signed = h.signed;
  skip = h.skip;
  row_bytes = h.row_bytes;
  place = h.place;
  nodata = Some (con_no_data h);
  kind = h.kind;
}

-- the text of a product's header on a raster of elevations with this header, where con's is this one
abbrev pub header_bytes : List ℕ → Fields → SetProduct → List ℕ
header_bytes con h held.Con = con
header_bytes con h p = text_of (header_on h (product_of p))

-- the bytes of a file of a product: its header's text, or its raster's bytes
abbrev pub part_bytes : List ℕ → Fields → SetProduct → Pixels → FilePart → List ℕ
part_bytes con h p r Header = header_bytes con h p
part_bytes con h p r Raster = raster_bytes (header_on h (product_of p)) r

-- so of a file, where these are the rasters
abbrev pub file_bytes : List ℕ → Fields → (SetProduct → Pixels) → SetFile → List ℕ
file_bytes con h rasters file = part_bytes con h file.product (rasters file.product) file.part

-- whole numbers of n bits can encode each number
abbrev pub CanSpellAllIn : Bool → ℕ → Pixels → Type 0
CanSpellAllIn signed bits p = (c : Cell) → IsCellOf p.extent c → CanSpellIn signed bits (number_at p c)

-- the raster has the rows and columns of the header, whose pixels can encode each of its numbers
pub record FitsHeader (h : Fields) (r : Pixels) : Type 0 where
  pub extent : r.extent ≡ header_extent h
  pub spelled : CanSpellAll h r

-- each raster that a set holds fits its header
abbrev pub FitHeaders : Fields → (SetProduct → Type 0) → (SetProduct → Pixels) → Type 0
FitHeaders h holds rasters = (p : SetProduct) → holds p → FitsHeader (header_on h (product_of p)) (rasters p)

-- each of the five rasters fits its header on a raster of elevations
abbrev pub SetFits : Fields → ProductSet → Type 0
SetFits h ps = FitHeaders h (λ p. Unit {0}) (raster_in ps)

-- the bytes of all files on a raster of elevations, where this is the text of con's header: of each product its header, and
-- then its raster
unfoldable pub set_bytes : List ℕ → Fields → ProductSet → List (List ℕ)
set_bytes con h ps = flat_map (λ p. header_bytes con h p ∷ raster_bytes (header_on h (product_of p)) (raster_in ps p) ∷ []) products

-- the file took a text of the header, of which there is one for whole heights
abbrev pub WritesHeader : {F : Type 0} → Sink F → Fields → F → F → Result (Unit {0}) SetFault → Type 0
WritesHeader sink h old new done = (text : List ℕ) × IsTextOf h text × WritesFile sink old new text done

-- the files took those of all products on a raster of elevations, con's header as some text of it
abbrev pub WritesSet : {F : Type 0} → Sink F → Fields → ProductSet → List F → List F → Result (Unit {0}) SetFault → Type 0
WritesSet sink h ps olds news done = (con : List ℕ) × IsTextOf (header_on h Con) con × WritesFiles sink olds news (set_bytes con h ps) done

-- the three derived rasters fit their headers on a raster of elevations
pub record DerivedFit (h : Fields) (d : Derived) : Type 0 where
  pub acc : FitsHeader (header_on h Acc) d.acc
  pub bas : FitsHeader (header_on h Bas) d.bas
  pub rnk : FitsHeader (header_on h Rnk) d.rnk

-- the bytes of a product's two files: the text of its header, and the bytes of its raster
abbrev pub bytes_of_both : Fields → Pixels → List (List ℕ) → List (List ℕ)
bytes_of_both h r more = text_of h ∷ raster_bytes h r ∷ more

-- the bytes of all files of rasters derived on a raster of elevations: of acc, bas and rnk each the header, and then the
-- raster
unfoldable pub derived_bytes : Fields → Derived → List (List ℕ)
derived_bytes h d = bytes_of_both (header_on h Acc) d.acc (bytes_of_both (header_on h Bas) d.bas (bytes_of_both (header_on h Rnk) d.rnk []))

-- a product that is derived: con and dir are given
abbrev pub IsDerived : SetProduct → Type 0
IsDerived held.Con = ⊥
IsDerived held.Dir = ⊥
IsDerived held.Acc = Unit {0}
IsDerived held.Bas = Unit {0}
IsDerived held.Rnk = Unit {0}

-- the raster of a product that is derived; of the others, which have none here, nothing is asked
abbrev pub derived_raster : Derived → SetProduct → Pixels
derived_raster d held.Acc = d.acc
derived_raster d held.Bas = d.bas
derived_raster d p = d.rnk
