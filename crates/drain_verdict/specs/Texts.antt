-- What lies on a ground: a list of sinks, how far apart cells are, and each product's header and raster; and what these
-- texts mean.
use Rattle.drain_verdict.specs.Names.{ℕ, ℤ, List, [], unwrap_or, Option, Result, Ok, Err, Cell, PerProduct, SetProduct, SinkLine, HeightKind, Whole, Extent, of_product, product_of, is_listed, sinks_of, NoDataNumbers, Fields, fields_of, default_number, pixel_at, lines_of}
use Rattle.drain_grid.specs.declared.set_product.SetProduct.TheVariants.{Con}
use Rattle.drain_grid.specs.Grid as grid
use Rattle.drain_grid.specs.Product.{held_numbers}
use Rattle.drain_verdict.specs.Given.{Given, row_spacing}

-- the list of sinks and how far apart cells are, and each product's header and body
pub record SetTexts : Type 0 where
  pub given : Given
  pub header : SetProduct → List ℕ
  pub raster : SetProduct → List ℕ

-- the lines of a list of sinks, none if one of them is bad
abbrev pub lines_in : Result (List SinkLine) ℕ → List SinkLine
lines_in (Ok sinks) = sinks
lines_in (Err bad) = []

-- the lines that list a cell
abbrev pub set_listed : SetTexts → List SinkLine
set_listed t = lines_in (sinks_of t.given.sinks)

-- the grid of these elevations, of this kind, and of the listed sinks, whose cells are as far apart as given
abbrev pub grid_on : HeightKind → Extent → (Cell → Option ℤ) → SetTexts → grid.Grid
grid_on kind e elevation t = record { extent = e; elevation = elevation; sink = is_listed (set_listed t); spacing = row_spacing kind t.given.spacing }

-- the kind of a product's numbers on heights of this kind: con's are heights, all others whole numbers
abbrev pub kind_in : HeightKind → SetProduct → HeightKind
kind_in kind Con = kind
kind_in kind p = Whole

-- what a product's header says, on heights of this kind
abbrev pub set_fields : HeightKind → SetTexts → SetProduct → Fields
set_fields kind t p = fields_of (kind_in kind p) (lines_of (t.header p))

-- the number of a product at a cell
abbrev pub set_number : HeightKind → SetTexts → SetProduct → Cell → ℤ
set_number kind t p c = pixel_at (set_fields kind t p) (t.raster p) c

abbrev pub text_products : HeightKind → SetTexts → grid.Products
text_products kind t = grid.held_products (set_number kind t)

-- the no-data number of a product with this header: the header's, or else the default
abbrev pub nodata_number : Fields → SetProduct → ℤ
nodata_number h p = unwrap_or h.nodata (default_number h.kind (product_of p))

-- the same in these texts
abbrev pub set_nodata : HeightKind → SetTexts → SetProduct → ℤ
set_nodata kind t p = nodata_number (set_fields kind t p) p

abbrev pub text_numbers : HeightKind → SetTexts → NoDataNumbers
text_numbers kind t = held_numbers (set_nodata kind t)

-- the same of these headers, and the default one for spl
abbrev pub nodata_in : PerProduct Fields → NoDataNumbers
nodata_in hs = held_numbers (λ p. nodata_number (of_product hs p) p)
