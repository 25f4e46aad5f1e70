-- What an explanation reports of refused inputs: what was expected, and what was found.
use Rattle.std.specs.Prelude.{◌≡◌, ◌&&◌, ◌-◌, ◌∷◌, if◌then◌else◌, ◌≢◌, ◌+◌, ◌*◌, ◌<◌}
use Rattle.drain_explain.specs.Names.{ℕ, List, length, take, nat_lt, Some, slice_get, ℤ, [], Ok, lines_of, words_of, whole_number, Cell, Refusal, Extent, IsDemHeader, GivenSpacing, by_row, IsLayoutOf}
use Rattle.drain_mosaic.specs.Tiling.{Tiling, extent_of, left_of, top_of, north_edge, spacing_of, west_edge}
use Rattle.drain_findings.specs.declared.refusal_detail.NotData.TheVariants.{Void, Outside}
use Rattle.drain_findings.specs.declared.refusal_detail.RefusalDetail.{RefusalDetail}
use Rattle.drain_findings.specs.declared.refusal_detail.RefusalDetail.TheVariants.{SinkLine, SinkCell, SpacingLine, SpacingRows, Seam, Side, Name, Shape, Position, TileLength, RasterLength, PixelSize, DemLength, Kind}
use Rattle.drain_findings.specs.declared.refusal_detail.TheConstants.{SHOWN_BYTES}
use Rattle.drain_grid.specs.declared.tile.TheConstants.{VOID}
use Rattle.drain_findings.specs.declared.refusal_detail.TileValue.{TileValue}
use Rattle.drain_grid.specs.declared.height_kind.HeightKind.{HeightKind}
use Rattle.drain_grid.specs.declared.height_kind.HeightKind.TheVariants.{Whole}
use Rattle.drain_grid.specs.declared.product.Product.{Product}
use Rattle.drain_grid.specs.declared.set_product.SetProduct.{SetProduct}
use Rattle.drain_header.specs.Faults.{AnswersOf}
use Rattle.drain_header.specs.Header.{Fields}
use Rattle.drain_header.specs.declared.header.Place.{Place}
use Rattle.drain_hgt.specs.Corner.{Corner}
use Rattle.drain_hgt.specs.Samples.{tile_length}
use Rattle.drain_raster.specs.Pixels.{header_extent, needed_len}
use Rattle.drain_header.specs.Lines.{kind_of}
use Rattle.drain_sets.specs.declared.raster_input.RasterInput.{RasterInput}
use Rattle.drain_verdict.specs.Given.{Given}
use Rattle.drain_answer.specs.declared.refusal.Refusal.TheVariants as refusal
use Rattle.drain_grid.specs.declared.product.Product.TheVariants as product
use Rattle.drain_grid.specs.declared.set_product.SetProduct.TheVariants as held

-- What an explanation reports of a refused line of a list of sinks.

-- the list has this line, counted from 1
abbrev pub HasLine : List ℕ → ℕ → List ℕ → Type 0
HasLine list number line = slice_get (lines_of list) (number - 1) ≡ Some line

-- a bad line: its number, its first bytes, and how many it has
abbrev pub IsLineDetail : List ℕ → ℕ → RefusalDetail → Type 0
IsLineDetail list number (SinkLine n start bytes) =
    (n ≡ number) × ((line : List ℕ) × HasLine list number line × (start.items ≡ take SHOWN_BYTES line) × (bytes ≡ length line))
IsLineDetail list number other = ⊥

-- a line whose cell has no data: its number, the row and the column in its first two words, and whether a grid of this
-- size has that cell
abbrev pub IsCellDetail : Extent → List ℕ → ℕ → RefusalDetail → Type 0
IsCellDetail e list number (SinkCell n row col why) =
    (n ≡ number) × ((line : List ℕ) × (first : List ℕ) × (second : List ℕ) × (more : List (List ℕ)) × HasLine list number line
    × (words_of line ≡ first ∷ second ∷ more) × (whole_number first ≡ Some row) × (whole_number second ≡ Some col)
    × (why ≡ (if nat_lt row e.rows && nat_lt col e.cols then Void else Outside)))
IsCellDetail e list number other = ⊥

-- What an explanation reports of a refused spacing by row.

-- a bad line: its number, its first bytes, and how many it has
abbrev pub IsSpacingLineDetail : GivenSpacing → ℕ → RefusalDetail → Type 0
IsSpacingLineDetail (by_row text) number (SpacingLine n start bytes) =
    (n ≡ number) × ((line : List ℕ) × HasLine text number line × (start.items ≡ take SHOWN_BYTES line) × (bytes ≡ length line))
IsSpacingLineDetail given number other = ⊥

-- the rows of the grid, and how many are listed
abbrev pub IsSpacingRowsDetail : Extent → ℕ → RefusalDetail → Type 0
IsSpacingRowsDetail e rows (SpacingRows expected found) = (expected ≡ e.rows) × (found ≡ rows)
IsSpacingRowsDetail e rows other = ⊥

-- What an explanation reports of a cell where two tiles have different heights.

-- the tile in this place of the list covers the cell, in this row and column of its own, and a look gave this height
-- there, where each sample has two bytes; it is no void
pub record IsHeightAt {L : Type 0} (shows : L → ℕ → ℕ → ℤ → Type 0) (t : Tiling) (cell : Cell) (place : ℕ) (value : TileValue) : Type 0 where
  pub tile_is : slice_get t.corners place ≡ Some value.tile
  pub row : ℕ
  pub col : ℕ
  pub row_inside : row < t.side
  pub col_inside : col < t.side
  pub row_is : cell.row ≡ top_of t value.tile + row
  pub col_is : cell.col ≡ left_of t value.tile + col
  pub look : L
  pub shown : shows look place (2 * (row * t.side + col)) value.metres
  pub no_void : value.metres ≢ VOID

-- two tiles have different heights at the cell, the first in the list before the other
pub record AreTwoHeights {L : Type 0} (shows : L → ℕ → ℕ → ℤ → Type 0) (t : Tiling) (cell : Cell) (first other : TileValue) : Type 0 where
  pub place : ℕ
  pub place_of_other : ℕ
  pub earlier : place < place_of_other
  pub here : IsHeightAt shows t cell place first
  pub there : IsHeightAt shows t cell place_of_other other
  pub differ : first.metres ≢ other.metres

abbrev pub IsSeamDetail : {L : Type 0} → (L → ℕ → ℕ → ℤ → Type 0) → Tiling → Cell → RefusalDetail → Type 0
IsSeamDetail shows t cell (Seam first other) = AreTwoHeights shows t cell first other
IsSeamDetail shows t cell other = ⊥

-- the side
abbrev pub IsSideDetail : ℕ → RefusalDetail → Type 0
IsSideDetail side (Side found) = found ≡ side
IsSideDetail side other = ⊥

-- the name in this place
abbrev pub IsNameDetail : List (List ℕ) → ℕ → RefusalDetail → Type 0
IsNameDetail names place (Name name) = slice_get names place ≡ Some name.items
IsNameDetail names place other = ⊥

-- the kind of a product's numbers on heights of this kind: con's are heights, all others whole numbers
abbrev pub kind_given : HeightKind → Product → HeightKind
kind_given kind product.Con = kind
kind_given kind product.Dir = Whole
kind_given kind product.Acc = Whole
kind_given kind product.Bas = Whole
kind_given kind product.Rnk = Whole
kind_given kind product.Spl = Whole

-- these rows and columns, and those of the product's header
abbrev pub IsShapeDetail : HeightKind → Extent → Product → List ℕ → RefusalDetail → Type 0
IsShapeDetail kind e product text (Shape of expected found) =
    (of ≡ product) × (expected.rows ≡ e.rows) × (expected.cols ≡ e.cols)
    × ((h : Fields) × AnswersOf (kind_given kind product) text (Ok h) × (found.rows ≡ h.rows) × (found.cols ≡ h.cols))
IsShapeDetail kind e product text other = ⊥

-- the place that a raster of the mosaic has
abbrev pub place_for : Tiling → Place
place_for t = record { ulx = west_edge t; uly = north_edge t; xdim = spacing_of t; ydim = spacing_of t }

-- this place, and that of the product's header
abbrev pub IsPositionDetail : HeightKind → Place → Product → List ℕ → RefusalDetail → Type 0
IsPositionDetail kind place product text (Position of expected found) =
    (of ≡ product) × (expected ≡ place) × ((h : Fields) × AnswersOf (kind_given kind product) text (Ok h) × (found ≡ h.place))
IsPositionDetail kind place product text other = ⊥

-- the length of a tile
abbrev pub IsTileLengthDetail : Tiling → Corner → RefusalDetail → Type 0
IsTileLengthDetail t tile (TileLength of expected found) = (of ≡ tile) × (expected ≡ tile_length t.side)
IsTileLengthDetail t tile other = ⊥

-- this many bytes a raster of numbers of this kind needs by its header
abbrev pub AreNeededBytes : HeightKind → List ℕ → ℕ → Type 0
AreNeededBytes kind text bytes = (h : Fields) × AnswersOf kind text (Ok h) × (bytes ≡ needed_len h)

-- the length that a raster needs by its header
abbrev pub IsRasterLengthDetail : HeightKind → Product → List ℕ → RefusalDetail → Type 0
IsRasterLengthDetail kind product text (RasterLength of expected found) = (of ≡ product) × AreNeededBytes (kind_given kind product) text expected
IsRasterLengthDetail kind product text other = ⊥

-- the header that was handed in of a product, empty for one that no set has
abbrev pub text_given : (SetProduct → List ℕ) → Product → List ℕ
text_given texts product.Con = texts held.Con
text_given texts product.Dir = texts held.Dir
text_given texts product.Acc = texts held.Acc
text_given texts product.Bas = texts held.Bas
text_given texts product.Rnk = texts held.Rnk
text_given texts product.Spl = []

-- the details of each refusal of products and of what is given, on a grid of heights of this kind, of this size and place
abbrev pub IsSetDetail : HeightKind → Extent → Place → (SetProduct → List ℕ) → Given → Refusal → RefusalDetail → Type 0
IsSetDetail kind e place texts given (refusal.WrongShape p) detail = IsShapeDetail kind e p (text_given texts p) detail
IsSetDetail kind e place texts given (refusal.Misplaced p) detail = IsPositionDetail kind place p (text_given texts p) detail
IsSetDetail kind e place texts given (refusal.RasterShort p) detail = IsRasterLengthDetail kind p (text_given texts p) detail
IsSetDetail kind e place texts given (refusal.BadSinkLine number) detail = IsLineDetail given.sinks number detail
IsSetDetail kind e place texts given (refusal.SinkNotData number) detail = IsCellDetail e given.sinks number detail
IsSetDetail kind e place texts given (refusal.BadSpacingLine number) detail = IsSpacingLineDetail given.spacing number detail
IsSetDetail kind e place texts given (refusal.SpacingRows rows) detail = IsSpacingRowsDetail e rows detail
IsSetDetail kind e place texts given other detail = ⊥

-- of the mosaic of tiles with these names, whose heights are whole numbers
abbrev pub OfMosaic : ℕ → List (List ℕ) → (Tiling → Type 0) → Type 0
OfMosaic side names P = (t : Tiling) × IsLayoutOf side names t × P t

-- the details of each refusal, of a second look, a side, the names of tiles, the headers of products and what is given
abbrev pub IsDetailOf : {L : Type 0} → (L → ℕ → ℕ → ℤ → Type 0) → ℕ → List (List ℕ) → (SetProduct → List ℕ) → Given → Refusal → RefusalDetail → Type 0
IsDetailOf shows side names texts given refusal.BadSide detail = IsSideDetail side detail
IsDetailOf shows side names texts given (refusal.BadName place) detail = IsNameDetail names place detail
IsDetailOf shows side names texts given (refusal.BadTileLength tile) detail = OfMosaic side names (λ t. IsTileLengthDetail t tile detail)
IsDetailOf shows side names texts given (refusal.SeamMismatch cell) detail = OfMosaic side names (λ t. IsSeamDetail shows t cell detail)
IsDetailOf shows side names texts given other detail = OfMosaic side names (λ t. IsSetDetail Whole (extent_of t) (place_for t) texts given other detail)

-- What an explanation reports of a refused raster of elevations.

-- the sizes of a pixel by the raster's header, of the kind of heights that it says
abbrev pub IsPixelSizeDetail : List ℕ → RefusalDetail → Type 0
IsPixelSizeDetail text (PixelSize xdim ydim) = (h : Fields) × AnswersOf (kind_of text) text (Ok h) × (xdim ≡ h.place.xdim) × (ydim ≡ h.place.ydim)
IsPixelSizeDetail text other = ⊥

-- the length that the raster needs by its header
abbrev pub IsDemLengthDetail : List ℕ → RefusalDetail → Type 0
IsDemLengthDetail text (DemLength expected found) = AreNeededBytes (kind_of text) text expected
IsDemLengthDetail text other = ⊥

-- con's header says another kind of numbers than these heights are
abbrev pub IsKindDetail : HeightKind → Product → List ℕ → RefusalDetail → Type 0
IsKindDetail kind p text (Kind expected found) = (p ≡ product.Con) × (expected ≡ kind) × (found ≡ kind_of text) × (found ≢ kind)
IsKindDetail kind p text other = ⊥

-- of the raster with this header
abbrev pub OfDem : List ℕ → (Fields → Type 0) → Type 0
OfDem text P = (h : Fields) × IsDemHeader h text × P h

-- the details of each refusal, of the raster's header, the headers of products and what is given
abbrev pub IsDemDetailOf : List ℕ → (SetProduct → List ℕ) → Given → Refusal → RefusalDetail → Type 0
IsDemDetailOf text texts given refusal.BadPixelSize detail = IsPixelSizeDetail text detail
IsDemDetailOf text texts given refusal.DemShort detail = IsDemLengthDetail text detail
IsDemDetailOf text texts given (refusal.BadHeader p fault) detail = OfDem text (λ h. IsKindDetail h.kind p (text_given texts p) detail)
IsDemDetailOf text texts given other detail = OfDem text (λ h. IsSetDetail h.kind (header_extent h) h.place texts given other detail)

-- so of the header of one raster
abbrev pub IsDetailOfDem : {R : Type 0} → List (RasterInput R) → (SetProduct → List ℕ) → Given → Refusal → RefusalDetail → Type 0
IsDetailOfDem (dem ∷ []) texts given refusal detail = IsDemDetailOf dem.header texts given refusal detail
IsDetailOfDem inputs texts given refusal detail = ⊥
