-- The facts of a report as numbers, each kind on lines of its own. The order of the numbers is this project's own.
use Rattle.std.specs.Prelude.{◌≡◌, ◌<◌, ◌^◌, ◌∷◌, ◌++◌, if◌then◌else◌}
use Rattle.drain_report.specs.Names.{ℕ, ℤ, pos, Bool, Option, Some, None, List, [], codes, signed_decimal, Distances, Values, AreInRange, NoDataNumbers, IsNoData, UnionGrid, rule_number, FitsNumbers, UnionVerdict, Corner, name_of}
use Rattle.drain_grid.specs.declared.cell.Cell.{Cell}
use Rattle.drain_grid.specs.declared.height_kind.HeightKind.{HeightKind}
use Rattle.drain_grid.specs.declared.height_kind.HeightKind.TheVariants.{Whole, Single}
use Rattle.drain_union.specs.declared.report.Outlet.{Outlet}
use Rattle.drain_union.specs.declared.report.Shown.{Shown}
use Rattle.drain_union.specs.declared.place.Place.{Place}
use Rattle.drain_union.specs.declared.place.InnerSides.{InnerSides}
use Rattle.drain_union.specs.declared.union_grid.Decimal.{Decimal}
use Rattle.drain_union.specs.declared.union_grid.DemPart.{DemPart}
use Rattle.drain_union.specs.declared.union_grid.UnionGrid.TheVariants.{Tiles, Dem}
use Rattle.drain_union.specs.SeamValues.{AreOfSeam}
use Rattle.drain_union.specs.declared.verdict.Fault.{Fault}
use Rattle.drain_union.specs.declared.verdict.UnionCounts.{UnionCounts}
use Rattle.drain_union.specs.declared.verdict.UnionVerdict.TheVariants.{Accepted, Rejected}
use Rattle.drain_report.specs.Lines.{IsLong, line, spaced}

-- a row and a column of 32 bits
pub record IsNarrow (c : Cell) : Type 0 where
  pub row : c.row < 2 ^ 32
  pub col : c.col < 2 ^ 32

-- outlet LABEL ROW COL
abbrev pub outlet_numbers : Outlet → List ℤ
outlet_numbers o = o.label ∷ pos o.cell.row ∷ pos o.cell.col ∷ []

abbrev pub outlet_line : Outlet → List ℕ
outlet_line o = line (codes "outlet") (outlet_numbers o)

-- ROW COL
abbrev pub cell_numbers : Cell → List ℤ
cell_numbers c = pos c.row ∷ pos c.col ∷ []

-- sink ROW COL
abbrev pub sink_line : Cell → List ℕ
sink_line c = line (codes "sink") (cell_numbers c)

-- spacing WIDTH HEIGHT, and of floats a word behind them
abbrev pub spacing_numbers : Distances → List ℤ
spacing_numbers s = pos s.width ∷ pos s.height ∷ []

-- how the line ends
abbrev pub kind_end : HeightKind → List ℕ
kind_end Whole = 10 ∷ []
kind_end Single = codes " single\n"

abbrev pub spacing_text : List ℤ → HeightKind → List ℕ
spacing_text numbers kind = codes "spacing" ++ (spaced numbers ++ kind_end kind)

abbrev pub spacing_line : Distances → List ℕ
spacing_line s = spacing_text (spacing_numbers s) s.kind

pub record IsOutlet (o : Outlet) : Type 0 where
  pub label : IsLong o.label
  pub cell : IsNarrow o.cell

abbrev pub flag_number : Bool → ℤ
flag_number b = pos (if b then 1 else 0)

-- an elevation, a minus sign alone at a void
abbrev pub height_word : Option ℤ → List ℕ
height_word None = codes "-"
height_word (Some z) = signed_decimal z

-- a line of a cell's numbers, its elevation, and its other values
abbrev pub seam_text : List ℤ → Option ℤ → List ℤ → List ℕ
seam_text cell z others = codes "seam" ++ (spaced cell ++ 32 ∷ (height_word z ++ (spaced others ++ 10 ∷ [])))

-- SINK CON DIR ACC BAS
abbrev pub other_numbers : Values → List ℤ
other_numbers v = flag_number v.sink ∷ v.con ∷ v.dir ∷ v.acc ∷ v.bas ∷ []

-- seam ROW COL Z SINK CON DIR ACC BAS
abbrev pub shown_line : Shown → List ℕ
shown_line s = seam_text (cell_numbers s.cell) s.values.z (other_numbers s.values)

-- each number can be a pixel, and the values are an audit's
pub record AreShown (v : Values) : Type 0 where
  pub in_range : AreInRange v
  pub of_seam : AreOfSeam v

pub record IsShown (s : Shown) : Type 0 where
  pub cell : IsNarrow s.cell
  pub values : AreShown s.values

-- a line of one whole number
abbrev pub count_line : List ℕ → ℕ → List ℕ
count_line word n = line word (pos n ∷ [])

-- dem ROW COL, and the header's ULXMAP, ULYMAP, XDIM and YDIM, each as whole units and what is beyond them
abbrev pub part_numbers : DemPart → List ℤ
part_numbers d =
    pos d.at.row ∷ pos d.at.col ∷ d.ulx.units ∷ d.ulx.parts ∷ d.uly.units ∷ d.uly.parts ∷ d.xdim.units ∷ d.xdim.parts ∷ d.ydim.units ∷ d.ydim.parts ∷ []

abbrev pub part_line : DemPart → List ℕ
part_line d = line (codes "dem") (part_numbers d)

-- whole units, and what is beyond them, are signed numbers of 64 bits
pub record IsDecimal (d : Decimal) : Type 0 where
  pub units : IsLong d.units
  pub parts : IsLong d.parts

pub record IsPart (d : DemPart) : Type 0 where
  pub at : IsNarrow d.at
  pub ulx : IsDecimal d.ulx
  pub uly : IsDecimal d.uly
  pub xdim : IsDecimal d.xdim
  pub ydim : IsDecimal d.ydim

-- side N, or the line of a part of a raster
abbrev pub grid_line : UnionGrid → List ℕ
grid_line (Tiles side) = count_line (codes "side") side
grid_line (Dem part) = part_line part

abbrev pub GridFits : UnionGrid → Type 0
GridFits (Tiles side) = side < 2 ^ 32
GridFits (Dem part) = IsPart part

-- inner NORTH SOUTH WEST EAST, then window TOP LEFT ROWS COLS before them
abbrev pub side_numbers : InnerSides → List ℤ
side_numbers s = flag_number s.north ∷ flag_number s.south ∷ flag_number s.west ∷ flag_number s.east ∷ []

abbrev pub place_numbers : Place → List ℤ
place_numbers p = pos p.top ∷ pos p.left ∷ pos p.extent.rows ∷ pos p.extent.cols ∷ side_numbers p.inner

abbrev pub place_line : Place → List ℕ
place_line p = line (codes "window") (place_numbers p)

pub record IsPlace (p : Place) : Type 0 where
  pub top : p.top < 2 ^ 32
  pub left : p.left < 2 ^ 32
  pub extent : FitsNumbers p.extent

-- nodata CON DIR ACC BAS
abbrev pub nodata_numbers : NoDataNumbers → List ℤ
nodata_numbers n = n.con ∷ n.dir ∷ n.acc ∷ n.bas ∷ []

abbrev pub nodata_line : NoDataNumbers → List ℕ
nodata_line n = line (codes "nodata") (nodata_numbers n)

-- the four are in range, and the others are 0
pub record IsAuditNoData (n : NoDataNumbers) : Type 0 where
  pub con : IsNoData n.con
  pub dir : IsNoData n.dir
  pub acc : IsNoData n.acc
  pub bas : IsNoData n.bas
  pub spl : n.spl ≡ pos 0
  pub rnk : n.rnk ≡ pos 0

abbrev pub count_numbers : UnionCounts → List ℤ
count_numbers c = pos c.rows ∷ pos c.cols ∷ pos c.data_cells ∷ pos c.raised ∷ pos c.outlets ∷ []

-- rows and columns are numbers of 32 bits, and the others signed ones of 64 bits
pub record CountsFit (c : UnionCounts) : Type 0 where
  pub rows : c.rows < 2 ^ 32
  pub cols : c.cols < 2 ^ 32
  pub data_cells : c.data_cells < 2 ^ 63
  pub raised : c.raised < 2 ^ 63
  pub outlets : c.outlets < 2 ^ 63

abbrev pub fault_numbers : Fault → List ℤ
fault_numbers f = pos (rule_number f.rule) ∷ pos f.cell.row ∷ pos f.cell.col ∷ []

-- accepted ROWS COLS DATA RAISED OUTLETS, or rejected RULE ROW COL
abbrev pub verdict_line : UnionVerdict → List ℕ
verdict_line (Accepted c) = line (codes "accepted") (count_numbers c)
verdict_line (Rejected fault) = line (codes "rejected") (fault_numbers fault)

-- each number is in its range
abbrev pub VerdictFits : UnionVerdict → Type 0
VerdictFits (Accepted c) = CountsFit c
VerdictFits (Rejected fault) = IsNarrow fault.cell

-- tile NAME
abbrev pub tile_line : Corner → List ℕ
tile_line c = codes "tile " ++ (name_of c ++ 10 ∷ [])
