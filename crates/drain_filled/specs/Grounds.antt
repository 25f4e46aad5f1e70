-- Which cells of a grid have data, in memory; and the grid that it is with a number at each of them.
use Rattle.std.specs.Prelude.{◌≡◌, ◌≢◌, ◌==◌, if◌then◌else◌}
use Rattle.drain_filled.specs.Names.{ℕ, ℤ, pos, List, Option, Some, None, IsNone, slice_index_or, Cell, Direction, SinkLine, Extent, index_of, step, Grid, HasData, IsInside, height_at, is_listed, IsPixel, UNREACHED}
use Rattle.drain_grid.specs.Spacing.{unit_spacing}

-- a mark for each cell, in row order: that of an unreached cell where there is data, another at voids
pub record DataCells : Type 0 where
  pub extent : Extent
  pub marks : List ℕ

-- the mark of a cell
abbrev pub data_mark : DataCells → Cell → ℕ
data_mark w c = slice_index_or w.marks (index_of w.extent c) 0

-- the elevation of a cell whose number is in a list, none at a void
abbrev pub listed_elevation : DataCells → List ℤ → Cell → Option ℤ
listed_elevation w numbers c =
    if data_mark w c == UNREACHED then Some (slice_index_or numbers (index_of w.extent c) (pos 0)) else None

-- the grid with these elevations, whose sinks the lines list; how far apart its cells are plays no part in a surface
abbrev pub listed_grid : DataCells → List ℤ → List SinkLine → Grid
listed_grid w numbers sinks = record { extent = w.extent; elevation = listed_elevation w numbers; sink = is_listed sinks; spacing = λ row. unit_spacing }

-- there is no data in this direction: around the grid, or at a void
abbrev pub IsGapBeside : DataCells → Cell → Direction → Type 0
IsGapBeside w c d = (n : Cell) → step w.extent c d ≡ Some n → data_mark w n ≡ UNREACHED → ⊥

-- a grid has data at these cells and no others, and these sinks
pub record HasDataCells (g : Grid) (w : DataCells) (sinks : List SinkLine) : Type 0 where
  pub extent : g.extent ≡ w.extent
  pub has_data : (c : Cell) → HasData g c → data_mark w c ≡ UNREACHED
  pub void : (c : Cell) → IsInside g c → IsNone (g.elevation c) → data_mark w c ≡ UNREACHED → ⊥
  pub sink : (c : Cell) → IsInside g c → g.sink c ≡ is_listed sinks c

-- each elevation is a number that some pixel encodes
abbrev pub ArePixelHeights : Grid → Type 0
ArePixelHeights g = (c : Cell) → HasData g c → IsPixel (height_at g c)

-- a height of a cell with this mark became another: it stays where there is data if it is a pixel's number, and is the number
-- of a void elsewhere
pub record IsVoided (void : ℤ) (mark : ℕ) (old new : ℤ) : Type 0 where
  pub pixel : IsPixel new
  pub at_void : mark ≢ UNREACHED → new ≡ void
  pub same : mark ≡ UNREACHED → IsPixel old → new ≡ old
