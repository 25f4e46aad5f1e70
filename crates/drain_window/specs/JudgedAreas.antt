-- The cells of a place that are judged, and how their outlets are listed. Source: this project's own.
use Rattle.std.specs.Prelude.{◌≡◌, ◌+◌, ◌-◌, if◌then◌else◌, ◌↔◌, ◌⊎◌, ◌<◌}
use Rattle.drain_window.specs.Names.{ℕ, Bool, pos, List, map, Some, slice_get, Contains, flat_map, range_with_len, Cell, IsEarlier, Grid, Products, HasData, Values, Area, HasCell, IsOutletByCode, place, Outlet, Place, IsJudgedAt}
use Rattle.drain_grid.specs.declared.sink_line.SinkLine.{SinkLine}

-- 1 for an inner side, where the ring lies
abbrev pub ring_of : Bool → ℕ
ring_of is_inner = if is_inner then 1 else 0

-- the cells of a place that are judged
abbrev pub judged_area : Place → Area
judged_area p = record {
  top = p.top + ring_of p.inner.north;
  bottom = p.top + p.extent.rows - ring_of p.inner.south;
  left = p.left + ring_of p.inner.west;
  right = p.left + p.extent.cols - ring_of p.inner.east;
}

-- the cells of an area, in row order
abbrev pub row_cells_of : Area → ℕ → List Cell
row_cells_of a row = map (place row) (range_with_len a.left (a.right - a.left))

abbrev pub cells_in : Area → List Cell
cells_in a = flat_map (row_cells_of a) (range_with_len a.top (a.bottom - a.top))

-- the cell of the union, where the grid's first cell is this cell of the union
abbrev pub cell_from : Cell → Cell → Cell
cell_from origin c = record { row = origin.row + c.row; col = origin.col + c.col }

-- a data cell with code 0, its label, and its cell of the union
pub record IsOutletAt (g : Grid) (ps : Products) (origin c : Cell) (x : Outlet) : Type 0 where
  pub has_data : HasData g c
  pub code : ps.dir c ≡ pos 0
  pub label : x.label ≡ ps.bas c
  pub cell : x.cell ≡ cell_from origin c

-- a cell of the area before this place in row order
pub record IsBefore (a : Area) (place c : Cell) : Type 0 where
  pub inside : HasCell a c
  pub earlier : IsEarlier c place

-- the list holds the outlets among those cells, and nothing else
abbrev pub AreListed : Area → Cell → Grid → Products → Cell → List Outlet → Type 0
AreListed a origin g ps place xs = (x : Outlet) → Contains xs x ↔ ((c : Cell) × IsBefore a place c × IsOutletAt g ps origin c x)

-- a cell with these values is an outlet by its code, and this is its label and its cell of the union
pub record IsOutletOf (v : Values) (cell : Cell) (x : Outlet) : Type 0 where
  pub outlet : IsOutletByCode v
  pub label : x.label ≡ v.bas
  pub cell_is : x.cell ≡ cell

-- a list with that outlet more, if it is one
abbrev pub Lists : Values → Cell → List Outlet → List Outlet → Type 0
Lists v cell old new = (x : Outlet) → Contains new x ↔ (Contains old x ⊎ IsOutletOf v cell x)

-- the list of the same area and union, with that outlet more
pub record AddsOutlet (v : Values) (cell : Cell) (a b : Area) (origin same : Cell) (old new : List Outlet) : Type 0 where
  pub area : b ≡ a
  pub origin_is : same ≡ origin
  pub lists : Lists v (cell_from origin cell) old new

-- The lines of a list of sinks that a window judges. Source: this project's own.

-- the union's cell that is this cell of a grid that begins at the union's cell `origin`
abbrev pub union_cell : Cell → Cell → Cell
union_cell origin c = record { row = origin.row + c.row; col = origin.col + c.col }

-- the list holds the union's cell of each of the first n lines whose cell is judged at the place, and nothing else
pub record AreLinesInside (origin : Cell) (p : Place) (lines : List SinkLine) (n : ℕ) (xs : List Cell) : Type 0 where
  pub sound : (x : Cell) → Contains xs x →
      (k : ℕ) × (k < n) × (s : SinkLine) × (slice_get lines k ≡ Some s) × IsJudgedAt p s.cell × (union_cell origin s.cell ≡ x)
  pub complete : (k : ℕ) (s : SinkLine) → k < n → slice_get lines k ≡ Some s → IsJudgedAt p s.cell → Contains xs (union_cell origin s.cell)
