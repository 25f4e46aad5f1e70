-- Windows: boxes cut out of one union of any size, each a grid of its own. On a side where the union goes on, the
-- outermost row or column of a window is its ring: it is looked at, and not judged.
-- Source: tiles of a raster that is too large for memory, with a ring of cells from their neighbors (Barnes 2016);
-- which cells are judged is this project's own.
use Rattle.std.specs.Prelude.{◌≡◌, ◌+◌, ◌-◌, ◌<◌, ◌≤◌, ◌^◌, ◌⊎◌, if◌then◌else◌}
use Rattle.drain_union.specs.Names.{ℕ, pos, IsTrue, List, Bool, Contains, Cell, MAX_LENGTH, Rule, Extent, IsCellOf, NoDataNumbers, Grid, Products, IsInside, HasData, values_at, IsPatchRule, unranked, HoldsAt, IsEarlierPair}
use Rattle.drain_union.specs.declared.place.Place.{Place}

-- the union's cell that is the place's cell c
abbrev pub in_union : Place → Cell → Cell
in_union p c = record { row = p.top + c.row; col = p.left + c.col }

-- the same place, where the grid begins at this cell of a larger one
abbrev pub moved : Cell → Place → Place
moved by p = record { top = by.row + p.top; left = by.col + p.left; extent = p.extent; inner = p.inner }

-- a cell, a place and a window of a map, where rows and columns count from this cell of it
abbrev pub cell_from : Cell → Cell → Cell
cell_from origin c = record { row = c.row - origin.row; col = c.col - origin.col }

abbrev pub place_from : Cell → Place → Place
place_from origin p = record { top = p.top - origin.row; left = p.left - origin.col; extent = p.extent; inner = p.inner }

-- the place doesn't begin before this cell
pub record IsFrom (origin : Cell) (p : Place) : Type 0 where
  pub rows : origin.row ≤ p.top
  pub cols : origin.col ≤ p.left

-- each cell of a grid that begins at this cell of the union has a row and a column of 32 bits there
pub record IsOrigin (origin : Cell) : Type 0 where
  pub rows : origin.row + MAX_LENGTH < 2 ^ 32
  pub cols : origin.col + MAX_LENGTH < 2 ^ 32

-- the place lies in a union of this size, and each side that isn't inner is the union's edge
pub record IsPlaceIn (e : Extent) (p : Place) : Type 0 where
  pub rows : p.top + p.extent.rows ≤ e.rows
  pub cols : p.left + p.extent.cols ≤ e.cols
  pub north : IsTrue p.inner.north ⊎ (p.top ≡ 0)
  pub south : IsTrue p.inner.south ⊎ (p.top + p.extent.rows ≡ e.rows)
  pub west : IsTrue p.inner.west ⊎ (p.left ≡ 0)
  pub east : IsTrue p.inner.east ⊎ (p.left + p.extent.cols ≡ e.cols)

-- a cell of the place that isn't on the ring of an inner side
pub record IsJudgedIn (p : Place) (c : Cell) : Type 0 where
  pub inside : IsCellOf p.extent c
  pub north : IsTrue p.inner.north → 0 < c.row
  pub south : IsTrue p.inner.south → c.row + 1 < p.extent.rows
  pub west : IsTrue p.inner.west → 0 < c.col
  pub east : IsTrue p.inner.east → c.col + 1 < p.extent.cols

-- a window: what its inputs say, and where it lies
pub record Window : Type 0 where
  pub place : Place
  pub grid : Grid
  pub products : Products

-- the window shows the union at its place, cell by cell, and its rows are spaced as the union's
pub record IsWindowOf (u : Grid) (ps : Products) (w : Window) : Type 0 where
  pub placed : IsPlaceIn u.extent w.place
  pub extent : w.grid.extent ≡ w.place.extent
  pub values : (c : Cell) → IsInside w.grid c → values_at w.grid w.products c ≡ values_at u ps (in_union w.place c)
  pub spacings : (c : Cell) → IsInside w.grid c → w.grid.spacing c.row ≡ u.spacing (w.place.top + c.row)

abbrev pub window_from : Cell → Window → Window
window_from origin w = record { place = place_from origin w.place; grid = w.grid; products = w.products }

-- each cell of a union of this size is judged in some window
abbrev pub IsJudgedInSome : List Window → Cell → Type 0
IsJudgedInSome windows c = (w : Window) × Contains windows w × ((x : Cell) × IsJudgedIn w.place x × (in_union w.place x ≡ c))

abbrev pub JudgeAll : Extent → List Window → Type 0
JudgeAll e windows = (c : Cell) → IsCellOf e c → IsJudgedInSome windows c

-- every rule that needs no ranks, but the one on shared labels, holds at every judged cell
abbrev pub RulesHoldInside : NoDataNumbers → Window → Type 0
RulesHoldInside nodata w =
    (c : Cell) (r : Rule) → IsJudgedIn w.place c → IsPatchRule r → HoldsAt (unranked nodata) w.grid w.products c r

-- a judged data cell with code 0
pub record IsJudgedOutlet (w : Window) (c : Cell) : Type 0 where
  pub judged : IsJudgedIn w.place c
  pub has_data : HasData w.grid c
  pub code : w.products.dir c ≡ pos 0

-- outlets with one label are one cell of the union, in whichever windows they are judged
abbrev pub NoLabelIsShared : List Window → Type 0
NoLabelIsShared windows =
    (v w : Window) → Contains windows v → Contains windows w → (a b : Cell) → IsJudgedOutlet v a → IsJudgedOutlet w b →
    v.products.bas a ≡ w.products.bas b → in_union v.place a ≡ in_union w.place b

-- each lies in a union of this size, and its grid has the size of its place
abbrev pub AreLaidIn : Extent → List Window → Type 0
AreLaidIn e windows = (w : Window) → Contains windows w → IsPlaceIn e w.place × (w.grid.extent ≡ w.place.extent)

-- where two windows overlap they show the same
abbrev pub OverlapsAgree : List Window → Type 0
OverlapsAgree windows =
    (v w : Window) → Contains windows v → Contains windows w → (a b : Cell) → IsInside v.grid a → IsInside w.grid b →
    in_union v.place a ≡ in_union w.place b → values_at v.grid v.products a ≡ values_at w.grid w.products b

-- where two windows have a row in common, in whichever columns, its cells are as far apart in both
abbrev pub SpacingsAgree : List Window → Type 0
SpacingsAgree windows =
    (v w : Window) → Contains windows v → Contains windows w → (a b : Cell) → IsInside v.grid a → IsInside w.grid b →
    v.place.top + a.row ≡ w.place.top + b.row → v.grid.spacing a.row ≡ w.grid.spacing b.row

-- all of them are windows of this union and its products
abbrev pub AreWindowsOf : Grid → Products → List Window → Type 0
AreWindowsOf u ps windows = (w : Window) → Contains windows w → IsWindowOf u ps w

-- all of them are windows of a map, on which this union begins at this cell
abbrev pub AreWindowsFrom : Cell → Grid → Products → List Window → Type 0
AreWindowsFrom origin u ps windows = (w : Window) → Contains windows w → IsFrom origin w.place × IsWindowOf u ps (window_from origin w)

-- a cell that is judged at some place
abbrev pub IsJudgedAtSome : List Place → Cell → Type 0
IsJudgedAtSome places c = (p : Place) × Contains places p × ((x : Cell) × IsJudgedIn p x × (in_union p x ≡ c))

-- the first row that the place judges, and the first column
abbrev pub judged_top : Place → ℕ
judged_top p = p.top + (if p.inner.north then 1 else 0)

abbrev pub judged_left : Place → ℕ
judged_left p = p.left + (if p.inner.west then 1 else 0)

-- one more than the last row that the place judges, and the last column
abbrev pub judged_bottom : Place → ℕ
judged_bottom p = p.top + p.extent.rows - (if p.inner.south then 1 else 0)

abbrev pub judged_right : Place → ℕ
judged_right p = p.left + p.extent.cols - (if p.inner.east then 1 else 0)

-- the first row, or one on which the judged rows of some place end; and the same of columns
abbrev pub IsCornerRow : List Place → ℕ → Type 0
IsCornerRow places row = (row ≡ 0) ⊎ ((p : Place) × Contains places p × (row ≡ judged_bottom p))

abbrev pub IsCornerCol : List Place → ℕ → Type 0
IsCornerCol places col = (col ≡ 0) ⊎ ((p : Place) × Contains places p × (col ≡ judged_right p))

-- the first pair of a judged cell and a rule of a patch that fails
pub record IsFirstInside (nodata : NoDataNumbers) (w : Window) (c : Cell) (r : Rule) : Type 0 where
  pub judged : IsJudgedIn w.place c
  pub is_own : IsPatchRule r
  pub fails : ¬ HoldsAt (unranked nodata) w.grid w.products c r
  pub first : (b : Cell) (q : Rule) → IsJudgedIn w.place b → IsPatchRule q → IsEarlierPair b q c r → HoldsAt (unranked nodata) w.grid w.products b q

-- the window has a first fault, which doesn't stand before this cell of the union with this rule
abbrev pub IsNotBefore : NoDataNumbers → Window → Cell → Rule → Type 0
IsNotBefore nodata w c r =
    (b : Cell) × (q : Rule) × IsFirstInside nodata w b q × ¬ IsEarlierPair (in_union w.place b) q c r

-- A box of a grid as a window of it. Source: this project's own.

-- the elevations and sinks of the box, and how far apart its cells are, as a grid of its own
abbrev pub cut_grid : Place → Grid → Grid
cut_grid p g = record {
  extent = p.extent;
  elevation = λ c. g.elevation (in_union p c);
  sink = λ c. g.sink (in_union p c);
  spacing = λ row. g.spacing (p.top + row);
}

-- and its products
abbrev pub cut_products : Place → Products → Products
cut_products p ps = record {
  con = λ c. ps.con (in_union p c);
  dir = λ c. ps.dir (in_union p c);
  acc = λ c. ps.acc (in_union p c);
  bas = λ c. ps.bas (in_union p c);
  spl = λ c. ps.spl (in_union p c);
  rnk = λ c. ps.rnk (in_union p c);
}

-- the window that the box is, where the grid begins at this cell of the union
abbrev pub window_at : Cell → Place → Grid → Products → Window
window_at origin p g ps = record { place = moved origin p; grid = cut_grid p g; products = cut_products p ps }

-- a box of a grid is a window of it
abbrev pub CutIsWindow : Type 0
CutIsWindow =
    (p : Place) (g : Grid) (ps : Products) → IsPlaceIn g.extent p → IsWindowOf g ps (record { place = p; grid = cut_grid p g; products = cut_products p ps })

-- Which cells of a union a window judges. These definitions are this project's own.

-- this row is one of so many rows from the first on, and not the outermost one on an inner side; columns likewise
pub record IsJudgedAlong (first count : ℕ) (inner_before inner_behind : Bool) (at : ℕ) : Type 0 where
  pub from : first ≤ at
  pub below : at < first + count
  pub before : IsTrue inner_before → first < at
  pub behind : IsTrue inner_behind → at + 1 < first + count

-- the cell of the union is judged at this place
abbrev pub IsJudgedAt : Place → Cell → Type 0
IsJudgedAt p c = (x : Cell) × IsJudgedIn p x × (in_union p x ≡ c)

-- the place judges a cell
abbrev pub JudgesSome : Place → Type 0
JudgesSome p = (c : Cell) × IsJudgedIn p c

-- a cell of the union is judged at both places
abbrev pub BothJudgeOne : Place → Place → Type 0
BothJudgeOne p q = (c : Cell) × IsJudgedAt p c × IsJudgedAt q c
