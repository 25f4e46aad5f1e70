-- What a window shows along its seams, as rows of the grid come.
use Rattle.std.specs.Prelude.{◌≡◌, ◌+◌, ◌<◌, ◌≤◌, ◌↔◌, ◌⊎◌}
use Rattle.drain_window.specs.Names.{ℕ, List, Contains, Cell, MAX_LENGTH, Grid, Products, values_at, AreRowPatches, place, Place, SEAM_DEPTH, Shown, IsOnSeam, in_union, moved}
use Rattle.drain_grid.specs.declared.patch.Patch.{Patch}

-- its box ends within the greatest rows and columns of a grid
pub record EndsInRange (p : Place) : Type 0 where
  pub rows : p.top + p.extent.rows ≤ MAX_LENGTH
  pub cols : p.left + p.extent.cols ≤ MAX_LENGTH

-- what the grid shows at a cell of the box, with its cell of the union
pub record IsShownAt (origin : Cell) (p : Place) (g : Grid) (ps : Products) (c : Cell) (x : Shown) : Type 0 where
  pub cell : x.cell ≡ in_union (moved origin p) c
  pub values : x.values ≡ values_at g ps (in_union p c)

-- a cell of a seam in a row of the box, before a column
pub record IsSeamBefore (origin : Cell) (p : Place) (g : Grid) (ps : Products) (row end : ℕ) (x : Shown) : Type 0 where
  pub col : ℕ
  pub to : col < end
  pub on_seam : IsOnSeam SEAM_DEPTH p (place row col)
  pub shown : IsShownAt origin p g ps (place row col) x

-- a list with what is shown at those cells more
abbrev pub AddsSeams : Cell → Place → Grid → Products → ℕ → ℕ → List Shown → List Shown → Type 0
AddsSeams origin p g ps row end old new = (x : Shown) → Contains new x ↔ (Contains old x ⊎ IsSeamBefore origin p g ps row end x)

-- this holds of each grid that is wide enough for the box, and where these are the patches of a row of the box
abbrev pub OfSeamRow : Place → ℕ → ℕ → (ℕ → Patch) → (Grid → Products → Type 0) → Type 0
OfSeamRow p row cols shown P =
    (g : Grid) (ps : Products) → AreRowPatches g ps (p.top + row) cols shown → p.left + p.extent.cols ≤ g.extent.cols → P g ps

-- a cell of a seam, in a row above a row of the grid
pub record IsSeamAbove (p : Place) (row : ℕ) (c : Cell) : Type 0 where
  pub on_seam : IsOnSeam SEAM_DEPTH p c
  pub above : p.top + c.row < row

-- the list holds what is shown at the cells of the seams above a row of the grid, and nothing else
abbrev pub ListsSeamsAbove : Cell → Place → Grid → Products → ℕ → List Shown → Type 0
ListsSeamsAbove origin p g ps row xs = (x : Shown) → Contains xs x ↔ ((c : Cell) × IsSeamAbove p row c × IsShownAt origin p g ps c x)
