-- Numbers of cells, in row order.
use Rattle.std.specs.Prelude.{◌≡◌, ◌≢◌, ◌≤◌, ◌*◌}
use Rattle.drain_paths.specs.Names.{ℕ, List, map, length, slice_index_or, pos, IsNone, Cell, IsCellOf, index_of, Extent, MAX_LENGTH, Grid, Products, IsInside, HasData, RunEnds}
use Rattle.drain_paths.specs.declared.flow.Flow.{Flow}
use Rattle.drain_paths.specs.declared.flow.Flow.TheVariants.{Void}
use Rattle.drain_grid.proofs.Walks.{IsWalk}
use Rattle.drain_paths.specs.Flows.{AllFlowsEnd}

-- the number of a cell; 0 past the last
abbrev pub cell_number : Extent → List ℕ → Cell → ℕ
cell_number e numbers c = slice_index_or numbers (index_of e c) 0

-- the numbers after a write of this number at the cell
pub record IsPutAt (e : Extent) (before after : List ℕ) (c : Cell) (number : ℕ) : Type 0 where
  pub counted : length after ≡ length before
  pub there : cell_number e after c ≡ number
  pub elsewhere : (d : Cell) → IsCellOf e d → d ≢ c → cell_number e after d ≡ cell_number e before d

-- 1 for a data cell, 0 for a void
abbrev pub one_of : Flow → ℕ
one_of Void = 0
one_of f = 1

-- the same for each flow
abbrev pub ones_of : List Flow → List ℕ
ones_of flows = map one_of flows

-- Numbers along paths: what is known while walks find them, and once all are known.

-- a number for each cell whose run ends
abbrev pub Numbering : Type 0
Numbering = Grid → Products → Cell → ℕ

-- the run of the data cell ends, and this is its number
pub record IsNumbered (g : Grid) (ps : Products) (number_of : Numbering) (c : Cell) (number : ℕ) : Type 0 where
  pub here : HasData g c
  pub ends : RunEnds g ps c
  pub is : number ≡ number_of g ps c

-- in each grid, where this many steps lead from a data cell to one with this number, the other number is that of the data
-- cell, and isn't the one that means none
abbrev pub IsNumberBehind : ℕ → Numbering → ℕ → ℕ → ℕ → Type 0
IsNumberBehind unknown number_of number steps behind =
    (g : Grid) → (ps : Products) → (c d : Cell) → g.extent.rows * g.extent.cols ≤ MAX_LENGTH * MAX_LENGTH → IsWalk g ps steps c d →
    HasData g c → IsNumbered g ps number_of d number → (behind ≢ unknown) × (behind ≡ number_of g ps c)

-- each known number is right, and the numbers of the outlets are known
pub record AreNumbersSoFar (g : Grid) (ps : Products) (e : Extent) (unknown : ℕ) (number_of : Numbering) (numbers : List ℕ) : Type 0 where
  pub extent : g.extent ≡ e
  pub right : (c : Cell) → IsInside g c → cell_number e numbers c ≢ unknown → IsNumbered g ps number_of c (cell_number e numbers c)
  pub outlets : (c : Cell) → HasData g c → ps.dir c ≡ pos 0 → cell_number e numbers c ≢ unknown

-- every run ends; each data cell has its number, which isn't the one that means none, and each void has that one
pub record AreNumbers (g : Grid) (ps : Products) (e : Extent) (unknown : ℕ) (number_of : Numbering) (numbers : List ℕ) : Type 0 where
  pub extent : g.extent ≡ e
  pub ends : AllFlowsEnd g ps
  pub numbers_are : (c : Cell) → HasData g c → cell_number e numbers c ≡ number_of g ps c
  pub some : (c : Cell) → HasData g c → cell_number e numbers c ≢ unknown
  pub voids : (c : Cell) → IsInside g c → IsNone (g.elevation c) → cell_number e numbers c ≡ unknown
