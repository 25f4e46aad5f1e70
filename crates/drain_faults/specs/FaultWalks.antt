-- What a walk over rows of patches has found, for any grid whose rows they are.
use Rattle.std.specs.Prelude.{◌≡◌, ◌++◌}
use Rattle.drain_faults.specs.Names.{ℕ, pos, IsTrue, List, Cell, Rules, Patch, Grid, Products, HasData, SharedLabelHolds, has_bas, CountsAbove, cells_above, AreLabelsBefore, AreRowPatches, place}
use Rattle.drain_grid.specs.Extent.{row_cells}
use Rattle.drain_faults.specs.declared.fault_walk.FaultWalk.{FaultWalk}
use Rattle.drain_faults.specs.declared.row_faults.FaultTally.{FaultTally}
use Rattle.drain_faults.specs.ByProduct.{AreFaultsByProduct}
use Rattle.drain_faults.specs.Faults.{AreFaultsOf, IsFirstPatch}

-- the cells before a place in row order
abbrev pub cells_before : Grid → ℕ → ℕ → List Cell
cells_before g row col = cells_above g row ++ row_cells col row

-- of a list's cells, and the cell after them: each rule's faults and each product's, the first cell with a fault, and
-- the labels of the outlets before that cell where labels are judged
pub record IsFound (rules : Rules) (g : Grid) (ps : Products) (cs : List Cell) (next : Cell) (found : FaultTally) : Type 0 where
  pub faults : AreFaultsOf rules g ps cs found.by_rule
  pub by_product : AreFaultsByProduct rules g ps cs found.by_product
  pub first_patch : IsFirstPatch rules g ps cs found.first
  pub before : IsTrue (has_bas rules.judged) → AreLabelsBefore g ps next found.labels

-- of the cells before a place
abbrev pub IsFoundBefore : Rules → Grid → Products → ℕ → ℕ → FaultTally → Type 0
IsFoundBefore rules g ps row col found = IsFound rules g ps (cells_before g row col) (place row col) found

-- of the rows above a row
abbrev pub IsFoundAbove : Rules → Grid → Products → ℕ → FaultTally → Type 0
IsFoundAbove rules g ps row found = IsFound rules g ps (cells_above g row) (place row 0) found

-- the cell is a data cell with code 0, and no earlier one has its label
pub record IsNewOutletAt (g : Grid) (ps : Products) (c : Cell) : Type 0 where
  pub has_data : HasData g c
  pub code : ps.dir c ≡ pos 0
  pub is_new : SharedLabelHolds g ps c

-- there is such a cell
abbrev pub HasNewOutlet : Grid → Products → Type 0
HasNewOutlet g ps = (c : Cell) × IsNewOutletAt g ps c

-- this holds of each grid of which these are the row's patches, where this was found above it
abbrev pub OfRowFound : Rules → ℕ → ℕ → (ℕ → Patch) → FaultTally → (Grid → Products → Type 0) → Type 0
OfRowFound rules row cols shown found P =
    (g : Grid) (ps : Products) → AreRowPatches g ps row cols shown → IsFoundAbove rules g ps row found → P g ps

-- this holds of each grid of which these are the row's patches
abbrev pub OfRowPatches : ℕ → ℕ → (ℕ → Patch) → (Grid → Products → Type 0) → Type 0
OfRowPatches row cols shown P = (g : Grid) (ps : Products) → AreRowPatches g ps row cols shown → P g ps

-- the walk is right of a grid and its products
abbrev pub IsRightTally : Rules → Grid → Products → FaultWalk → Type 0
IsRightTally rules g ps w = IsFoundAbove rules g ps w.rows w.found

-- this holds of each grid of which the walk is right, where these are the patches of its next row
abbrev pub OfNextFaultRow : Rules → FaultWalk → ℕ → (ℕ → Patch) → (Grid → Products → Type 0) → Type 0
OfNextFaultRow rules w cols shown P = OfRowFound rules w.rows cols shown w.found P

-- its counts are those of the rows that were scanned
abbrev pub IsCountedOf : Grid → Products → FaultWalk → Type 0
IsCountedOf g ps w = CountsAbove g ps w.rows w.tally

-- this holds of each grid of which that is so, where these are the patches of its next row
abbrev pub OfNextRowCounted : FaultWalk → ℕ → (ℕ → Patch) → (Grid → Products → Type 0) → Type 0
OfNextRowCounted w cols shown P = OfRowPatches w.rows cols shown (λ g ps. IsCountedOf g ps w → P g ps)
