-- The number of each cell on a map of faults. Source: this project's own.
use Rattle.std.specs.Prelude.{◌≡◌, ◌++◌, ◌∷◌}
use Rattle.drain_faults.specs.Names.{ℕ, Bool, true, false, is_some, List, [], Option, Some, None, IfSome, Cell, Rules, Patch, Rule, Grid, Products, rule_number, cells_above, AreRowPatches}
use Rattle.drain_faults.specs.declared.fault_map.FaultMap.{FaultMap}
use Rattle.drain_faults.specs.declared.fault_map.TheConstants.{SOUND, SOUND_VOID}
use Rattle.drain_faults.specs.declared.fault_walk.FaultWalk.{FaultWalk}
use Rattle.drain_faults.specs.declared.row_faults.FaultTally.{FaultTally}
use Rattle.drain_faults.specs.FaultWalks.{IsFoundAbove}
use Rattle.drain_faults.specs.CellFaults.{IsLeastAt}

-- that of the least rule that fails at the cell; if none fails that of a sound data cell, or of a sound void
abbrev pub fault_pixel : Option Rule → Bool → ℕ
fault_pixel (Some r) has_data = rule_number r
fault_pixel None true = SOUND
fault_pixel None false = SOUND_VOID

-- the number is the cell's, by the rules that are tried
pub record IsMapPixel (rules : Rules) (g : Grid) (ps : Products) (c : Cell) (n : ℕ) : Type 0 where
  pub rule : Option Rule
  pub least : IsLeastAt rules g ps c rule
  pub number_is : n ≡ fault_pixel rule (is_some (g.elevation c))

-- the numbers are those of the list's cells, one after another
abbrev pub AreMapPixels : Rules → Grid → Products → List Cell → List ℕ → Type 0
AreMapPixels rules g ps [] [] = Unit {0}
AreMapPixels rules g ps [] (n ∷ ns) = ⊥
AreMapPixels rules g ps (c ∷ cs) [] = ⊥
AreMapPixels rules g ps (c ∷ cs) (n ∷ ns) = IsMapPixel rules g ps c n × AreMapPixels rules g ps cs ns

-- with these numbers more
abbrev pub HasMore : FaultMap → FaultMap → List ℕ → Type 0
HasMore old new more = new.pixels.items ≡ old.pixels.items ++ more

-- the same where there is a map, and else there is none still
abbrev pub AreDrawn : Option FaultMap → Option FaultMap → List ℕ → Type 0
AreDrawn None None more = Unit {0}
AreDrawn None (Some new) more = ⊥
AreDrawn (Some old) None more = ⊥
AreDrawn (Some old) (Some new) more = HasMore old new more

-- where there is a map, its numbers are those of the list's cells
abbrev pub IsMapOfCells : Rules → Grid → Products → List Cell → Option FaultMap → Type 0
IsMapOfCells rules g ps cs map = IfSome map (λ m. AreMapPixels rules g ps cs m.pixels.items)

-- this holds of each grid of which these are the row's patches, where this was found and drawn above it
abbrev pub OfRowDrawn : Rules → ℕ → ℕ → (ℕ → Patch) → FaultTally → Option FaultMap → (Grid → Products → Type 0) → Type 0
OfRowDrawn rules row cols shown found map P =
    (g : Grid) (ps : Products) → AreRowPatches g ps row cols shown → IsFoundAbove rules g ps row found → IsMapOfCells rules g ps (cells_above g row) map → P g ps

-- the walk's map, if there is one, is right of a grid and its products
abbrev pub IsMapOf : Rules → Grid → Products → FaultWalk → Type 0
IsMapOf rules g ps w = IsMapOfCells rules g ps (cells_above g w.rows) w.map

-- this holds of each grid of which the walk and its map are right, where these are the patches of its next row
abbrev pub OfNextRowDrawn : Rules → FaultWalk → ℕ → (ℕ → Patch) → (Grid → Products → Type 0) → Type 0
OfNextRowDrawn rules w cols shown P = OfRowDrawn rules w.rows cols shown w.found w.map P
