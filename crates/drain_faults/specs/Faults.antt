-- At how many cells of a list something doesn't hold, and at which of them first. Source: this project's own.
use Rattle.std.specs.Prelude.{◌≡◌, ◌+◌, ◌⊎◌, ◌∷◌}
use Rattle.drain_faults.specs.Names.{ℕ, List, [], Option, Some, None, Cell, Rules, Rule, Grid, Products, patch_at, HoldsAt, IsTried, tried}
use Rattle.drain_faults.specs.declared.patch_faults.FaultyPatch.{FaultyPatch}
use Rattle.drain_faults.specs.declared.per_rule.PerRule.{PerRule}
use Rattle.drain_faults.specs.declared.patch_faults.RuleFaults.{RuleFaults}
use Rattle.drain_faults.specs.CellFaults.{of_rule, AllHoldAt, IsLeastAt}

-- it is the number of the list's cells at which the fact doesn't hold
abbrev pub IsNumberWithout : (Cell → Type 0) → List Cell → ℕ → Type 0
IsNumberWithout P [] n = n ≡ 0
IsNumberWithout P (c ∷ cs) n = (P c × IsNumberWithout P cs n) ⊎ (¬ P c × ((m : ℕ) × (n ≡ m + 1) × IsNumberWithout P cs m))

-- it is the first of the list's cells at which the fact doesn't hold, none where it holds at each
abbrev pub IsFirstWithout : (Cell → Type 0) → List Cell → Option Cell → Type 0
IsFirstWithout P [] o = o ≡ None
IsFirstWithout P (c ∷ cs) o = (P c × IsFirstWithout P cs o) ⊎ (¬ P c × (o ≡ Some c))

-- the number of those cells, and the first of them
pub record AreCellsWithout (P : Cell → Type 0) (cs : List Cell) (faults : RuleFaults) : Type 0 where
  pub number : IsNumberWithout P cs faults.cells
  pub first_is : IsFirstWithout P cs faults.first

-- of each rule that is tried, at how many of the list's cells it fails, and at which first; of another nothing is counted
pub record AreFaultsOf (rules : Rules) (g : Grid) (ps : Products) (cs : List Cell) (faults : PerRule RuleFaults) : Type 0 where
  pub counted : (r : Rule) → IsTried rules.judged r → AreCellsWithout (λ c. HoldsAt (tried rules) g ps c r) cs (of_rule faults r)
  pub untried : (r : Rule) → ¬ IsTried rules.judged r → of_rule faults r ≡ record { cells = 0; first = None }

-- the first of the list's cells at which a rule that is tried fails, its patch, and the least that fails there
pub record IsFirstFaulty (rules : Rules) (g : Grid) (ps : Products) (cs : List Cell) (found : FaultyPatch) : Type 0 where
  pub first_is : IsFirstWithout (AllHoldAt rules g ps) cs (Some found.cell)
  pub patch_is : found.patch ≡ patch_at g ps found.cell
  pub least : IsLeastAt rules g ps found.cell (Some found.rule)

-- it is that, or none where each holds at each of the cells
abbrev pub IsFirstPatch : Rules → Grid → Products → List Cell → Option FaultyPatch → Type 0
IsFirstPatch rules g ps cs (Some found) = IsFirstFaulty rules g ps cs found
IsFirstPatch rules g ps cs None = IsFirstWithout (AllHoldAt rules g ps) cs None
