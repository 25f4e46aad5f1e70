-- What the definitions of least surfaces say together.
use Rattle.std.specs.Prelude.{◌≤ℤ◌, ◌<ℤ◌}
use Rattle.drain_filled.specs.Names.{ℤ, Cell, Grid, Products, HasData, height_at, RulesHold, Drains, IsLeastSurface, Surface, surface_rules, IsFillRule}
use Rattle.drain_filled.specs.Compared.{AreOneSurface, HasCellsOf, IsFirstUnfilled}

-- two least surfaces are equal at each data cell
abbrev pub OneLeastSurface : Type 0
OneLeastSurface = (g : Grid) (s t : Surface) → IsLeastSurface g s → IsLeastSurface g t → AreOneSurface g s t

-- a surface with the numbers of another's least surface is the least one of each grid with the other's cells
abbrev pub SameCellsSameSurface : Type 0
SameCellsSameSurface =
    (g h : Grid) (s t : Surface) → HasCellsOf g h → AreOneSurface g s t → IsLeastSurface h t → IsLeastSurface g s

-- where rules 4, 5 and 9 hold at every cell, con is nowhere above the least surface
abbrev pub RulesKeepConLow : Type 0
RulesKeepConLow =
    (g : Grid) (ps : Products) (t : Surface) → RulesHold surface_rules IsFillRule g ps → IsLeastSurface g t →
    (c : Cell) → HasData g c → ps.con c ≤ℤ t c

-- and at its first cell that isn't filled it is below
abbrev pub UnfilledIsTooLow : Type 0
UnfilledIsTooLow =
    (g : Grid) (ps : Products) (t : Surface) → RulesHold surface_rules IsFillRule g ps → IsLeastSurface g t →
    (c : Cell) → IsFirstUnfilled g ps.con c → ps.con c <ℤ t c

-- a surface with the numbers of another at data cells isn't filled at the same first cell
abbrev pub SameNumbersSameCell : Type 0
SameNumbersSameCell = (g : Grid) (s t : Surface) → AreOneSurface g s t → (c : Cell) → IsFirstUnfilled g t c → IsFirstUnfilled g s c

-- at each data cell the surface lies between these two numbers
abbrev pub AreBetween : Grid → ℤ → ℤ → Surface → Type 0
AreBetween g low high s = (c : Cell) → HasData g c → (low ≤ℤ s c) × (s c ≤ℤ high)

-- where rules 4, 5 and 9 hold at every cell of a grid on which some surface drains, con lies between the numbers between which
-- the elevations lie
abbrev pub RulesKeepConBetween : Type 0
RulesKeepConBetween =
    (g : Grid) (ps : Products) (t : Surface) (low high : ℤ) → RulesHold surface_rules IsFillRule g ps → Drains g t →
    AreBetween g low high (height_at g) → AreBetween g low high ps.con
