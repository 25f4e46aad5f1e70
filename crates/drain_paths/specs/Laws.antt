-- Counts and labels as products: the rules that they keep, and that products are correct once their heights and
-- directions are right too.
use Rattle.std.specs.Prelude.{◌≡◌, ◌≢◌, ◌↔◌}
use Rattle.drain_paths.specs.Names.{pos, ℕ, List, IsNone, Cell, IsCellOf, Extent, Grid, Products, IsInside, HasData, IsFlatCell, IsOutlet, NoDataNumbers}
use Rattle.drain_grid.specs.Correct.{NeverClimbs, GoesSteepest, IsCorrect}
use Rattle.drain_grid.specs.declared.rule.Rule.{Rule}
use Rattle.drain_grid.specs.GridRules.{RulesHold}
use Rattle.drain_grid.specs.PatchRules.{flow_rules}
use Rattle.drain_grid.specs.Path.{IsLeastSurface}
use Rattle.drain_grid.specs.Product.{default_numbers}
use Rattle.drain_grid.specs.Rule.{IsBetween}
use Rattle.drain_paths.specs.Basins.{AreBasinLabels}
use Rattle.drain_paths.specs.CellNumbers.{cell_number}
use Rattle.drain_paths.specs.Inflows.{AreUpstreamCounts}

-- products that show these counts and labels
pub record ShowsCounts (ps : Products) (e : Extent) (counts labels : List ℕ) : Type 0 where
  pub acc : (c : Cell) → IsCellOf e c → ps.acc c ≡ pos (cell_number e counts c)
  pub bas : (c : Cell) → IsCellOf e c → ps.bas c ≡ pos (cell_number e labels c)

-- products that show right counts and labels
pub record AreCompleted (g : Grid) (ps : Products) (e : Extent) (counts labels : List ℕ) : Type 0 where
  pub counts_are : AreUpstreamCounts g ps e counts
  pub labels_are : AreBasinLabels g ps e labels
  pub shown : ShowsCounts ps e counts labels

-- a rule about counts or labels: Accumulation to SharedLabel
abbrev pub IsCountOrLabelRule : Rule → Type 0
IsCountOrLabelRule = IsBetween 13 15

-- the accumulation and the label are the default no-data numbers exactly at voids: their parts of rules 1 and 2
pub record AreCountsPresent (g : Grid) (ps : Products) (c : Cell) : Type 0 where
  pub void : IsNone (g.elevation c) → (ps.acc c ≡ default_numbers.acc) × (ps.bas c ≡ default_numbers.bas)
  pub data_acc : HasData g c → ps.acc c ≢ default_numbers.acc
  pub data_bas : HasData g c → ps.bas c ≢ default_numbers.bas

-- with right counts and labels rules 13 to 15 hold at every cell, and acc and bas are the no-data numbers exactly at
-- voids
abbrev pub CountsKeepRules : Type 0
CountsKeepRules =
    (g : Grid) (ps : Products) (e : Extent) (counts labels : List ℕ) → AreCompleted g ps e counts labels →
    RulesHold flow_rules IsCountOrLabelRule g ps × ((c : Cell) → IsInside g c → AreCountsPresent g ps c)

-- right heights and directions: con is the filled surface; dir never climbs, leads to a steepest neighbour if one is
-- lower, and is 0 exactly at outlets. These are the facts of correct products about con and dir, in the same words,
-- except that every run ends
pub record AreRouted (g : Grid) (ps : Products) (nodata : NoDataNumbers) : Type 0 where
  pub void_con : (c : Cell) → IsInside g c → IsNone (g.elevation c) → ps.con c ≡ nodata.con
  pub void_dir : (c : Cell) → IsInside g c → IsNone (g.elevation c) → ps.dir c ≡ nodata.dir
  pub data_con : (c : Cell) → HasData g c → ps.con c ≢ nodata.con
  pub data_dir : (c : Cell) → HasData g c → ps.dir c ≢ nodata.dir
  pub least : IsLeastSurface g ps.con
  pub never_climbs : (c : Cell) → HasData g c → NeverClimbs g ps c
  pub steepest : (c : Cell) → HasData g c → ¬ IsFlatCell g ps c → GoesSteepest g ps c
  pub outlets : (c : Cell) → HasData g c → (ps.dir c ≡ pos 0) ↔ IsOutlet g ps c

-- products with right counts and labels are correct exactly if their heights and directions are right
abbrev pub CorrectByRouting : Type 0
CorrectByRouting =
    (g : Grid) (ps : Products) (nodata : NoDataNumbers) (e : Extent) (counts labels : List ℕ) →
    nodata.acc ≡ default_numbers.acc → nodata.bas ≡ default_numbers.bas → AreCompleted g ps e counts labels →
    AreRouted g ps nodata ↔ IsCorrect g ps nodata
