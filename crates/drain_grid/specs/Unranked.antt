-- The ranks that follow from the runs: how many steps the run of each cell makes. With them the rules require nothing
-- of the maker of the products.
use Rattle.std.specs.Prelude.{◌≡◌, ◌≢◌, ℕ, ◌*◌, ℤ, pos, length, IsNone}
use Rattle.drain_grid.specs.declared.cell.Cell.{Cell}
use Rattle.drain_grid.specs.Values.{NoDataNumbers, Values}
use Rattle.drain_grid.specs.Grid.{Grid, Products, IsInside, HasData}
use Rattle.drain_grid.specs.Extent.{IsEarlier}
use Rattle.drain_grid.specs.Run.{steps_from, RunEnds}
use Rattle.drain_grid.specs.declared.direction.Direction.{Direction}
use Rattle.drain_grid.specs.declared.patch.Patch.{Patch}
use Rattle.drain_grid.specs.declared.rule.Rule.TheVariants.{VoidCell, Missing, FlatStep}
use Rattle.drain_grid.specs.Direction.{Names}
use Rattle.drain_grid.specs.Patch.{IsDataCell, IsDataNeighbor, IsClosed, HasLower}
use Rattle.drain_grid.specs.PatchRules.{Profile, flow_rules, check_rules}

-- how many steps the run of a cell makes: one fewer than its cells
abbrev pub run_steps : Grid → Products → Cell → ℕ
run_steps g ps c = length (steps_from g ps (g.extent.rows * g.extent.cols) c)

-- the run of the cell ends, after n steps
pub record EndsAfter (g : Grid) (ps : Products) (c : Cell) (k : ℕ) : Type 0 where
  pub ends : RunEnds g ps c
  pub steps : run_steps g ps c ≡ k

-- each data cell's rank is the number of steps of its run, and only voids have the rank's no-data number
pub record RanksAreSteps (g : Grid) (ps : Products) (nodata : NoDataNumbers) : Type 0 where
  pub steps : (c : Cell) → HasData g c → ps.rnk c ≡ pos (run_steps g ps c)
  pub voids : (c : Cell) → IsInside g c → IsNone (g.elevation c) → ps.rnk c ≡ nodata.rnk
  pub complete : (c : Cell) → HasData g c → ps.rnk c ≢ nodata.rnk

-- these products with other ranks
abbrev pub with_ranks : Products → (Cell → ℤ) → Products
with_ranks ps ranks = record { con = ps.con; dir = ps.dir; acc = ps.acc; bas = ps.bas; spl = ps.spl; rnk = ranks }

-- these no-data numbers with another for ranks
abbrev pub with_rank_nodata : NoDataNumbers → ℤ → NoDataNumbers
with_rank_nodata n rank = record { con = n.con; dir = n.dir; acc = n.acc; bas = n.bas; spl = n.spl; rnk = rank }

-- the first data cell in row order whose run doesn't end
pub record IsFirstEndless (g : Grid) (ps : Products) (c : Cell) : Type 0 where
  pub here : HasData g c
  pub endless : ¬ RunEnds g ps c
  pub first : (b : Cell) → HasData g b → IsEarlier b c → RunEnds g ps b

-- The rules without ranks: what an audit checks at each cell, while it finds out which runs end. Rules 1 and 2 are
-- about con, dir, acc and bas, and rule 12 ignores ranks. They are this project's own, as the rules are.

-- con, dir, acc and bas have their no-data numbers
pub record IsBlankWithoutRank (nodata : NoDataNumbers) (v : Values) : Type 0 where
  pub con_is : v.con ≡ nodata.con
  pub dir_is : v.dir ≡ nodata.dir
  pub acc_is : v.acc ≡ nodata.acc
  pub bas_is : v.bas ≡ nodata.bas

-- none of con, dir, acc and bas has its no-data number
pub record IsCompleteWithoutRank (nodata : NoDataNumbers) (v : Values) : Type 0 where
  pub con_differs : v.con ≢ nodata.con
  pub dir_differs : v.dir ≢ nodata.dir
  pub acc_differs : v.acc ≢ nodata.acc
  pub bas_differs : v.bas ≢ nodata.bas

-- 1: at a void each of the four has its no-data number
abbrev pub VoidCellWithoutRank : NoDataNumbers → Patch → Type 0
VoidCellWithoutRank nodata p = IsNone p.here.z → IsBlankWithoutRank nodata p.here

-- 2: at a data cell none of the four has its no-data number
abbrev pub MissingWithoutRank : NoDataNumbers → Patch → Type 0
MissingWithoutRank nodata p = IsDataCell p → IsCompleteWithoutRank nodata p.here

-- 12: a closed cell with no lower neighbour leads to one of its height
pub record IsLevelStep (p : Patch) (d : Direction) (n : Values) : Type 0 where
  pub named : Names p.here.dir d
  pub beside : IsDataNeighbor p d n
  pub level : n.con ≡ p.here.con

abbrev pub LevelStepHolds : Patch → Type 0
LevelStepHolds p = IsClosed p → ¬ HasLower p → (d : Direction) × (n : Values) × IsLevelStep p d n

-- the rules on where water goes from a cell, without ranks
abbrev pub level_rules : Profile
level_rules p FlatStep = LevelStepHolds p
level_rules p r = flow_rules p r

-- the rules of a check without ranks
abbrev pub unranked : NoDataNumbers → Profile
unranked nodata p VoidCell = VoidCellWithoutRank nodata p
unranked nodata p Missing = MissingWithoutRank nodata p
unranked nodata p FlatStep = level_rules p FlatStep
unranked nodata p r = check_rules nodata p r
