-- The explanation of an answer. Source: this project's own.
use Rattle.std.specs.Prelude.{◌≡◌, ◌<◌}
use Rattle.drain_explain.specs.Names.{Option, Some, None, ℕ, Result, Ok, Err, Grid, Products, HasData, Rules, Refusal, Cell, cells, GroundSet, rules_in, set_grid, set_products}
use Rattle.drain_explain.specs.ElevationRanges.{IsElevationAbove, IsElevationOf, IsRange}
use Rattle.drain_findings.specs.declared.findings.Findings.{Findings}
use Rattle.drain_faults.specs.FaultMaps.{IsMapOf, IsMapOfCells}
use Rattle.drain_faults.specs.FaultWalks.{IsCountedOf, IsRightTally}
use Rattle.drain_faults.specs.declared.fault_walk.FaultWalk.{FaultWalk}
use Rattle.drain_explain.specs.declared.fault_visitor.FaultVisitor.{FaultVisitor}
use Rattle.drain_answer.specs.declared.outcome.Outcome.{Outcome}
use Rattle.drain_answer.specs.declared.outcome.Outcome.TheVariants.{NoEnd}
use Rattle.drain_grid.specs.declared.judged.Judged.{Judged}
use Rattle.drain_faults.specs.ByProduct.{AreFaultsByProduct}
use Rattle.drain_faults.specs.Faults.{AreFaultsOf, IsFirstPatch}
use Rattle.drain_paths.specs.EndlessPaths.{IsEndlessPath}
use Rattle.drain_paths.specs.declared.endless_path.EndlessPath.{EndlessPath}
use Rattle.drain_explain.specs.declared.findings.Explanation.{Explanation}
use Rattle.drain_explain.specs.declared.seen.Seen.{Seen}

-- Notes of the faults of a grid's first rows.

-- what was found, the counts, and the map if there is one, are those of n rows
pub record IsWalkNoted (rules : Rules) (g : Grid) (ps : Products) (rows : ℕ) (walk : FaultWalk) : Type 0 where
  pub rows_are : walk.rows ≡ rows
  pub found : IsRightTally rules g ps walk
  pub counted : IsCountedOf g ps walk
  pub map : IsMapOf rules g ps walk

-- and these were the rules, and the least and the greatest elevation
pub record AreFaultNotes (rules : Rules) (g : Grid) (ps : Products) (rows : ℕ) (notes : FaultVisitor) : Type 0 where
  pub walk_is : IsWalkNoted rules g ps rows notes.walk
  pub rules_are : 0 < rows → notes.rules ≡ rules
  pub elevations_are : IsRange (IsElevationAbove g rows) notes.elevations

-- the answer that is explained
abbrev pub answer_in : {F : Type 0} → Result (Explanation F) Refusal → Result Outcome Refusal
answer_in (Ok explanation) = Ok explanation.outcome
answer_in (Err refusal) = Err refusal

-- what every cell showed, if it is an outcome
abbrev pub findings_in : {F : Type 0} → Result (Explanation F) Refusal → Option (Findings F)
findings_in (Ok explanation) = Some explanation.findings
findings_in (Err refusal) = None

-- of a grid and its products, and rules about judged rasters: these rules; for each rule and each product the
-- number of cells at which it fails, and the first; the first cell at which any rule fails, and its patch; where
-- there is a map, the number of each cell; and the least and the greatest elevation
pub record AreFindingsOn {F : Type 0} (under : Rules) (g : Grid) (ps : Products) (f : Findings F) : Type 0 where
  pub rules : f.rules ≡ under
  pub each_rule : AreFaultsOf under g ps (cells g.extent) f.by_rule
  pub each_product : AreFaultsByProduct under g ps (cells g.extent) f.by_product
  pub first_patch : IsFirstPatch under g ps (cells g.extent) f.first
  pub map : IsMapOfCells under g ps (cells g.extent) f.map
  pub elevations : IsRange (IsElevationOf g) f.elevations

-- so of the set's grid and products, and the rules about judged rasters
abbrev pub AreFindingsIn : {F : Type 0} → Judged → GroundSet → Findings F → Type 0
AreFindingsIn judged s f = AreFindingsOn (rules_in judged s) (set_grid s) (set_products s) f

-- the outcome names the cell, as one whose path doesn't end
abbrev pub IsNamed : Outcome → Cell × EndlessPath → Type 0
IsNamed outcome told = outcome ≡ NoEnd told.0.row told.0.col

-- if the cell has data, its path leads there
abbrev pub LeadsAt : Grid → Products → Cell × EndlessPath → Type 0
LeadsAt g ps told = HasData g told.0 → IsEndlessPath g ps told.0 told.1

-- the outcome names the cell, and its path leads there
abbrev pub IsEndlessOn : Grid → Products → Outcome → Cell × EndlessPath → Type 0
IsEndlessOn g ps outcome told = (outcome ≡ NoEnd told.0.row told.0.col) × IsEndlessPath g ps told.0 told.1

-- so of the set
abbrev pub IsEndlessIn : GroundSet → Outcome → Cell × EndlessPath → Type 0
IsEndlessIn s outcome told = IsEndlessOn (set_grid s) (set_products s) outcome told

-- the outcome of what was seen
abbrev pub outcome_in : Result Seen Refusal → Result Outcome Refusal
outcome_in (Ok seen) = Ok seen.outcome
outcome_in (Err refusal) = Err refusal
