-- What explains an answer, as C reads it: the cells at which each rule fails, and a map.
use Rattle.std.specs.Prelude.{◌≡◌, ◌*◌, ◌==◌, if◌then◌else◌}
use Rattle.drain_c.specs.Names.{ℕ, Bool, false, List, length, codes, Option, Some, None, Result, Ok, Err, IsTrue, IsFalse, Outcome, Refusal, refusal_line, outcome_line, PerRule, RuleFaults, Judged, cells, GroundSet, rules_in, set_grid, set_products, IsOutcomeIn}
use Rattle.drain_c.specs.declared.answer.Answer.{Answer}
use Rattle.drain_c.specs.declared.faults.Faults.{Faults}
use Rattle.drain_c.specs.declared.found.Found.{Found}
use Rattle.drain_c.specs.Faults.{ShowsFaults}
use Rattle.drain_c.specs.Found.{outcome_found, refusal_found, status_only}
use Rattle.drain_c.specs.Questions.{outcome_by}
use Rattle.drain_c.specs.Shown.{Reports, ShowsBadMap, ShowsOutcome}
use Rattle.drain_c.specs.declared.explain.Explained.{Explained}
use Rattle.drain_explain.specs.declared.findings.Explanation.{Explanation}
use Rattle.drain_faults.specs.declared.fault_map.FaultMap.{FaultMap}
use Rattle.drain_faults.specs.FaultMaps.{AreMapPixels, IsMapOfCells}
use Rattle.drain_faults.specs.Faults.{AreFaultsOf}

-- of the rules about judged rasters of the set: the cells at which each fails, and for each cell of the grid the number of
-- the least that fails there
pub record Explains (judged : Judged) (s : GroundSet) (faults : Faults) (map : List ℕ) : Type 0 where
  pub by_rule : PerRule RuleFaults
  pub each_rule : AreFaultsOf (rules_in judged s) (set_grid s) (set_products s) (cells (set_grid s).extent) by_rule
  pub shown : ShowsFaults by_rule faults
  pub map_is : AreMapPixels (rules_in judged s) (set_grid s) (set_products s) (cells (set_grid s).extent) map

-- the same of what was found: these cells of each rule, and a map if one is drawn
pub record AreFoundIn (judged : Judged) (s : GroundSet) (e : Explained) : Type 0 where
  pub each_rule : AreFaultsOf (rules_in judged s) (set_grid s) (set_products s) (cells (set_grid s).extent) e.by_rule
  pub map : IsMapOfCells (rules_in judged s) (set_grid s) (set_products s) (cells (set_grid s).extent) e.map

-- the answer that is explained
abbrev pub outcome_in : Result Explained Refusal → Result Outcome Refusal
outcome_in = outcome_by (λ e. e.outcome)

-- an explanation without what C isn't told
abbrev pub explained_of : {F : Type 0} → Result (Explanation F) Refusal → Result Explained Refusal
explained_of (Ok e) = Ok (record { outcome = e.outcome; by_rule = e.findings.by_rule; map = e.findings.map })
explained_of (Err refusal) = Err refusal

-- the memory for a map has a byte for each cell
abbrev pub has_map_length : GroundSet → List ℕ → Bool
has_map_length s map = length map == (set_grid s).extent.rows * (set_grid s).extent.cols

-- the numbers and the line of an answer; of an outcome for which the map has no room these of a refusal
abbrev pub mapped_found : Bool → Result Outcome Refusal → Found
mapped_found fits (Ok outcome) = if fits then outcome_found (Ok outcome) else status_only 2
mapped_found fits (Err refusal) = refusal_found refusal

abbrev pub mapped_line : Bool → Result Outcome Refusal → List ℕ
mapped_line fits (Ok outcome) = if fits then outcome_line outcome else codes "refused BadMapLength"
mapped_line fits (Err refusal) = refusal_line refusal

-- what is shown is the answer to the set, or that the memory for a map has another length
abbrev pub ReportsMapped : Judged → GroundSet → List ℕ → Answer → Type 0
ReportsMapped judged s memory shown = Reports (IsOutcomeIn judged s) (mapped_found (has_map_length s memory)) (mapped_line (has_map_length s memory)) shown

-- a map was drawn, and has the length of this memory
abbrev pub fits : Option FaultMap → List ℕ → Bool
fits None memory = false
fits (Some drawn) memory = length memory == length drawn.pixels.items

-- the bytes are the map
abbrev pub IsMap : Option FaultMap → List ℕ → Type 0
IsMap None map = ⊥
IsMap (Some drawn) map = map ≡ drawn.pixels.items

-- what is written of an outcome with what explains it
pub record ShowsExplanation (e : Explained) (map : List ℕ) (faults : Faults) (shown : Answer) : Type 0 where
  pub answer_is : ShowsOutcome (Ok e.outcome) shown
  pub faults_are : ShowsFaults e.by_rule faults
  pub map_is : IsMap e.map map

-- what is written of an answer with what explains it: of an outcome whose map hasn't the length of its memory, or of a
-- refusal, no map and no faults
abbrev pub ShowsExplained : Result Explained Refusal → (List ℕ × Faults) → (List ℕ × Faults) → Answer → Type 0
ShowsExplained (Ok e) old new shown =
    (IsTrue (fits e.map old.0) → ShowsExplanation e new.0 new.1 shown) × (IsFalse (fits e.map old.0) → ShowsBadMap shown × (new.0 ≡ old.0) × (new.1 ≡ old.1))
ShowsExplained (Err refusal) old new shown = ShowsOutcome (Err refusal) shown × (new.0 ≡ old.0) × (new.1 ≡ old.1)
