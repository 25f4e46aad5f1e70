-- What an answer shows to C.
use Rattle.std.specs.Prelude.{◌≡◌, ◌-◌, ◌++◌}
use Rattle.drain_c.specs.Names.{ℕ, List, length, replicate, codes, Result, outcome_report_line, Outcome, Refusal}
use Rattle.drain_c.specs.declared.answer.Answer.{Answer}
use Rattle.drain_c.specs.declared.found.Found.{Found}
use Rattle.drain_c.specs.Found.{outcome_found, status_only}

-- these numbers, and this line with zeros behind it
pub record ShowsAnswer (found : Found) (line : List ℕ) (shown : Answer) : Type 0 where
  pub status_is : shown.status ≡ found.status
  pub rule_is : shown.rule ≡ found.rule
  pub row_is : shown.row ≡ found.row
  pub col_is : shown.col ≡ found.col
  pub line_is : shown.line ≡ line ++ replicate (164 - length line) 0

-- that bytes are missing: status 2, and the name of the refusal
abbrev pub ShowsMissing : Answer → Type 0
ShowsMissing shown = ShowsAnswer (status_only 2) (codes "refused NullBytes") shown

-- that the number names no rasters that can be judged, or that no spacing is passed
abbrev pub ShowsBadChoice : Answer → Type 0
ShowsBadChoice shown = ShowsAnswer (status_only 2) (codes "refused BadChoice") shown

-- that the memory for a map has another length than the map
abbrev pub ShowsBadMap : Answer → Type 0
ShowsBadMap shown = ShowsAnswer (status_only 2) (codes "refused BadMapLength") shown

-- that the memory for a raster has another length than the raster
abbrev pub ShowsBadRaster : Answer → Type 0
ShowsBadRaster shown = ShowsAnswer (status_only 2) (codes "refused BadRasterLength") shown

-- the answer about the judged rasters
abbrev pub ShowsOutcome : Result Outcome Refusal → Answer → Type 0
ShowsOutcome answer shown = ShowsAnswer (outcome_found answer) (outcome_report_line answer) shown

-- what is shown is an answer of this kind
pub record Reports {A : Type 0} (Is : A → Type 0) (found : A → Found) (line : A → List ℕ) (shown : Answer) : Type 0 where
  pub value : A
  pub is : Is value
  pub shows : ShowsAnswer (found value) (line value) shown
