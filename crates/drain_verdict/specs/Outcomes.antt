-- The outcome for judged rasters, and the answer with it.
use Rattle.std.specs.Prelude.{◌≡◌}
use Rattle.drain_verdict.specs.Names.{Result, Ok, Err, Bool, true, false, Option, Some, None, Outcome, Refusal, IsFirstUnfilled, Judged, ConDir, ConDirAcc, ConDirBas, AllWithRanks, Rules, IsFirstEndless, Grid, Products, IsFirstFault, RulesHold, IsLeastSurface, NoDataNumbers, AllRunsEnd, IsVerdictBy, Cell, Verdict, has_dir}
use Rattle.drain_answer.specs.declared.outcome.Outcome.TheVariants.{Accepted, AcceptedSurface, Rejected, NoEnd, NotFilled}
use Rattle.drain_grid.specs.declared.judged.Judged.TheVariants.{Con, All}
use Rattle.drain_grid.specs.RulesAbout.{IsPartRule, part_rules}
use Rattle.drain_laws.specs.PartOf.{AreRight}
use Rattle.drain_rules.specs.Fill.{fill_counts}
use Rattle.drain_verdict.specs.GroundSets.{GroundSet, IsReadable, IsRefusalIn, set_grid, set_numbers, set_products}
use Rattle.drain_verdict.specs.Inputs.{Inputs}
use Rattle.drain_verdict.specs.TileGround.{set_of}
use Rattle.drain_grid.specs.declared.fill_verdict.FillCounts.{FillCounts}
use Rattle.drain_grid.specs.declared.verdict.Counts.{Counts}
use Rattle.drain_grid.specs.declared.verdict.Verdict.TheVariants as checked

-- the rules about these rasters
abbrev pub rules_of : Judged → NoDataNumbers → Rules
rules_of judged nodata = record { nodata = nodata; judged = judged }

-- of rasters with directions: the first path without an end; else the verdict of the rules about them
abbrev pub IsWayOutcome : Judged → Grid → Products → NoDataNumbers → Outcome → Type 0
IsWayOutcome judged g ps nodata (Accepted counts) = AllRunsEnd g ps × IsVerdictBy (rules_of judged nodata) g ps (checked.Accepted counts)
IsWayOutcome judged g ps nodata (Rejected rule row col) = AllRunsEnd g ps × IsVerdictBy (rules_of judged nodata) g ps (checked.Rejected rule row col)
IsWayOutcome judged g ps nodata (NoEnd row col) = IsFirstEndless g ps (record { row = row; col = col })
IsWayOutcome judged g ps nodata (AcceptedSurface counts) = ⊥
IsWayOutcome judged g ps nodata (NotFilled row col) = ⊥

-- of con alone: the first fault of the rules about it; else the first cell where it isn't the filled surface
abbrev pub IsConOutcome : Grid → Products → NoDataNumbers → Outcome → Type 0
IsConOutcome g ps nodata (AcceptedSurface counts) = RulesHold (part_rules Con nodata) (IsPartRule Con) g ps × IsLeastSurface g ps.con × (counts ≡ fill_counts g ps)
IsConOutcome g ps nodata (NotFilled row col) = RulesHold (part_rules Con nodata) (IsPartRule Con) g ps × IsFirstUnfilled g ps.con (record { row = row; col = col })
IsConOutcome g ps nodata (Rejected rule row col) = IsFirstFault (part_rules Con nodata) (IsPartRule Con) g ps (record { row = row; col = col }) rule
IsConOutcome g ps nodata (Accepted counts) = ⊥
IsConOutcome g ps nodata (NoEnd row col) = ⊥

-- with ranks: the verdict of a check
abbrev pub IsRankOutcome : Grid → Products → NoDataNumbers → Outcome → Type 0
IsRankOutcome g ps nodata (Accepted counts) = IsVerdictBy (rules_of AllWithRanks nodata) g ps (checked.Accepted counts)
IsRankOutcome g ps nodata (Rejected rule row col) = IsVerdictBy (rules_of AllWithRanks nodata) g ps (checked.Rejected rule row col)
IsRankOutcome g ps nodata (NoEnd row col) = ⊥
IsRankOutcome g ps nodata (AcceptedSurface counts) = ⊥
IsRankOutcome g ps nodata (NotFilled row col) = ⊥

-- the outcome for judged rasters
abbrev pub IsOutcome : Judged → Grid → Products → NoDataNumbers → Outcome → Type 0
IsOutcome Con = IsConOutcome
IsOutcome ConDir = IsWayOutcome ConDir
IsOutcome ConDirAcc = IsWayOutcome ConDirAcc
IsOutcome ConDirBas = IsWayOutcome ConDirBas
IsOutcome All = IsWayOutcome All
IsOutcome AllWithRanks = IsRankOutcome

-- the answer to a set: the first refusal that applies, else the outcome
abbrev pub IsOutcomeIn : Judged → GroundSet → Result Outcome Refusal → Type 0
IsOutcomeIn judged s (Ok outcome) = IsReadable s × IsOutcome judged (set_grid s) (set_products s) (set_numbers s) outcome
IsOutcomeIn judged s (Err refusal) = IsRefusalIn s refusal

-- the answer to the inputs
abbrev pub IsOutcomeAnswer : Judged → Inputs → Result Outcome Refusal → Type 0
IsOutcomeAnswer judged i answer = IsOutcomeIn judged (set_of i) answer

-- the judged rasters of the set are right
abbrev pub AreRightIn : Judged → GroundSet → Type 0
AreRightIn judged s = AreRight judged (set_grid s) (set_products s) (set_numbers s)

-- the judged rasters of the inputs are right
abbrev pub AreJudgedRight : Judged → Inputs → Type 0
AreJudgedRight judged i = AreRightIn judged (set_of i)

-- How the outcome follows from what the rules, and the paths or the filled surface, say.

-- the first path without an end, else the verdict of the rules
abbrev pub IsOfWays : Verdict → Option Cell → Outcome → Type 0
IsOfWays verdict (Some c) outcome = outcome ≡ NoEnd c.row c.col
IsOfWays (checked.Accepted counts) None outcome = outcome ≡ Accepted counts
IsOfWays (checked.Rejected rule row col) None outcome = outcome ≡ Rejected rule row col

-- these counts without the outlets
abbrev pub without_outlets : Counts → FillCounts
without_outlets counts = record { rows = counts.rows; cols = counts.cols; data_cells = counts.data_cells; raised = counts.raised }

-- the first fault of the rules, else the first cell that isn't filled
abbrev pub IsOfSurface : Verdict → Option Cell → Outcome → Type 0
IsOfSurface (checked.Rejected rule row col) unfilled outcome = outcome ≡ Rejected rule row col
IsOfSurface (checked.Accepted counts) (Some c) outcome = outcome ≡ NotFilled c.row c.col
IsOfSurface (checked.Accepted counts) None outcome = outcome ≡ AcceptedSurface (without_outlets counts)

-- the one with directions, the other without
abbrev pub IsOfKind : Bool → Verdict → Option Cell → Outcome → Type 0
IsOfKind true verdict cell outcome = IsOfWays verdict cell outcome
IsOfKind false verdict cell outcome = IsOfSurface verdict cell outcome

-- so of judged rasters
abbrev pub IsOutcomeOf : Judged → Verdict → Option Cell → Outcome → Type 0
IsOutcomeOf judged = IsOfKind (has_dir judged)
