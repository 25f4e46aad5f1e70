-- What is said of the judged rasters of a set.
use Rattle.drain_verdict.specs.Names.{Result, Ok, Err, Refusal, Judged, IsExtent, IsVerdictBy}
use Rattle.drain_verdict.specs.Deciding.{IsDecided}
use Rattle.drain_verdict.specs.GroundSets.{GroundSet, IsReadable, IsRefusalIn, rules_in, set_grid, set_products}
use Rattle.drain_verdict.specs.declared.judgement.Judgement.{Judgement}

-- no refusal applies, the grid has a size, the verdict is that of the rules about the judged rasters, and the cell decides besides
pub record IsJudgementOf {W : Type 0} (judged : Judged) (s : GroundSet) (j : Judgement W) : Type 0 where
  pub readable : IsReadable s
  pub extent : IsExtent (set_grid s).extent
  pub verdict : IsVerdictBy (rules_in judged s) (set_grid s) (set_products s) j.verdict
  pub decided : IsDecided judged (set_grid s) (set_products s) j.verdict j.cell

-- the first refusal that applies, else that
abbrev pub IsJudgementIn : {W : Type 0} → Judged → GroundSet → Result (Judgement W) Refusal → Type 0
IsJudgementIn judged s (Ok j) = IsJudgementOf judged s j
IsJudgementIn judged s (Err refusal) = IsRefusalIn s refusal
