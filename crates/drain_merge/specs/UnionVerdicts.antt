-- What the verdict on windows says of their union. These definitions are this project's own.
use Rattle.std.specs.Prelude.{◌++◌, ◌≡◌, ◌↔◌, ◌⊎◌}
use Rattle.drain_merge.specs.Names.{ℕ, List, Result, Ok, Err, codes, decimal, map, Cell, UnionVerdict, Accepted, Rejected, Contains, SharedLabel, Grid, Products, IsFirstFault, NoDataNumbers, SEAM_DEPTH, Report, IsReportOf, Window, RulesHoldInside, IsFirstInside, AreWindowsFrom, WindowReport}
use Rattle.drain_merge.specs.declared.map_merge.MapVerdict.{MapVerdict}
use Rattle.drain_merge.specs.declared.merge_verdict.MergeRefusal.{MergeRefusal}
use Rattle.drain_merge.specs.declared.merge_verdict.MergeRefusal.TheVariants.{NoReports, OtherSide, OtherGrid, OtherNoData, OtherSpacing, OutsideUnion, JudgesNothing, Overlap, LeftOut, SeamsDiffer, SinkLeftOut, SinkNotListed, OutOfMemory}
use Rattle.drain_merge.specs.declared.places.Clash.{Clash}
use Rattle.drain_merge.specs.declared.smallest_box.UnionBox.{UnionBox}
use Rattle.drain_grid.specs.Correct.{IsCorrect}
use Rattle.drain_grid.specs.declared.rule.Rule.{Rule}
use Rattle.drain_grid.specs.Rule.{IsAnyRule, IsPatchRule}
use Rattle.drain_grid.specs.Unranked.{unranked}
use Rattle.drain_union.specs.JudgedCounts.{AreCountsInside}
use Rattle.drain_union.specs.VerdictLines.{verdict_line}
use Rattle.drain_merge.specs.Places.{reports_of}
use Rattle.drain_merge.specs.Merges.{HaveNoData}
use Rattle.drain_merge.specs.Totals.{AreUnionCounts}

-- The line for the answer of a merge. Its words are this project's own.

-- row=R col=C, with a space before each
abbrev pub cell_text : Cell → List ℕ
cell_text c = codes " row=" ++ decimal c.row ++ codes " col=" ++ decimal c.col

-- the two windows by their places in the list
abbrev pub overlap_line : Clash → List ℕ
overlap_line clash = codes "refused Overlap " ++ decimal clash.earlier ++ codes " " ++ decimal clash.later

-- refused WORD, and what it is about; failed OutOfMemory if memory ran out
abbrev pub refusal_line : MergeRefusal → List ℕ
refusal_line NoReports = codes "refused NoReports"
refusal_line (OtherSide k) = codes "refused OtherSide " ++ decimal k
refusal_line (OtherGrid k) = codes "refused OtherGrid " ++ decimal k
refusal_line (OtherNoData k) = codes "refused OtherNoData " ++ decimal k
refusal_line (OtherSpacing k) = codes "refused OtherSpacing " ++ decimal k
refusal_line (OutsideUnion k) = codes "refused OutsideUnion " ++ decimal k
refusal_line (JudgesNothing k) = codes "refused JudgesNothing " ++ decimal k
refusal_line (Overlap clash) = overlap_line clash
refusal_line (LeftOut c) = codes "refused LeftOut" ++ cell_text c
refusal_line (SeamsDiffer c) = codes "refused SeamsDiffer" ++ cell_text c
refusal_line (SinkLeftOut n) = codes "refused SinkLeftOut " ++ decimal n
refusal_line (SinkNotListed c) = codes "refused SinkNotListed" ++ cell_text c
refusal_line OutOfMemory = codes "failed OutOfMemory"

-- the line of any answer
abbrev pub merge_line : Result MapVerdict MergeRefusal → List ℕ
merge_line (Ok union) = verdict_line union.verdict
merge_line (Err refusal) = refusal_line refusal

-- accepted where the rules hold at each judged cell, with the counts of these cells, else rejected with the first fault
-- there
abbrev pub IsVerdictInside : NoDataNumbers → Window → UnionVerdict → Type 0
IsVerdictInside nodata w (Accepted counts) = RulesHoldInside nodata w × AreCountsInside w counts
IsVerdictInside nodata w (Rejected fault) = IsFirstInside nodata w fault.cell fault.rule

-- this is reported of the window
pub record IsJudgedFrom (w : Window) (j : WindowReport) : Type 0 where
  pub report : IsReportOf SEAM_DEPTH w j.report
  pub verdict : IsVerdictInside j.report.nodata w j.verdict

-- what is reported is so of these windows
abbrev pub AreJudgedFrom : (Report → Window) → List WindowReport → Type 0
AreJudgedFrom window_of judged = (j : WindowReport) → Contains judged j → IsJudgedFrom (window_of j.report) j

-- the windows
abbrev pub windows_of : (Report → Window) → List WindowReport → List Window
windows_of window_of judged = map window_of (reports_of judged)

-- some window is rejected
abbrev pub IsRejected : UnionVerdict → Type 0
IsRejected (Accepted counts) = ⊥
IsRejected (Rejected fault) = Unit {0}

abbrev pub SomeIsRejected : List WindowReport → Type 0
SomeIsRejected judged = (j : WindowReport) × Contains judged j × IsRejected j.verdict

abbrev pub IsAccepted : UnionVerdict → Type 0
IsAccepted (Accepted counts) = Unit {0}
IsAccepted (Rejected fault) = ⊥

-- the rules among which a fault is the first: all of them where a label is shared, else those of a patch
abbrev pub IsTriedWith : Rule → Rule → Type 0
IsTriedWith SharedLabel = IsAnyRule
IsTriedWith rule = IsPatchRule

-- a rejection names the first fault of these products
abbrev pub TellsFirstFault : NoDataNumbers → Grid → Products → UnionVerdict → Type 0
TellsFirstFault nodata u ps (Accepted counts) = Unit {0}
TellsFirstFault nodata u ps (Rejected fault) = IsFirstFault (unranked nodata) (IsTriedWith fault.rule) u ps fault.cell fault.rule

-- an acceptance has the counts of the union's cells
abbrev pub HasCounts : Grid → Products → UnionVerdict → Type 0
HasCounts u ps (Accepted counts) = AreUnionCounts u ps counts
HasCounts u ps (Rejected fault) = Unit {0}

-- unless a window is rejected these are the windows of one union that is the map's box; and of each union there of which they
-- are, the products are correct exactly where the verdict accepts, the counts are those of its cells, and the fault that it
-- names is the first
pub record IsVerdictOn (b : UnionBox) (nodata : NoDataNumbers) (judged : List WindowReport) (windows : List Window) (v : UnionVerdict) : Type 0 where
  pub one_union : SomeIsRejected judged
      ⊎ ((u : Grid) × (ps : Products) × (u.extent ≡ b.size) × AreWindowsFrom b.origin u ps windows)
  pub exactly : (u : Grid) (ps : Products) → u.extent ≡ b.size → AreWindowsFrom b.origin u ps windows → IsAccepted v ↔ IsCorrect u ps nodata
  pub counts : (u : Grid) (ps : Products) → u.extent ≡ b.size → AreWindowsFrom b.origin u ps windows → HasCounts u ps v
  pub first : (u : Grid) (ps : Products) → u.extent ≡ b.size → AreWindowsFrom b.origin u ps windows → TellsFirstFault nodata u ps v

-- the verdict on what is reported of windows: these have one set of no-data numbers, an acceptance is of accepted windows
-- alone, and the verdict is right on whatever windows the reports are of
pub record IsUnionVerdict (b : UnionBox) (judged : List WindowReport) (v : UnionVerdict) : Type 0 where
  pub nodata : NoDataNumbers
  pub one_nodata : HaveNoData nodata judged
  pub none : IsAccepted v → ¬ SomeIsRejected judged
  pub means : (window_of : Report → Window) → AreJudgedFrom window_of judged → IsVerdictOn b nodata judged (windows_of window_of judged) v
