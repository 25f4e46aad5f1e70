-- How a run of `drain merge` ends, and what its status means. The words are this project's own.
use Rattle.std.specs.Prelude.{◌≡◌}
use Rattle.drain_cli.specs.Names.{ℕ, List, Option, None, Some, Result, Ok, Err, codes, Grid, SinkFault, AreJudgedFrom, windows_of, MapVerdict, MergeRefusal, SinkLine, AsTaken, Listed, Status, Report, WindowReport}
use Rattle.drain_answer.specs.Lines.{refusal_line}
use Rattle.drain_cli.specs.WindowRuns.{verdict_status}
use Rattle.drain_answer.specs.declared.refusal.Refusal.TheVariants as inputs
use Rattle.drain_grid.specs.Correct.{IsCorrect}
use Rattle.drain_grid.specs.Grid.{Products}
use Rattle.drain_grid.specs.Values.{NoDataNumbers}
use Rattle.drain_grid.specs.declared.sink_text.SinkFault.TheVariants as list
use Rattle.drain_merge.specs.BoxReports.{box_of}
use Rattle.drain_merge.specs.MapBoxes.{HasMapSinks, IsMapRefusal, IsMapVerdict}
use Rattle.drain_merge.specs.Merges.{HaveNoData}
use Rattle.drain_merge.specs.declared.merge_verdict.MergeRefusal.TheVariants.{OutOfMemory}
use Rattle.drain_merge.specs.declared.totals.UnionSinks.{UnionSinks}
use Rattle.drain_answer.specs.declared.outcome.Status.TheVariants as status
use Rattle.drain_union.specs.Windows.{Window, AreWindowsFrom}

-- the verdict on the union, which has these sinks unless a window is rejected; or the first refusal
abbrev pub IsMergeOutcome : UnionSinks → List WindowReport → Result MapVerdict MergeRefusal → Type 0
IsMergeOutcome sinks windows (Ok union) = IsMapVerdict windows union × HasMapSinks sinks windows
IsMergeOutcome sinks windows (Err refusal) = IsMapRefusal sinks windows refusal

-- the status of a refusal: failed if memory ran out
abbrev pub refused_status : MergeRefusal → Status
refused_status OutOfMemory = status.Failed
refused_status refusal = status.Refused

-- the status of an answer
abbrev pub merge_status : Result MapVerdict MergeRefusal → Status
merge_status (Ok union) = verdict_status union.verdict
merge_status (Err refusal) = refused_status refusal

-- this holds of the products of each union whose windows are reported, with the no-data numbers of the reports
abbrev pub OfUnion : List WindowReport → (NoDataNumbers → Grid → Products → Type 0) → Type 0
OfUnion windows Fact =
    (nodata : NoDataNumbers) × HaveNoData nodata windows
    × ((window_of : Report → Window) → AreJudgedFrom window_of windows → (u : Grid) (ps : Products) →
    u.extent ≡ (box_of windows).size → AreWindowsFrom (box_of windows).origin u ps (windows_of window_of windows) → Fact nodata u ps)

-- they are correct
abbrev pub UnionIsCorrect : List WindowReport → Type 0
UnionIsCorrect windows = OfUnion windows (λ nodata u ps. IsCorrect u ps nodata)

-- they aren't
abbrev pub UnionIsNotCorrect : List WindowReport → Type 0
UnionIsNotCorrect windows = OfUnion windows (λ nodata u ps. ¬ IsCorrect u ps nodata)

-- whatever windows the reports are of, there is a union of which they are the windows
abbrev pub MakeUnion : List WindowReport → Type 0
MakeUnion windows =
    (window_of : Report → Window) → AreJudgedFrom window_of windows →
    (u : Grid) × (ps : Products) × (u.extent ≡ (box_of windows).size) × AreWindowsFrom (box_of windows).origin u ps (windows_of window_of windows)

-- the line of a fault of the union's list of sinks
abbrev pub list_line : SinkFault → List ℕ
list_line (list.BadSinkLine n) = refusal_line (inputs.BadSinkLine n)
list_line list.OutOfMemory = codes "failed OutOfMemory"

-- its status
abbrev pub list_status : SinkFault → Status
list_status (list.BadSinkLine n) = status.Refused
list_status list.OutOfMemory = status.Failed

-- the sinks of the union are those that a list has if its path is given, and else as the windows took them
abbrev pub AreSinksAt : {P : Type 0} → Option P → UnionSinks → Type 0
AreSinksAt None sinks = sinks ≡ AsTaken
AreSinksAt (Some path) sinks = (lines : List SinkLine) × (sinks ≡ Listed lines)
