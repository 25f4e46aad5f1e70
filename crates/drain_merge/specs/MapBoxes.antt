-- The verdict on windows that lie on a map, from one report of the box that they fill. These definitions are this project's
-- own.
use Rattle.std.specs.Prelude.{◌≡◌, ◌⊎◌}
use Rattle.drain_merge.specs.Names.{Some, None, List, map, Grid, Products, AreWindowsFrom, Report, Window, WindowReport, UnionVerdict, Accepted, Rejected, Cell, cell_from, Outlet, SharedLabel}
use Rattle.drain_union.specs.declared.verdict.UnionCounts.{UnionCounts}
use Rattle.drain_merge.specs.declared.map_merge.MapVerdict.{MapVerdict}
use Rattle.drain_merge.specs.declared.merge_verdict.MergeRefusal.{MergeRefusal}
use Rattle.drain_merge.specs.declared.merge_verdict.MergeRefusal.TheVariants.{LeftOut, SeamsDiffer}
use Rattle.drain_merge.specs.declared.totals.UnionSinks.{UnionSinks}
use Rattle.drain_merge.specs.BoxReports.{box_at, box_of, IsJoinOver, whole_box}
use Rattle.drain_merge.specs.Merges.{HaveOneGrid, IsBoxRefusal}
use Rattle.drain_merge.specs.Seams.{IsFirstSharing}
use Rattle.drain_merge.specs.UnionSinks.{HasSinks, IsSinkRefusal, TakeSinks}
use Rattle.drain_merge.specs.UnionVerdicts.{AreJudgedFrom, IsUnionVerdict, SomeIsRejected, windows_of}

-- The end of a merge.

-- these counts, or the first label that two outlets share, at a cell counted from this one
abbrev pub IsByLabels : Cell → UnionCounts → List Outlet → UnionVerdict → Type 0
IsByLabels origin counts outlets (Accepted same) = (same ≡ counts) × IsFirstSharing outlets None
IsByLabels origin counts outlets (Rejected fault) =
    (c : Cell) × (fault ≡ record { cell = cell_from origin c; rule = SharedLabel }) × IsFirstSharing outlets (Some c)

-- the verdict on a union, of which a report has this verdict: where it accepts, labels decide
abbrev pub IsEndOf : UnionVerdict → Report → UnionVerdict → Type 0
IsEndOf (Accepted counts) r v = IsByLabels (box_at r.place).origin counts r.outlets v
IsEndOf (Rejected fault) r v = v ≡ Rejected fault

-- and its box
pub record IsEnd (whole : WindowReport) (m : MapVerdict) : Type 0 where
  pub bounds : m.bounds ≡ box_at whole.report.place
  pub verdict : IsEndOf whole.verdict whole.report m.verdict

-- the sinks of a report, counted from the first cell of its box
abbrev pub sinks_in : Report → List Cell
sinks_in r = map (cell_from (box_at r.place).origin) r.sinks

-- where a report accepts, the windows took the sinks of the union
abbrev pub AreTakenBy : UnionVerdict → UnionSinks → List Cell → Type 0
AreTakenBy (Accepted counts) sinks taken = TakeSinks sinks taken
AreTakenBy (Rejected fault) sinks taken = Unit {0}

abbrev pub AreTaken : UnionSinks → WindowReport → Type 0
AreTaken sinks whole = AreTakenBy whole.verdict sinks (sinks_in whole.report)

-- else why they are refused
abbrev pub IsTakenRefusal : UnionVerdict → UnionSinks → List Cell → MergeRefusal → Type 0
IsTakenRefusal (Accepted counts) sinks taken refusal = IsSinkRefusal sinks taken refusal
IsTakenRefusal (Rejected fault) sinks taken refusal = ⊥

abbrev pub IsEndRefusal : UnionSinks → WindowReport → MergeRefusal → Type 0
IsEndRefusal sinks whole refusal = IsTakenRefusal whole.verdict sinks (sinks_in whole.report) refusal

-- The merge.

-- the windows make this report of the smallest box that holds them, of which no side is inner
abbrev pub IsWholeJoin : List WindowReport → WindowReport → Type 0
IsWholeJoin windows whole = IsJoinOver (whole_box (box_of windows)) windows whole

-- and this is its end
abbrev pub IsWhole : List WindowReport → MapVerdict → Type 0
IsWhole windows m = (whole : WindowReport) × IsWholeJoin windows whole × IsEnd whole m

-- the verdict is that on the box, and the windows lie on one grid
pub record IsMapVerdict (windows : List WindowReport) (m : MapVerdict) : Type 0 where
  pub one_grid : HaveOneGrid windows
  pub bounds : m.bounds ≡ box_of windows
  pub verdict : IsUnionVerdict (box_of windows) windows m.verdict

-- unless a window is rejected, each union of which these are the windows has these sinks
abbrev pub HasMapSinks : UnionSinks → List WindowReport → Type 0
HasMapSinks sinks windows =
    SomeIsRejected windows
    ⊎ ((window_of : Report → Window) → AreJudgedFrom window_of windows → (u : Grid) (ps : Products) → u.extent ≡ (box_of windows).size →
    AreWindowsFrom (box_of windows).origin u ps (windows_of window_of windows) → HasSinks sinks u)

-- a refusal whose cell counts from this one
abbrev pub refusal_from : Cell → MergeRefusal → MergeRefusal
refusal_from origin (LeftOut c) = LeftOut (cell_from origin c)
refusal_from origin (SeamsDiffer c) = SeamsDiffer (cell_from origin c)
refusal_from origin other = other

-- why windows on a map have no verdict: they make no report of the box, whose first cell cells of refusals count from; or
-- they do, it accepts, and the union has other sinks
abbrev pub IsMapRefusal : UnionSinks → List WindowReport → MergeRefusal → Type 0
IsMapRefusal sinks windows refusal =
    ((other : MergeRefusal) × IsBoxRefusal (whole_box (box_of windows)) windows other × (refusal ≡ refusal_from (box_of windows).origin other))
    ⊎ ((whole : WindowReport) × IsWholeJoin windows whole × IsEndRefusal sinks whole refusal)
