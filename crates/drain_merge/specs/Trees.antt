-- Reports of boxes in place of those of their windows: merges of merges. These definitions and laws are this project's own.
use Rattle.std.specs.Prelude.{◌↔◌, ◌⊎◌, ◌∷◌}
use Rattle.drain_merge.specs.Names.{List, [], Contains, flat_map, Grid, Products, Cell, Report, AreWindowsFrom, IsFrom, IsWindowOf, JudgesSome, Window, window_from, Place, WindowReport}
use Rattle.drain_merge.specs.BoxReports.{box_of, IsJoin, IsOfBox}
use Rattle.drain_merge.specs.MapBoxes.{IsWhole}
use Rattle.drain_merge.specs.Merges.{HaveNoData}
use Rattle.drain_merge.specs.UnionVerdicts.{AreJudgedFrom, IsJudgedFrom, IsRejected, IsUnionVerdict, SomeIsRejected, windows_of}
use Rattle.drain_merge.specs.declared.map_merge.MapVerdict.{MapVerdict}

-- the report stands for these: it begins where the first of them do, has their no-data numbers, and is rejected exactly if one
-- of them is; on each union it is the report of what is shown at its box; and unless one of them is rejected, it is of a
-- window that is made of theirs, and each union of which this is a window has theirs as windows
pub record StandsFor (windows : List WindowReport) (made : (Report → Window) → Window) (j : WindowReport) : Type 0 where
  pub begins : (origin : Cell) → IsFrom origin j.report.place ↔ ((w : WindowReport) → Contains windows w → IsFrom origin w.report.place)
  pub nodata : HaveNoData j.report.nodata windows
  pub rejected : IsRejected j.verdict ↔ SomeIsRejected windows
  pub of_box : IsOfBox windows j
  pub one : SomeIsRejected windows
      ⊎ ((window_of : Report → Window) → AreJudgedFrom window_of windows → IsJudgedFrom (made window_of) j
      × ((origin : Cell) (u : Grid) (ps : Products) → IsFrom origin j.report.place → IsWindowOf u ps (window_from origin (made window_of)) →
      AreWindowsFrom origin u ps (windows_of window_of windows)))

-- the report of a window that judges a cell stands for itself
abbrev pub WindowStands : Type 0
WindowStands = (j : WindowReport) → JudgesSome j.report.place → StandsFor (j ∷ []) (λ window_of. window_of j.report) j

-- there is a way to put windows together at a box, by which the report that theirs make of the box stands for them
abbrev pub JoinStands : Type 0
JoinStands =
    (window_at_box : Place → List Window → Window)
    × ((windows : List WindowReport) (j : WindowReport) → IsJoin windows j →
    StandsFor windows (λ window_of. window_at_box j.report.place (windows_of window_of windows)) j)

-- all that the reports of a list stand for, by their places
abbrev pub all_behind : (Place → List WindowReport) → List WindowReport → List WindowReport
all_behind windows_behind joined = flat_map (λ j. windows_behind j.report.place) joined

-- each report of the list stands for the windows behind its place
abbrev pub EachStandsFor : (Place → List WindowReport) → (Place → (Report → Window) → Window) → List WindowReport → Type 0
EachStandsFor windows_behind made joined =
    (j : WindowReport) → Contains joined j → StandsFor (windows_behind j.report.place) (made j.report.place) j

-- a report that stands for reports stands for all that these stand for
abbrev pub JoinsStandForAll : Type 0
JoinsStandForAll =
    (joined : List WindowReport) (windows_behind : Place → List WindowReport) (made : Place → (Report → Window) → Window) →
    EachStandsFor windows_behind made joined → (top : WindowReport) (made_top : (Report → Window) → Window) → StandsFor joined made_top top →
    StandsFor (all_behind windows_behind joined) (λ window_of. made_top (λ r. made r.place window_of)) top

-- and a verdict on reports is the verdict on all that they stand for
abbrev pub MergeOfJoins : Type 0
MergeOfJoins =
    (joined : List WindowReport) (windows_behind : Place → List WindowReport) (made : Place → (Report → Window) → Window) →
    EachStandsFor windows_behind made joined → (m : MapVerdict) → IsWhole joined m →
    IsUnionVerdict (box_of joined) (all_behind windows_behind joined) m.verdict
