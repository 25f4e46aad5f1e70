-- Windows of one union that fill a box, and why windows don't. These definitions are this project's own.
use Rattle.std.specs.Prelude.{◌≡◌, ◌<◌}
use Rattle.drain_merge.specs.Names.{ℕ, Option, length, Some, None, List, [], slice_index_or, All, AllPairs, Cell, NoDataNumbers, Place, SpacedAlike, LiesInBox, BothJudgeOne, JudgesSome, IsJudgedAt, IsJudgedAtSome, CountsOn, WindowReport}
use Rattle.drain_union.specs.declared.union_grid.DemPart.{DemPart}
use Rattle.drain_union.specs.declared.union_grid.UnionGrid.{UnionGrid}
use Rattle.drain_union.specs.declared.union_grid.UnionGrid.TheVariants.{Tiles, Dem}
use Rattle.drain_merge.specs.declared.merge_verdict.MergeRefusal.{MergeRefusal}
use Rattle.drain_merge.specs.declared.merge_verdict.MergeRefusal.TheVariants.{NoReports, OtherSide, OtherGrid, OtherNoData, OtherSpacing, OutsideUnion, JudgesNothing, Overlap, LeftOut, SeamsDiffer, SinkLeftOut, SinkNotListed, OutOfMemory}
use Rattle.drain_merge.specs.Seams.{IsFirstOfFaults, IsFirstDifference}
use Rattle.drain_merge.specs.Unjudged.{IsFirstUnjudged}
use Rattle.drain_merge.specs.Places.{places_of, all_seams, IsFirstFailing, IsFirstClash}

-- rows and columns of all windows count on this grid
abbrev pub HaveGrid : UnionGrid → List WindowReport → Type 0
HaveGrid grid windows = All (λ w. CountsOn grid w.grid) windows

-- on that of the first one
abbrev pub HaveOneGrid : List WindowReport → Type 0
HaveOneGrid windows = (d : WindowReport) → HaveGrid (slice_index_or windows 0 d).grid windows

-- all windows have these no-data numbers
abbrev pub HaveNoData : NoDataNumbers → List WindowReport → Type 0
HaveNoData nodata windows = All (λ w. w.report.nodata ≡ nodata) windows

abbrev pub HaveOneNoData : List WindowReport → Type 0
HaveOneNoData windows = (nodata : NoDataNumbers) × HaveNoData nodata windows

-- the first window has these no-data numbers
abbrev pub BeginWith : NoDataNumbers → List WindowReport → Type 0
BeginWith nodata windows = (d : WindowReport) → (slice_index_or windows 0 d).report.nodata ≡ nodata

-- the rows of the union that two windows both have are listed as spaced the same
abbrev pub HaveRowsAlike : WindowReport → WindowReport → Type 0
HaveRowsAlike v w = SpacedAlike v.report w.report

-- so of any two of them
abbrev pub HaveOneSpacing : List WindowReport → Type 0
HaveOneSpacing windows = AllPairs HaveRowsAlike windows

-- this window lists a row that an earlier one has too as spaced otherwise
abbrev pub IsSpacedOther : List WindowReport → ℕ → Type 0
IsSpacedOther windows k =
    (j : ℕ) × (j < k) × ((d : WindowReport) → ¬ HaveRowsAlike (slice_index_or windows j d) (slice_index_or windows k d))

-- the first window that does, none where none does
abbrev pub IsFirstSpacedOther : List WindowReport → Option ℕ → Type 0
IsFirstSpacedOther windows None = HaveOneSpacing windows
IsFirstSpacedOther windows (Some k) =
    (k < length windows) × IsSpacedOther windows k
    × ((i j : ℕ) (d : WindowReport) → i < j → j < k → HaveRowsAlike (slice_index_or windows i d) (slice_index_or windows j d))

-- what windows of one union have in common
pub record AreOfOneUnion (windows : List WindowReport) : Type 0 where
  pub grid : HaveOneGrid windows
  pub nodata : HaveOneNoData windows
  pub spaced : HaveOneSpacing windows

-- the places lie in the box, judge a cell each, none in common, and judge each cell that it judges
pub record FillBox (box : Place) (places : List Place) : Type 0 where
  pub placed : All (LiesInBox box) places
  pub some : All JudgesSome places
  pub apart : AllPairs (λ p q. ¬ BothJudgeOne p q) places
  pub whole : (c : Cell) → IsJudgedAt box c → IsJudgedAtSome places c

-- windows of one union fill the box
pub record MakeBox (box : Place) (windows : List WindowReport) : Type 0 where
  pub alike : AreOfOneUnion windows
  pub fills : FillBox box (places_of windows)

-- the first window has this grid, and this is the first whose rows and columns count on another
abbrev pub IsFirstOther : List WindowReport → UnionGrid → ℕ → Type 0
IsFirstOther windows grid k =
    ((d : WindowReport) → (slice_index_or windows 0 d).grid ≡ grid) × IsFirstFailing (λ w. CountsOn grid w.grid) windows (Some k)

-- why windows are refused for their grids: the first is of tiles, or of a raster
abbrev pub IsGridRefusal : List WindowReport → MergeRefusal → Type 0
IsGridRefusal windows (OtherSide k) = (side : ℕ) × IsFirstOther windows (Tiles side) k
IsGridRefusal windows (OtherGrid k) = (part : DemPart) × IsFirstOther windows (Dem part) k
IsGridRefusal windows other = ⊥

-- why windows are refused for their no-data numbers: the list is empty, or this is the first window that has other
-- numbers than the first one
abbrev pub IsNoDataRefusal : List WindowReport → MergeRefusal → Type 0
IsNoDataRefusal windows NoReports = windows ≡ []
IsNoDataRefusal windows (OtherNoData k) =
    (nodata : NoDataNumbers) × BeginWith nodata windows × IsFirstFailing (λ w. w.report.nodata ≡ nodata) windows (Some k)
IsNoDataRefusal windows other = ⊥

-- why windows are refused for the spacing of their rows
abbrev pub IsSpacingRefusal : List WindowReport → MergeRefusal → Type 0
IsSpacingRefusal windows (OtherSpacing k) = IsFirstSpacedOther windows (Some k)
IsSpacingRefusal windows other = ⊥

-- why places don't fill a box
abbrev pub IsPlaceRefusal : Place → List Place → MergeRefusal → Type 0
IsPlaceRefusal box places (OutsideUnion k) = IsFirstFailing (LiesInBox box) places (Some k)
IsPlaceRefusal box places (JudgesNothing k) = All (LiesInBox box) places × IsFirstFailing JudgesSome places (Some k)
IsPlaceRefusal box places (Overlap clash) = All (LiesInBox box) places × All JudgesSome places × IsFirstClash places (Some clash)
IsPlaceRefusal box places (LeftOut c) =
    All (LiesInBox box) places × All JudgesSome places × AllPairs (λ p q. ¬ BothJudgeOne p q) places × IsFirstUnjudged box places (Some c)
IsPlaceRefusal box places OutOfMemory = Unit {0}
IsPlaceRefusal box places other = ⊥

-- why windows make no report of a box: each refusal where it is said, and where no earlier one is
abbrev pub IsBoxRefusal : Place → List WindowReport → MergeRefusal → Type 0
IsBoxRefusal box windows OutOfMemory = Unit {0}
IsBoxRefusal box windows (OtherSide k) = IsGridRefusal windows (OtherSide k)
IsBoxRefusal box windows (OtherGrid k) = IsGridRefusal windows (OtherGrid k)
IsBoxRefusal box windows NoReports = IsNoDataRefusal windows NoReports
IsBoxRefusal box windows (OtherNoData k) = HaveOneGrid windows × IsNoDataRefusal windows (OtherNoData k)
IsBoxRefusal box windows (OtherSpacing k) = HaveOneGrid windows × HaveOneNoData windows × IsSpacingRefusal windows (OtherSpacing k)
IsBoxRefusal box windows (OutsideUnion k) = AreOfOneUnion windows × IsPlaceRefusal box (places_of windows) (OutsideUnion k)
IsBoxRefusal box windows (JudgesNothing k) = AreOfOneUnion windows × IsPlaceRefusal box (places_of windows) (JudgesNothing k)
IsBoxRefusal box windows (Overlap clash) = AreOfOneUnion windows × IsPlaceRefusal box (places_of windows) (Overlap clash)
IsBoxRefusal box windows (LeftOut c) = AreOfOneUnion windows × IsPlaceRefusal box (places_of windows) (LeftOut c)
IsBoxRefusal box windows (SeamsDiffer c) = MakeBox box windows × IsFirstOfFaults windows None × IsFirstDifference (all_seams windows) (Some c)
IsBoxRefusal box windows (SinkLeftOut n) = ⊥
IsBoxRefusal box windows (SinkNotListed c) = ⊥
