-- The report that the reports of windows make of the smallest box that holds them. These definitions are this project's
-- own.
use Rattle.std.specs.Prelude.{◌≡◌, ◌↔◌, ◌⊎◌, ◌+◌, ◌-◌, ◌<◌, ◌≤◌, ◌^◌}
use Rattle.drain_merge.specs.Names.{ℕ, min, max, fold, IsTrue, Bool, false, List, None, Some, length, slice_index_or, All, Contains, Grid, Products, Cell, IsJoined, IsOuter, shown_at, Agree, IsSortedByLabel, Report, ShowTheSame, spacing_at, AreWindowsFrom, in_union, IsFrom, IsWindowOf, Window, window_from, Place, SEAM_DEPTH, WindowReport, Outlet, Shown, UnionVerdict, Accepted, Rejected}
use Rattle.drain_grid.specs.Spacing.{Distances}
use Rattle.drain_merge.specs.Merges.{FillBox, HaveGrid, HaveNoData, HaveOneSpacing, IsBoxRefusal, MakeBox}
use Rattle.drain_merge.specs.Places.{all_outlets, all_seams, all_sinks, places_of, reports_of}
use Rattle.drain_merge.specs.Seams.{IsFirstDifference, IsFirstOfFaults}
use Rattle.drain_merge.specs.Totals.{AreCountsOf}
use Rattle.drain_merge.specs.UnionVerdicts.{AreJudgedFrom, IsJudgedFrom, SomeIsRejected, windows_of}
use Rattle.drain_merge.specs.declared.all_lists.Lists.{Lists}
use Rattle.drain_merge.specs.declared.merge_verdict.MergeRefusal.{MergeRefusal}
use Rattle.drain_merge.specs.declared.merge_verdict.MergeRefusal.TheVariants.{SeamsDiffer, OutOfMemory}
use Rattle.drain_merge.specs.declared.smallest_box.Side.{Side}
use Rattle.drain_merge.specs.declared.smallest_box.Side.TheVariants.{North, South, West, East}
use Rattle.drain_merge.specs.declared.smallest_box.UnionBox.{UnionBox}

-- The smallest box that holds windows.

-- the least and the greatest number that windows have
abbrev pub least_by : (WindowReport → ℕ) → List WindowReport → ℕ
least_by f windows = fold (λ m w. min m (f w)) (2 ^ 32 - 1) windows

abbrev pub greatest_by : (WindowReport → ℕ) → List WindowReport → ℕ
greatest_by f windows = fold (λ m w. max (f w) m) 0 windows

abbrev pub top_of : WindowReport → ℕ
top_of w = w.report.place.top

abbrev pub left_of : WindowReport → ℕ
left_of w = w.report.place.left

-- one more than the last row and the last column
abbrev pub bottom_end : WindowReport → ℕ
bottom_end w = w.report.place.top + w.report.place.extent.rows

abbrev pub right_end : WindowReport → ℕ
right_end w = w.report.place.left + w.report.place.extent.cols

-- the smallest box that holds the windows, up to this end of rows and columns
abbrev pub box_within : ℕ → List WindowReport → UnionBox
box_within last windows = record {
  origin = record { row = least_by top_of windows; col = least_by left_of windows };
  size = record {
    rows = min (min (greatest_by bottom_end windows) last - least_by top_of windows) (2 ^ 32 - 1);
    cols = min (min (greatest_by right_end windows) last - least_by left_of windows) (2 ^ 32 - 1);
  };
}

-- up to the last row and column of 32 bits
abbrev pub box_of : List WindowReport → UnionBox
box_of windows = box_within (2 ^ 32) windows

-- the box that lies here, and the place of a box without an inner side
abbrev pub box_at : Place → UnionBox
box_at p = record { origin = record { row = p.top; col = p.left }; size = p.extent }

abbrev pub whole_box : UnionBox → Place
whole_box b = record {
  top = b.origin.row;
  left = b.origin.col;
  extent = b.size;
  inner = record { north = false; south = false; west = false; east = false };
}

-- the row or column on which the place begins, or one more than that on which it ends, at this side
abbrev pub end_at : Side → Place → ℕ
end_at North p = p.top
end_at South p = p.top + p.extent.rows
end_at West p = p.left
end_at East p = p.left + p.extent.cols

abbrev pub is_inner_at : Side → Place → Bool
is_inner_at North p = p.inner.north
is_inner_at South p = p.inner.south
is_inner_at West p = p.inner.west
is_inner_at East p = p.inner.east

-- the window ends here at this side, and with it the union
abbrev pub StopsAt : Side → ℕ → WindowReport → Type 0
StopsAt side at w = (end_at side w.report.place ≡ at) × (is_inner_at side w.report.place ≡ false)

-- it is the smallest box up to this end, and the union ends with it on a side where it does with one of the windows there
pub record IsSmallestBox (last : ℕ) (windows : List WindowReport) (p : Place) : Type 0 where
  pub bounds : box_at p ≡ box_within last windows
  pub sides : (s : Side) → (is_inner_at s p ≡ false) ↔ ((w : WindowReport) × Contains windows w × StopsAt s (end_at s p) w)

-- What a report of a box lists.

-- the map's row is one of the window's
pub record HasRow (w : WindowReport) (row : ℕ) : Type 0 where
  pub from : w.report.place.top ≤ row
  pub below : row < w.report.place.top + w.report.place.extent.rows

-- the spacing that the window lists for this row of the map
abbrev pub spacing_in : WindowReport → ℕ → Distances
spacing_in w row = spacing_at w.report.spacings (row - w.report.place.top)

-- the spacing is that of some window that has the row, if one has it
abbrev pub IsSpacingOfRow : List WindowReport → ℕ → Distances → Type 0
IsSpacingOfRow windows row s =
    ((w : WindowReport) × Contains windows w × HasRow w row × (s ≡ spacing_in w row))
    ⊎ ((w : WindowReport) → Contains windows w → ¬ HasRow w row)

-- the list gives each row of the box the spacing that the windows with this row list
abbrev pub SpacesBox : Place → List WindowReport → List Distances → Type 0
SpacesBox p windows listed =
    (w : WindowReport) (row : ℕ) → Contains windows w → HasRow w (p.top + row) → row < p.extent.rows →
    spacing_at listed row ≡ spacing_in w (p.top + row)

-- all outlets sorted by label, what is shown along the seams of the box, and all sinks
pub record AreAll (p : Place) (windows : List WindowReport) (outlets : List Outlet) (seams : List Shown) (sinks : List Cell) : Type 0 where
  pub sorted : IsSortedByLabel outlets
  pub outlets_are : (x : Outlet) → Contains outlets x ↔ Contains (all_outlets windows) x
  pub seams_are : (x : Shown) → Contains seams x ↔ (IsOuter SEAM_DEPTH p x.cell × Contains (all_seams windows) x)
  pub sinks_are : sinks ≡ all_sinks windows
  pub agree : ShowTheSame (all_seams windows) (all_seams windows)

abbrev pub AreJoinedLists : Place → List WindowReport → Lists → Type 0
AreJoinedLists p windows lists = AreAll p windows lists.outlets.items lists.seams.items lists.sinks.items

abbrev pub AreListed : Place → List WindowReport → Report → Type 0
AreListed p windows r = AreAll p windows r.outlets r.seams r.sinks

-- why windows have no such lists: they differ along their seams, or memory runs out
abbrev pub IsSeamRefusal : List WindowReport → MergeRefusal → Type 0
IsSeamRefusal windows (SeamsDiffer c) = IsFirstDifference (all_seams windows) (Some c)
IsSeamRefusal windows OutOfMemory = Unit {0}
IsSeamRefusal windows other = ⊥

-- The report.

-- the first fault of the windows, counted from the box's first cell; or the sums of their counts
abbrev pub IsJoinedVerdict : Place → List WindowReport → UnionVerdict → Type 0
IsJoinedVerdict p windows (Accepted counts) = IsFirstOfFaults windows None × AreCountsOf p.extent windows counts
IsJoinedVerdict p windows (Rejected fault) =
    IsFirstOfFaults windows (Some (record { cell = in_union p fault.cell; rule = fault.rule }))

-- windows of one union, at least one, fill this box, and this has their grid, their no-data numbers, the spacing of the
-- rows, the counts or the fault, and the lists
pub record IsJoinOver (p : Place) (windows : List WindowReport) (j : WindowReport) : Type 0 where
  pub make : MakeBox p windows
  pub some : 0 < length windows
  pub grid : (d : WindowReport) → j.grid ≡ (slice_index_or windows 0 d).grid
  pub nodata : (d : WindowReport) → j.report.nodata ≡ (slice_index_or windows 0 d).report.nodata
  pub place : j.report.place ≡ p
  pub spacings : SpacesBox p windows j.report.spacings
  pub verdict : IsJoinedVerdict p windows j.verdict
  pub holds : Agree j.verdict j.report
  pub lists : IsTrue j.report.holds → AreListed p windows j.report

-- windows, at least one, of one grid, with one set of no-data numbers and one spacing, fill the smallest box that holds
-- them, up to this end of rows and columns, agree along their seams unless one is rejected, and this is the report and the
-- verdict that theirs make of it
pub record IsJoinUpTo (last : ℕ) (windows : List WindowReport) (j : WindowReport) : Type 0 where
  pub some : 0 < length windows
  pub one_grid : HaveGrid j.grid windows
  pub one_nodata : HaveNoData j.report.nodata windows
  pub spaced : HaveOneSpacing windows
  pub box : IsSmallestBox last windows j.report.place
  pub fills : FillBox j.report.place (places_of windows)
  pub agree : SomeIsRejected windows ⊎ ShowTheSame (all_seams windows) (all_seams windows)
  pub made : All (λ w. Agree w.verdict w.report) windows → IsJoined SEAM_DEPTH j.report.place j.report.nodata (reports_of windows) j.report
  pub holds : Agree j.verdict j.report
  pub verdict : IsJoinedVerdict j.report.place windows j.verdict

-- a box that is joined ends before the last row and column of 32 bits
abbrev pub IsJoin : List WindowReport → WindowReport → Type 0
IsJoin windows j = IsJoinUpTo (2 ^ 32 - 1) windows j

-- on each union that begins at this cell of the map and of which these are windows, it is the report and the verdict on
-- what the union shows at the box, which is a window of it
abbrev pub IsOfBox : List WindowReport → WindowReport → Type 0
IsOfBox windows j =
    (origin : Cell) (window_of : Report → Window) → AreJudgedFrom window_of windows → (u : Grid) (ps : Products) →
    IsFrom origin j.report.place → AreWindowsFrom origin u ps (windows_of window_of windows) →
    IsJudgedFrom (shown_at origin j.report.place u ps) j × IsWindowOf u ps (window_from origin (shown_at origin j.report.place u ps))

-- why windows make no report of the smallest box that holds them
abbrev pub IsJoinRefusal : List WindowReport → MergeRefusal → Type 0
IsJoinRefusal windows refusal = (p : Place) × IsSmallestBox (2 ^ 32 - 1) windows p × IsBoxRefusal p windows refusal
