-- What windows say of their union. The laws are this project's own.
use Rattle.std.specs.Prelude.{◌≡◌, ◌↔◌, ◌⊎◌}
use Rattle.drain_union.specs.Names.{ℕ, IsTrue, List, map, AllPairs, Contains, sum_by, Cell, Extent, IsCellOf, NoDataNumbers, Grid, Products, IsOpenCell, patch_at, Rule, IsPatchRule, unranked, IsFirstFault, data_count, raised_count, outlet_count}
use Rattle.drain_grid.specs.Correct.{IsCorrect}
use Rattle.drain_union.specs.declared.report.Outlet.{Outlet}
use Rattle.drain_union.specs.Windows.{JudgesSome, BothJudgeOne, Window, in_union, IsJudgedAtSome, IsCornerRow, IsCornerCol, IsPlaceIn, IsWindowOf, IsJudgedIn, JudgeAll, RulesHoldInside, IsFirstInside, IsNotBefore, NoLabelIsShared, AreLaidIn, OverlapsAgree, SpacingsAgree, AreWindowsOf}
use Rattle.drain_union.specs.JudgedCounts.{judged_data, judged_raised, judged_outlets}
use Rattle.drain_union.specs.Reports.{audited, IsSortedByLabel, NoneBesideShares, ShareNoLabel, ListsOutlets, HoldsAllOf, OverlapInSeams, Report, IsReportOf, CanMerge}
use Rattle.drain_union.specs.declared.place.Place.{Place}
use Rattle.drain_union.specs.declared.place.TheConstants.{SEAM_DEPTH}

-- at a judged cell the window's patch is the union's: so what is open there, and what each rule of a patch says, is so
-- in the union
abbrev pub PatchOfWindow : Type 0
PatchOfWindow =
    (u : Grid) (ps : Products) (w : Window) → IsWindowOf u ps w → (c : Cell) → IsJudgedIn w.place c →
    patch_at w.grid w.products c ≡ patch_at u ps (in_union w.place c)

-- where windows of a union judge each of its cells, its products are correct exactly where in each window the rules
-- hold at the judged cells, and no label is shared
abbrev pub CorrectByWindows : Type 0
CorrectByWindows =
    (u : Grid) (ps : Products) (nodata : NoDataNumbers) (windows : List Window) → AreWindowsOf u ps windows → JudgeAll u.extent windows →
    IsCorrect u ps nodata ↔ (((w : Window) → Contains windows w → RulesHoldInside nodata w) × NoLabelIsShared windows)

-- windows that agree where they overlap and on the rows that they have in common, and judge each cell of a union of this
-- size, are the windows of one union
abbrev pub WindowsMakeUnion : Type 0
WindowsMakeUnion =
    (e : Extent) (windows : List Window) → AreLaidIn e windows → JudgeAll e windows → OverlapsAgree windows → SpacingsAgree windows →
    (u : Grid) × (ps : Products) × (u.extent ≡ e) × AreWindowsOf u ps windows

-- in a list sorted by label it is enough to look at outlets side by side
abbrev pub SortedTellsShared : Type 0
SortedTellsShared = (xs : List Outlet) → IsSortedByLabel xs → NoneBesideShares xs ↔ ShareNoLabel xs xs

-- where a sorted list holds what windows list, no label is shared exactly where none is by two outlets side by side
abbrev pub MergeTellsShared : Type 0
MergeTellsShared =
    (windows : List Window) (lists : List (List Outlet)) (merged : List Outlet) →
    ((w : Window) → Contains windows w → (xs : List Outlet) × Contains lists xs × ListsOutlets w xs) →
    ((xs : List Outlet) → Contains lists xs → (w : Window) × Contains windows w × ListsOutlets w xs) →
    HoldsAllOf lists merged → IsSortedByLabel merged → NoLabelIsShared windows ↔ NoneBesideShares merged

-- at a judged cell, what is open in the window is what is open in the union
abbrev pub OpenInWindow : Type 0
OpenInWindow =
    (u : Grid) (ps : Products) (w : Window) → IsWindowOf u ps w → (c : Cell) → IsJudgedIn w.place c →
    IsOpenCell w.grid c ↔ IsOpenCell u (in_union w.place c)

-- where the rules hold in each window, and the reports can be merged, the windows are those of one union, and its
-- products are correct exactly where a sorted list of all their outlets shows no shared label
abbrev pub MergeIsExact : Type 0
MergeIsExact =
    (depth : ℕ) (e : Extent) (nodata : NoDataNumbers) (reports : List Report) (window_of : Report → Window) (merged : List Outlet) →
    ((r : Report) → Contains reports r → IsReportOf depth (window_of r) r) → ((r : Report) → Contains reports r → IsTrue r.holds) →
    CanMerge depth e nodata reports → HoldsAllOf (map (λ r. r.outlets) reports) merged → IsSortedByLabel merged →
    (u : Grid) × (ps : Products) × (u.extent ≡ e) × AreWindowsOf u ps (map window_of reports) × (IsCorrect u ps nodata ↔ NoneBesideShares merged)

-- where the rules don't hold in one window, the products of no union of which it is a window are correct
abbrev pub WindowRejects : Type 0
WindowRejects =
    (u : Grid) (ps : Products) (nodata : NoDataNumbers) (w : Window) → IsWindowOf u ps w → ¬ RulesHoldInside nodata w → ¬ IsCorrect u ps nodata

-- where windows judge each cell of a union, and in each the rules hold or a first fault is known, the least of these
-- faults is the union's first fault of a patch
abbrev pub LeastFaultIsFirst : Type 0
LeastFaultIsFirst =
    (u : Grid) (ps : Products) (nodata : NoDataNumbers) (windows : List Window) → AreWindowsOf u ps windows → JudgeAll u.extent windows →
    (w : Window) (c : Cell) (r : Rule) → Contains windows w → IsFirstInside nodata w c r →
    ((v : Window) → Contains windows v → RulesHoldInside nodata v ⊎ IsNotBefore nodata v (in_union w.place c) r) →
    IsFirstFault (unranked nodata) IsPatchRule u ps (in_union w.place c) r

-- whether places judge each cell of a union of this size is shown by the cells at crossings of corner rows and corner
-- columns
abbrev pub CornersTellWhole : Type 0
CornersTellWhole =
    (e : Extent) (places : List Place) →
    ((c : Cell) → IsCellOf e c → IsCornerRow places c.row → IsCornerCol places c.col → IsJudgedAtSome places c) →
    (c : Cell) → IsCellOf e c → IsJudgedAtSome places c

-- the rules look at the no-data numbers of con, dir, acc and bas alone
abbrev pub FourNumbers : Type 0
FourNumbers =
    (nodata : NoDataNumbers) (w : Window) →
    (RulesHoldInside nodata w ↔ RulesHoldInside (audited nodata) w)
    × ((c : Cell) (r : Rule) → IsFirstInside nodata w c r → IsFirstInside (audited nodata) w c r)

-- places of one union that judge a cell each, and none in common, overlap in their seams alone
abbrev pub JudgedApart : Type 0
JudgedApart =
    (e : Extent) (p q : Place) → IsPlaceIn e p → IsPlaceIn e q → JudgesSome p → JudgesSome q → ¬ BothJudgeOne p q → OverlapInSeams SEAM_DEPTH p q

-- where windows judge each cell of their union, and none twice, their counts add up to those of the union's cells
abbrev pub CountsAddUp : Type 0
CountsAddUp =
    (u : Grid) (ps : Products) (windows : List Window) → AreWindowsOf u ps windows → JudgeAll u.extent windows →
    AllPairs (λ v w. ¬ BothJudgeOne v.place w.place) windows →
    (sum_by judged_data windows ≡ data_count u) × (sum_by judged_raised windows ≡ raised_count u ps) × (sum_by judged_outlets windows ≡ outlet_count u ps)
