-- What joined windows say of the box that they fill. The laws are this project's own.
use Rattle.std.specs.Prelude.{◌≡◌, ◌⊎◌}
use Rattle.drain_union.specs.Names.{IsTrue, List, map, AllPairs, Contains, sum_by, Cell, Rule, Grid, Products, NoDataNumbers}
use Rattle.drain_union.specs.declared.place.Place.{Place}
use Rattle.drain_union.specs.declared.place.TheConstants.{SEAM_DEPTH}
use Rattle.drain_union.specs.Joins.{shown_at, FillPlace, IsGroup, IsJoined, LiesInBox}
use Rattle.drain_union.specs.JudgedCounts.{judged_data, judged_raised, judged_outlets}
use Rattle.drain_union.specs.Reports.{IsReportOf, Report}
use Rattle.drain_union.specs.Windows.{AreWindowsFrom, BothJudgeOne, IsFirstInside, IsFrom, IsJudgedAt, IsJudgedAtSome, IsNotBefore, IsPlaceIn, IsWindowOf, JudgesSome, RulesHoldInside, Window, in_union, place_from, window_from}

-- places in a box that judges a cell, which judge each cell that it judges, fill it
abbrev pub FillByEdges : Type 0
FillByEdges =
    (box : Place) (places : List Place) → JudgesSome box → ((p : Place) → Contains places p → LiesInBox box p) →
    ((c : Cell) → IsJudgedAt box c → IsJudgedAtSome places c) → FillPlace SEAM_DEPTH box places

-- where windows of a union fill a box, the report that theirs make is a report of what the union shows there
abbrev pub JoinIsReport : Type 0
JoinIsReport =
    (origin : Cell) (u : Grid) (ps : Products) (box : Place) (nodata : NoDataNumbers) (reports : List Report) (window_of : Report → Window)
    (joined : Report) → IsFrom origin box → IsPlaceIn u.extent (place_from origin box) → AreWindowsFrom origin u ps (map window_of reports) →
    ((r : Report) → Contains reports r → IsReportOf SEAM_DEPTH (window_of r) r) → ((r : Report) → Contains reports r → r.nodata ≡ nodata) →
    JudgesSome box → FillPlace SEAM_DEPTH box (map (λ r. r.place) reports) → IsJoined SEAM_DEPTH box nodata reports joined →
    IsReportOf SEAM_DEPTH (shown_at origin box u ps) joined

-- and where in each window the rules hold or a first fault is known, the least of these is the first fault there
abbrev pub JoinTellsFault : Type 0
JoinTellsFault =
    (origin : Cell) (u : Grid) (ps : Products) (box : Place) (nodata : NoDataNumbers) (windows : List Window) → IsFrom origin box →
    IsPlaceIn u.extent (place_from origin box) → AreWindowsFrom origin u ps windows → FillPlace SEAM_DEPTH box (map (λ w. w.place) windows) →
    (w : Window) (c : Cell) (r : Rule) → Contains windows w → IsFirstInside nodata w c r →
    ((v : Window) → Contains windows v → RulesHoldInside nodata v ⊎ IsNotBefore nodata v (in_union w.place c) r) →
    (b : Cell) × (in_union box b ≡ in_union w.place c) × IsFirstInside nodata (shown_at origin box u ps) b r

-- and where none of its cells is judged twice, the windows' counts add up to those of its cells
abbrev pub JoinAddsUp : Type 0
JoinAddsUp =
    (origin : Cell) (u : Grid) (ps : Products) (box : Place) (windows : List Window) → IsFrom origin box →
    IsPlaceIn u.extent (place_from origin box) → AreWindowsFrom origin u ps windows → FillPlace SEAM_DEPTH box (map (λ w. w.place) windows) →
    AllPairs (λ v w. ¬ BothJudgeOne v.place w.place) windows →
    (sum_by judged_data windows ≡ judged_data (shown_at origin box u ps)) × (sum_by judged_raised windows ≡ judged_raised (shown_at origin box u ps))
    × (sum_by judged_outlets windows ≡ judged_outlets (shown_at origin box u ps))

-- there is a way to put windows together at a box: where reports on accepted windows are a group, the joined one is of the
-- window that theirs make, and all of them are windows of each union of which this one is
abbrev pub GroupIsOfWindow : Type 0
GroupIsOfWindow =
    (window_at_box : Place → List Window → Window)
    × ((nodata : NoDataNumbers) (reports : List Report) (window_of : Report → Window) (joined : Report) →
    ((r : Report) → Contains reports r → IsReportOf SEAM_DEPTH (window_of r) r) → ((r : Report) → Contains reports r → IsTrue r.holds) →
    JudgesSome joined.place → IsGroup SEAM_DEPTH nodata reports joined →
    IsReportOf SEAM_DEPTH (window_at_box joined.place (map window_of reports)) joined
    × ((origin : Cell) (u : Grid) (ps : Products) → IsFrom origin joined.place →
    IsWindowOf u ps (window_from origin (window_at_box joined.place (map window_of reports))) →
    AreWindowsFrom origin u ps (map window_of reports)))
