-- From the notes of all rows to the report on a window, and the verdict.
use Rattle.drain_window.proofs.Names.{◌≡◌, ℕ, List, sym, subst, ◌+◌, ◌-◌, ◌<◌, ◌≤◌, true, false, refl, ap, arith, audited, IsSortedByLabel, ListsOutlets, IsReportOf, ListsSeams, ListsSinks, ListsSpacings, Distances, Cell, Rule, Grid, Products, unranked, same_place, NoDataNumbers, IsPatchRule, Sound, Faulty, Tally, Outlet, Place, SEAM_DEPTH, Shown, window_at, moved, IsFirstInside, IsPlaceIn, RulesHoldInside, IsAreaOutcome, AreListed, judged_area, IsOfWindow, ListsJudged, WalkJudgesWindow, WalkListsSeams, ListsSeamsAbove}
use Rattle.std.specs.List.Sorted.{IsPermutation}
use Rattle.std.proofs.lemmas.List.Sorted.{Contains-permutation, IsPermutation-sym}
use Rattle.drain_grid.specs.declared.judged.Judged.TheVariants.{All}
use Rattle.drain_union.specs.Laws.{FourNumbers}
use Rattle.drain_rules.specs.declared.walk.Area.{Area}
use Rattle.drain_rules.specs.declared.walk.Walk.{Walk}
use Rattle.drain_rules.specs.Rows.{place}
use Rattle.drain_window.specs.WindowWalks.{IsSeamWalkOf, IsWindowWalkOf}
use Rattle.drain_window.specs.declared.listed_outlets.ListedOutlets.{ListedOutlets}
use Rattle.drain_window.specs.declared.seam_walk.SeamWalk.{SeamWalk}
use Rattle.drain_window.specs.WindowNotes.{AreOfWindow}

-- a sorted list of the same outlets is that of the window
listed : (nodata : NoDataNumbers) (origin : Cell) (p : Place) (g : Grid) (ps : Products) (outlets sorted : List Outlet) → IsSortedByLabel sorted → IsPermutation outlets sorted →
    ListsJudged (window_at origin p g ps) outlets → ListsOutlets (window_at origin p g ps) sorted
listed nodata origin p g ps outlets sorted rise moves lists = record {
  sorted = rise;
  sound = λ x has. lists.sound x (Contains-permutation sorted outlets x (IsPermutation-sym outlets sorted moves) has);
  complete = λ c outlet. Contains-permutation outlets sorted _ moves (lists.complete c outlet);
}

module _ (judges : WalkJudgesWindow) (lists : WalkListsSeams) (nodata : NoDataNumbers) (origin : Cell) (p : Place) (g : Grid) (ps : Products) (walk : Walk ListedOutlets) (seams : SeamWalk)
    (of : AreOfWindow p origin walk.labels seams) (placed : IsPlaceIn g.extent p) (some : 0 < g.extent.rows)
    (walked : IsWindowWalkOf nodata g ps g.extent.rows walk) (listed_seams : IsSeamWalkOf (record { nodata = nodata; judged = All }) g ps g.extent.rows seams) where
  pub nodata_is : seams.nodata ≡ nodata
  nodata_is = listed_seams.nodata_is some

  -- of the judged area, so many rows and this origin
  abbrev IsFound : Area → Cell → ℕ → Type 0
  IsFound a o rows = IsAreaOutcome (unranked nodata) IsPatchRule a g ps rows (AreListed a o g ps (place rows 0) walk.labels.outlets.items) walk.outcome

  outcome_is : IsAreaOutcome (unranked nodata) IsPatchRule (judged_area p) g ps g.extent.rows (AreListed (judged_area p) origin g ps (place g.extent.rows 0) walk.labels.outlets.items) walk.outcome
  outcome_is =
      subst (IsFound (judged_area p) origin) walked.rows_are
      (subst (λ o. IsFound (judged_area p) o walk.rows) of.list_origin (subst (λ a. IsFound a walk.labels.origin walk.rows) of.area walked.right))

  pub of_window : IsOfWindow nodata origin p g ps walk.labels.outlets.items walk.outcome
  of_window = judges nodata origin p g ps walk.labels.outlets.items walk.outcome placed outcome_is

  pub seams_are : ListsSeams SEAM_DEPTH (window_at origin p g ps) seams.seams.items
  seams_are =
      let fits : seams.place.left + seams.place.extent.cols ≤ g.extent.cols =
      subst (λ (q : Place). q.left + q.extent.cols ≤ g.extent.cols) (sym of.place) placed.cols in
      lists origin p g ps seams.seams.items placed
      (subst (λ n. ListsSeamsAbove origin p g ps n seams.seams.items) listed_seams.rows_are
      (subst (λ o. ListsSeamsAbove o p g ps seams.rows seams.seams.items) of.seam_origin
      (subst (λ q. ListsSeamsAbove seams.origin q g ps seams.rows seams.seams.items) of.place (listed_seams.right fits))))

-- the report on a window where the rules hold
pub report_sound : (nodata at : NoDataNumbers) (origin : Cell) (p : Place) (g : Grid) (ps : Products) (outlets sorted : List Outlet) (shown : List Shown) (sinks : List Cell) (spacings : List Distances) (tally : Tally) → FourNumbers → at ≡ audited nodata →
    IsOfWindow nodata origin p g ps outlets (Sound tally) → IsSortedByLabel sorted → IsPermutation outlets sorted → ListsSeams SEAM_DEPTH (window_at origin p g ps) shown → ListsSinks (window_at origin p g ps) sinks → ListsSpacings (window_at origin p g ps) spacings →
    IsReportOf SEAM_DEPTH (window_at origin p g ps) (record { place = moved origin p; spacings = spacings; nodata = at; holds = true; outlets = sorted; seams = shown; sinks = sinks })
report_sound nodata at origin p g ps outlets sorted shown sinks spacings tally four same of rise moves seams sinks_are spaced = record {
  place = refl;
  extent = refl;
  spacings = spaced;
  holds = (λ is. subst (λ n. RulesHoldInside n (window_at origin p g ps)) (sym same) ((four nodata (window_at origin p g ps)).0.0 of.0), λ holds. refl);
  outlets = λ is. listed nodata origin p g ps outlets sorted rise moves of.1;
  seams = λ is. seams;
  sinks = λ is. sinks_are;
}

-- and where one fails
pub report_faulty : (nodata at : NoDataNumbers) (origin : Cell) (p : Place) (g : Grid) (ps : Products) (outlets : List Outlet) (cell : Cell) (rule : Rule) (none : List Outlet) (nothing : List Shown) (no_sink : List Cell) (spacings : List Distances) → FourNumbers → at ≡ audited nodata →
    IsOfWindow nodata origin p g ps outlets (Faulty cell rule) → ListsSpacings (window_at origin p g ps) spacings →
    IsReportOf SEAM_DEPTH (window_at origin p g ps) (record { place = moved origin p; spacings = spacings; nodata = at; holds = false; outlets = none; seams = nothing; sinks = no_sink })
report_faulty nodata at origin p g ps outlets cell rule none nothing no_sink spacings four same of spaced = record {
  place = refl;
  extent = refl;
  spacings = spaced;
  holds = (
    λ is. absurd (let no : ⊥ = cc in no),
    λ holds.
        (let first = of.2 in
        absurd (first.fails ((four nodata (window_at origin p g ps)).0.1 (subst (λ n. RulesHoldInside n (window_at origin p g ps)) same holds) of.0 rule first.judged first.is_own))),
  );
  outlets = λ is. absurd (let no : ⊥ = cc in no);
  seams = λ is. absurd (let no : ⊥ = cc in no);
  sinks = λ is. absurd (let no : ⊥ = cc in no);
}

-- the first fault, in the window's rows and columns
pub fault_in_window : (nodata : NoDataNumbers) (origin : Cell) (p : Place) (g : Grid) (ps : Products) (outlets : List Outlet) (cell : Cell) (rule : Rule) (row col : ℕ) →
    row ≡ cell.row - p.top → col ≡ cell.col - p.left → IsOfWindow nodata origin p g ps outlets (Faulty cell rule) →
    IsFirstInside nodata (window_at origin p g ps) (record { row = row; col = col }) rule
fault_in_window nodata origin p g ps outlets cell rule row col row_is col_is (c, is, first) =
    let at_row : p.top + c.row ≡ cell.row = ap (λ (x : Cell). x.row) is in
    let at_col : p.left + c.col ≡ cell.col = ap (λ (x : Cell). x.col) is in
    let same : c ≡ record { row = row; col = col } = same_place c (record { row = row; col = col }) (omega (arith, at_row, row_is)) (omega (arith, at_col, col_is)) in
    subst (λ x. IsFirstInside nodata (window_at origin p g ps) x rule) same first
