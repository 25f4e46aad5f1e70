-- What is reported of windows says where they lie, whether the rules hold in them, and what they count.
use Rattle.drain_merge.proofs.Names.{◌≡◌, ℕ, ◌+◌, ◌-◌, ◌^◌, ◌<◌, ◌≤◌, min, zero, suc, ◌⊎◌, inl, inr, Option, Some, None, List, [], ◌∷◌, length, slice_index_or, map, IsTrue, refl, sym, ap, subst, ◌∙◌, arith, All, AllPairs, Contains, sum_by, get_or-map, length-map, All-contains, Contains-get_or, Cell, IsCellOf, IsEarlierPair, NoDataNumbers, place, none_some, same_some, Place, SEAM_DEPTH, WindowReport, Fault, UnionVerdict, Accepted, Rejected, LiesInBox, judged_data, judged_raised, judged_outlets, OverlapInSeams, Report, ShowTheSame, BothJudgeOne, in_union, IsFirstInside, IsNotBefore, JudgesSome, RulesHoldInside, Window, apart_in_box, listed_same, sum_by_map, from_map, to_map, HaveNoData, all_seams, places_of, reports_of, cell_there, fault_in, IsFirstOfFaults, union_fault, data_cells_in, data_cells_of, outlets_in, outlets_of, raised_in, raised_of, AreJudgedFrom, IsRejected, IsVerdictInside, SomeIsRejected, windows_of}
use Rattle.drain_merge.proofs.SortedSeams.{first_one, in_flat, later_one}

-- what holds of what any two of a list are mapped to holds of any two of the mapped list, and the other way round
pub pairs_map : {X Y : Type 0} (f : X → Y) (R : Y → Y → Type 0) (xs : List X) → AllPairs (λ a b. R (f a) (f b)) xs → AllPairs R (map f xs)
pairs_map f R [] all i j d before below = absurd (omega arith)
pairs_map f R (x ∷ xs) all i j d before below =
    let long : length (map f (x ∷ xs)) ≡ length (x ∷ xs) = length-map (x ∷ xs) f in
    subst (λ a. R a (slice_index_or (map f (x ∷ xs)) j d)) (sym (get_or-map f (x ∷ xs) i x d (omega arith)))
    (subst (R (f (slice_index_or (x ∷ xs) i x))) (sym (get_or-map f (x ∷ xs) j x d (omega arith))) (all i j x before (omega arith)))

pub pairs_back : {X Y : Type 0} (f : X → Y) (R : Y → Y → Type 0) (xs : List X) → AllPairs R (map f xs) → AllPairs (λ a b. R (f a) (f b)) xs
pairs_back f R xs all i j d before below =
    let long : length (map f xs) ≡ length xs = length-map xs f in
    subst (λ a. R a (f (slice_index_or xs j d))) (get_or-map f xs i d (f d) (omega arith))
    (subst (R (slice_index_or (map f xs) i (f d))) (get_or-map f xs j d (f d) below) (all i j (f d) before (omega arith)))

-- a list that isn't empty has a window
pub some_window : (ws : List WindowReport) → 0 < length ws → (w : WindowReport) × Contains ws w
some_window [] some = absurd (omega arith)
some_window (w ∷ ws) some = (w, first_one w ws)

-- an element of the reports is a window's
pub from_reports : (ws : List WindowReport) (r : Report) → Contains (reports_of ws) r → (j : WindowReport) × Contains ws j × (j.report ≡ r)
from_reports ws r has = from_map (λ (j : WindowReport). j.report) ws r has

-- what holds of the place of each window
pub at_places : (P : Place → Type 0) (ws : List WindowReport) → All P (places_of ws) → (j : WindowReport) → Contains ws j → P j.report.place
at_places P ws all j has = All-contains P (places_of ws) j.report.place all (to_map (λ (x : WindowReport). x.report.place) ws j has)

-- places in a box that judge a cell each, and none in common, overlap in their seams
pub overlaps : (box : Place) (ws : List WindowReport) → ((j : WindowReport) → Contains ws j → LiesInBox box j.report.place) →
    All JudgesSome (places_of ws) → AllPairs (λ p q. ¬ BothJudgeOne p q) (places_of ws) →
    AllPairs (λ (q r : Report). OverlapInSeams SEAM_DEPTH q.place r.place) (reports_of ws)
overlaps box ws lies some apart =
    pairs_map (λ (j : WindowReport). j.report) (λ (q r : Report). OverlapInSeams SEAM_DEPTH q.place r.place) ws
    (λ i j d before below.
    (let has_v = Contains-get_or ws i d (omega (arith, before, below)) in
    let has_w = Contains-get_or ws j d below in
    let v = slice_index_or ws i d in
    let w = slice_index_or ws j d in
    apart_in_box box v.report.place w.report.place (lies v has_v) (lies w has_w) (at_places JudgesSome ws some v has_v) (at_places JudgesSome ws some w has_w)
    (pairs_back (λ (x : WindowReport). x.report.place) (λ p q. ¬ BothJudgeOne p q) ws apart i j d before below)))

-- where all agree any two do
pub agree : (ws : List WindowReport) → ShowTheSame (all_seams ws) (all_seams ws) → AllPairs (λ (q r : Report). ShowTheSame q.seams r.seams) (reports_of ws)
agree ws same =
    pairs_map (λ (j : WindowReport). j.report) (λ (q r : Report). ShowTheSame q.seams r.seams) ws
    (λ i j d before below x y has_x has_y one.
    same x y (in_flat (λ (k : WindowReport). k.report.seams) ws (slice_index_or ws i d) x (Contains-get_or ws i d (omega (arith, before, below))) has_x)
    (in_flat (λ (k : WindowReport). k.report.seams) ws (slice_index_or ws j d) y (Contains-get_or ws j d below) has_y) one)

-- the fault of a rejected window, at the window's cell
pub fault_inside : (n : NoDataNumbers) (w : Window) (p : Place) (v : UnionVerdict) (fault : Fault) → fault_in p v ≡ Some fault → IsVerdictInside n w v →
    (c : Cell) × IsFirstInside n w c fault.rule × (cell_there p c ≡ fault.cell)
fault_inside n w p (Accepted counts) fault is inside = absurd (none_some fault is)
fault_inside n w p (Rejected told) fault is inside =
    let same : record { cell = cell_there p told.cell; rule = told.rule } ≡ fault = same_some _ _ is in
    (told.cell, subst (IsFirstInside n w told.cell) (ap (λ (f : Fault). f.rule) same) inside, ap (λ (f : Fault). f.cell) same)

-- a window without a fault is accepted
pub holds_inside : (n : NoDataNumbers) (w : Window) (p : Place) (v : UnionVerdict) → fault_in p v ≡ None → IsVerdictInside n w v → RulesHoldInside n w
holds_inside n w p (Accepted counts) is inside = inside.0
holds_inside n w p (Rejected fault) is inside = absurd (none_some _ (sym is))

-- the cell that a report names is the union's, where its place ends at numbers of 32 bits
pub there_is : (p : Place) (c : Cell) → p.top + p.extent.rows ≤ 2 ^ 32 → p.left + p.extent.cols ≤ 2 ^ 32 → IsCellOf p.extent c → cell_there p c ≡ in_union p c
there_is p c short_rows short_cols inside =
    let in_row : c.row < p.extent.rows = inside.row in
    let in_col : c.col < p.extent.cols = inside.col in
    let row : min (p.top + c.row) (2 ^ 32 - 1) ≡ p.top + c.row = fits (p.top + c.row) (omega arith) in
    let col : min (p.left + c.col) (2 ^ 32 - 1) ≡ p.left + c.col = fits (p.left + c.col) (omega arith) in
    λ i. place (row i) (col i)
  where
    fits : (n : ℕ) → n < 2 ^ 32 → min n (2 ^ 32 - 1) ≡ n
    fits n below = omega arith

rejected_if : (p : Place) (v : UnionVerdict) (fault : Fault) → fault_in p v ≡ Some fault → IsRejected v
rejected_if p (Accepted counts) fault is = none_some fault is
rejected_if p (Rejected told) fault is = tt

-- a rejected window has a fault
pub faulty : (p : Place) (v : UnionVerdict) → IsRejected v → ¬ (fault_in p v ≡ None)
faulty p (Accepted counts) never = absurd never
faulty p (Rejected fault) rejected = λ is. none_some _ (sym is)

pub some_rejected : (ws : List WindowReport) (fault : Fault) → IsFirstOfFaults ws (Some fault) → SomeIsRejected ws
some_rejected ws fault first = (first.0.0, first.0.1, rejected_if first.0.0.report.place first.0.0.verdict fault first.0.2)

-- some window is rejected, or none has a fault
pub some_or_none : (ws : List WindowReport) → SomeIsRejected ws ⊎ IsFirstOfFaults ws None
some_or_none [] = inr (λ w has. absurd (omega (arith, has.1)))
some_or_none (v ∷ ws) =
    elim (some_or_none ws) [
      | inl some ↦ inl (some.0, later_one v some.0 ws some.1, some.2)
      | inr none ↦ by_first v.verdict refl none
    ]
  where
    by_first : (first : UnionVerdict) → v.verdict ≡ first → IsFirstOfFaults ws None → SomeIsRejected (v ∷ ws) ⊎ IsFirstOfFaults (v ∷ ws) None
    by_first (Accepted counts) is none = inr all
      where
        all : (w : WindowReport) → Contains (v ∷ ws) w → union_fault w ≡ None
        all w (zero, below, same) = subst (λ (x : WindowReport). union_fault x ≡ None) same (ap (fault_in v.report.place) is)
        all w (suc k, below, same) = none w (k, omega (arith, below), same)
    by_first (Rejected fault) is none = inl (v, first_one v ws, subst IsRejected (sym is) tt)

-- from what is reported of windows to the windows, and back
pub to_window : (window_of : Report → Window) (ws : List WindowReport) (j : WindowReport) → Contains ws j → Contains (windows_of window_of ws) (window_of j.report)
to_window window_of ws j has = to_map window_of (reports_of ws) j.report (to_map (λ (x : WindowReport). x.report) ws j has)

pub from_window : (window_of : Report → Window) (ws : List WindowReport) (w : Window) → Contains (windows_of window_of ws) w →
    (j : WindowReport) × Contains ws j × (window_of j.report ≡ w)
from_window window_of ws w has =
    let r = from_map window_of (reports_of ws) w has in
    let j = from_reports ws r.0 r.1 in
    (j.0, j.1, ap window_of j.2 ∙ r.2)

module _ (nodata : NoDataNumbers) (ws : List WindowReport) (one : HaveNoData nodata ws) (window_of : Report → Window) (from : AreJudgedFrom window_of ws) where
  abbrev windows : List Window
  windows = windows_of window_of ws

  pub nodata_is : (j : WindowReport) → Contains ws j → j.report.nodata ≡ nodata
  nodata_is j has = All-contains (λ (x : WindowReport). x.report.nodata ≡ nodata) ws j one has

  verdict_inside : (j : WindowReport) → Contains ws j → IsVerdictInside nodata (window_of j.report) j.verdict
  verdict_inside j has = subst (λ (n : NoDataNumbers). IsVerdictInside n (window_of j.report) j.verdict) (nodata_is j has) (from j has).verdict

  -- where no window has a fault
  pub hold : IsFirstOfFaults ws None → (w : Window) → Contains windows w → RulesHoldInside nodata w
  hold none w has =
      let j = from_window window_of ws w has in
      subst (RulesHoldInside nodata) j.2 (holds_inside nodata (window_of j.0.report) j.0.report.place j.0.verdict (none j.0 j.1) (verdict_inside j.0 j.1))

  pub says_so : IsFirstOfFaults ws None → (j : WindowReport) → Contains ws j → IsTrue j.report.holds
  says_so none j has = (from j has).report.holds.1
      (subst (λ (n : NoDataNumbers). RulesHoldInside n (window_of j.report)) (sym (nodata_is j has)) (hold none (window_of j.report) (to_window window_of ws j has)))

  -- the first fault of windows whose cells are those that their reports name is that of a window, and no other window has
  -- one before it
  pub first_inside : (fault : Fault) → IsFirstOfFaults ws (Some fault) →
      ((j : WindowReport) → Contains ws j → (c : Cell) → IsCellOf j.report.place.extent c → cell_there j.report.place c ≡ in_union j.report.place c) →
      (w : Window) × Contains windows w × ((c : Cell) × IsFirstInside nodata w c fault.rule × (in_union w.place c ≡ fault.cell)
      × ((v : Window) → Contains windows v → RulesHoldInside nodata v ⊎ IsNotBefore nodata v (in_union w.place c) fault.rule))
  first_inside fault first exact =
      let j = first.0.0 in
      let has = first.0.1 in
      let w = window_of j.report in
      let inside = fault_inside nodata w j.report.place j.verdict fault first.0.2 (verdict_inside j has) in
      let there = cell_of j has inside.0 inside.1.judged.inside ∙ inside.2 in
      (w, to_window window_of ws j has, (inside.0, inside.1, there, λ v at. others v at there))
    where
      -- a cell of a window is the union's cell that its report names
      cell_of : (j : WindowReport) → Contains ws j → (c : Cell) → IsCellOf (window_of j.report).place.extent c →
          in_union (window_of j.report).place c ≡ cell_there j.report.place c
      cell_of j has c inside =
          let is : j.report.place ≡ (window_of j.report).place = (from j has).report.place in
          ap (λ (p : Place). in_union p c) (sym is) ∙ sym (exact j has c (subst (λ (p : Place). IsCellOf p.extent c) (sym is) inside))

      others : (v : Window) → Contains windows v → {at : Cell} → at ≡ fault.cell → RulesHoldInside nodata v ⊎ IsNotBefore nodata v at fault.rule
      others v has_v {at} there =
          let j = from_window window_of ws v has_v in
          subst (λ (x : Window). RulesHoldInside nodata x ⊎ IsNotBefore nodata x at fault.rule) j.2
          (by_verdict j.0 j.1 (union_fault j.0) refl)
        where
          by_verdict : (j : WindowReport) → Contains ws j → (o : Option Fault) → union_fault j ≡ o →
              RulesHoldInside nodata (window_of j.report) ⊎ IsNotBefore nodata (window_of j.report) at fault.rule
          by_verdict j has None is = inl (holds_inside nodata (window_of j.report) j.report.place j.verdict is (verdict_inside j has))
          by_verdict j has (Some other) is =
              let inside = fault_inside nodata (window_of j.report) j.report.place j.verdict other is (verdict_inside j has) in
              let here = cell_of j has inside.0 inside.1.judged.inside ∙ inside.2 in
              inr (
                inside.0,
                other.rule,
                inside.1,
                λ before. first.1 j other has is
                    (subst (λ c. IsEarlierPair c other.rule fault.cell fault.rule) here
                    (subst (λ c. IsEarlierPair (in_union (window_of j.report).place inside.0) other.rule c fault.rule) there before)),
              )

-- where the windows lie, as their reports say
pub window_places : (window_of : Report → Window) (ws : List WindowReport) →
    ((j : WindowReport) → Contains ws j → j.report.place ≡ (window_of j.report).place) → map (λ (w : Window). w.place) (windows_of window_of ws) ≡ places_of ws
window_places window_of [] alike = refl
window_places window_of (j ∷ ws) alike = λ i.
    sym (alike j (first_one j ws)) i ∷ window_places window_of ws (λ k has. alike k (later_one j k ws has)) i

-- the counts of an accepted window are those of its judged cells
counts_in : (n : NoDataNumbers) (w : Window) (p : Place) (v : UnionVerdict) → fault_in p v ≡ None → IsVerdictInside n w v →
    (data_cells_in v ≡ judged_data w) × (raised_in v ≡ judged_raised w) × (outlets_in v ≡ judged_outlets w)
counts_in n w p (Accepted counts) is inside = (inside.1.data_cells, inside.1.raised, inside.1.outlets)
counts_in n w p (Rejected fault) is inside = absurd (none_some _ (sym is))

module _ (ws : List WindowReport) (window_of : Report → Window) (from : AreJudgedFrom window_of ws) where
  abbrev theirs : List Window
  theirs = windows_of window_of ws

  -- windows judge no cell in common where their places judge none
  pub apart : AllPairs (λ p q. ¬ BothJudgeOne p q) (places_of ws) → AllPairs (λ (v w : Window). ¬ BothJudgeOne v.place w.place) theirs
  apart of_places =
      pairs_back (λ (w : Window). w.place) (λ p q. ¬ BothJudgeOne p q) theirs
      (subst (λ (ps : List Place). AllPairs (λ p q. ¬ BothJudgeOne p q) ps) (sym (window_places window_of ws (λ j has. (from j has).report.place))) of_places)

  -- a sum over the windows is one over the reports
  over_windows : (f : Window → ℕ) (h : WindowReport → ℕ) → ((j : WindowReport) → Contains ws j → h j ≡ f (window_of j.report)) → sum_by h ws ≡ sum_by f theirs
  over_windows f h same =
      listed_same h (λ j. f (window_of j.report)) ws same
      ∙ sym (sum_by_map f window_of (reports_of ws) ∙ sum_by_map (λ r. f (window_of r)) (λ (j : WindowReport). j.report) ws)

  -- so of the counts, where no window has a fault
  pub sums_of_judged : IsFirstOfFaults ws None →
      (sum_by data_cells_of ws ≡ sum_by judged_data theirs) × (sum_by raised_of ws ≡ sum_by judged_raised theirs)
      × (sum_by outlets_of ws ≡ sum_by judged_outlets theirs)
  sums_of_judged none = (
    over_windows judged_data data_cells_of (λ j has. (each j has).0),
    over_windows judged_raised raised_of (λ j has. (each j has).1),
    over_windows judged_outlets outlets_of (λ j has. (each j has).2),
  )
    where
      each : (j : WindowReport) → Contains ws j →
          (data_cells_of j ≡ judged_data (window_of j.report)) × (raised_of j ≡ judged_raised (window_of j.report)) × (outlets_of j ≡ judged_outlets (window_of j.report))
      each j has = counts_in j.report.nodata (window_of j.report) j.report.place j.verdict (none j has) (from j has).verdict
