-- Windows that fill the smallest box that holds them: where the box lies in each union of which they are windows, and that
-- the report that theirs make is of what the union shows there.
use Rattle.drain_merge.proofs.Names.{◌≡◌, ◌↔◌, ℕ, ◌+◌, ◌-◌, ◌^◌, ◌<◌, ◌≤◌, min, max, ◌⊎◌, inl, inr, Bool, List, [], ◌∷◌, slice_index_or, map, fold, IsTrue, refl, sym, ap, subst, ◌∙◌, arith, Contains, cases_Bool, false_from_ne_true, false≢true, All-contains, Contains-get_or, Cell, Grid, Products, NoDataNumbers, cases, less_number, Place, SEAM_DEPTH, WindowReport, UnionVerdict, Accepted, Rejected, FillPlace, IsJoined, LiesInBox, shown_at, is_accepted, IsReportOf, Report, AreWindowsFrom, in_union, IsFrom, IsPlaceIn, JudgesSome, place_from, RulesHoldInside, Window, from_inside, join_is_report, to_map, IsJoinUpTo, UnionBox, bottom_end, greatest_by, least_by, left_of, right_end, top_of, places_of, reports_of, AreJudgedFrom, IsVerdictInside, windows_of, North, South, West, East}
use Rattle.drain_union.proofs.FilledPlaces.{fill_by_edges, inside}
use Rattle.drain_merge.proofs.JudgedWindows.{at_places, from_reports, some_window, to_window}
use Rattle.drain_merge.proofs.SortedSeams.{first_one, later_one, same_places}

-- the least and the greatest number are that of some window, unless they are the one to begin with
least_is : (f : WindowReport → ℕ) (m : ℕ) (ws : List WindowReport) →
    (fold (λ n w. min n (f w)) m ws ≡ m) ⊎ ((w : WindowReport) × Contains ws w × (f w ≡ fold (λ n w. min n (f w)) m ws))
least_is f m [] = inl refl
least_is f m (v ∷ ws) =
    elim (least_is f (min m (f v)) ws) [
      | inr found ↦ inr (found.0, later_one v found.0 ws found.1, found.2)
      | inl start ↦
          elim (cases (less_number (f v) m)) [ inl less ↦ inr (v, first_one v ws, omega (arith, start, less)) | inr most ↦ inl (omega (arith, start, most)) ]
    ]

greatest_is : (f : WindowReport → ℕ) (m : ℕ) (ws : List WindowReport) →
    (fold (λ n w. max (f w) n) m ws ≡ m) ⊎ ((w : WindowReport) × Contains ws w × (f w ≡ fold (λ n w. max (f w) n) m ws))
greatest_is f m [] = inl refl
greatest_is f m (v ∷ ws) =
    elim (greatest_is f (max (f v) m) ws) [
      | inr found ↦ inr (found.0, later_one v found.0 ws found.1, found.2)
      | inl start ↦
          elim (cases (less_number m (f v))) [ inl more ↦ inr (v, first_one v ws, omega (arith, start, more)) | inr most ↦ inl (omega (arith, start, most)) ]
    ]

-- along one direction: the box begins where some window does, and ends where some window does, at a number of 32 bits
module _ (last : ℕ) (most_last : last ≤ 2 ^ 32) (start size : WindowReport → ℕ) (ws : List WindowReport) (from count : ℕ) (first : from ≡ least_by start ws)
    (till : count ≡ min (min (greatest_by (λ w. start w + size w) ws) last - least_by start ws) (2 ^ 32 - 1))
    (within : (w : WindowReport) → Contains ws w → (from ≤ start w) × (start w + size w ≤ from + count)) (w : WindowReport) (has : Contains ws w)
    (some : 0 < size w) where
  some_count : 0 < count
  some_count = omega (arith, (within w has).0, (within w has).1, some)

  short : (from + count ≤ 2 ^ 32) × (count < 2 ^ 32)
  short = (omega (arith, some_count, first, till, most_last), omega (arith, till))

  starts : (v : WindowReport) × Contains ws v × (start v ≡ from)
  starts =
      elim (least_is start (2 ^ 32 - 1) ws) [
        | inl none ↦ (w, has, omega (arith, none, first, (within w has).0, (within w has).1, some, short.0))
        | inr found ↦ (found.0, found.1, found.2 ∙ sym first)
      ]

  ends : (v : WindowReport) × Contains ws v × (start v + size v ≡ from + count)
  ends =
      elim (greatest_is (λ v. start v + size v) 0 ws) [
        | inl none ↦ absurd (omega (arith, none, some_count, till))
        | inr found ↦ (found.0, found.1, omega (arith, found.2, (within found.0 found.1).1, some_count, first, till))
      ]

-- the report says that the rules hold exactly where the verdict accepts
agrees : (n : NoDataNumbers) (w : Window) (v : UnionVerdict) (b : Bool) → (IsTrue b ↔ RulesHoldInside n w) → IsVerdictInside n w v → b ≡ is_accepted v
agrees n w (Accepted counts) b tells inside = tells.1 inside.0
agrees n w (Rejected fault) b tells inside =
    false_from_ne_true b (λ is. inside.fails (tells.0 is fault.cell fault.rule inside.judged inside.is_own))

module _ (last : ℕ) (most_last : last ≤ 2 ^ 32) (ws : List WindowReport) (j : WindowReport) (is : IsJoinUpTo last ws j) where
  abbrev box : Place
  box = j.report.place

  pub lies : (w : WindowReport) → Contains ws w → LiesInBox box w.report.place
  lies = at_places (LiesInBox box) ws is.fills.placed

  one : (w : WindowReport) × Contains ws w
  one = some_window ws is.some

  one_judges : JudgesSome one.0.report.place
  one_judges = at_places JudgesSome ws is.fills.some one.0 one.1

  in_rows : (w : WindowReport) → Contains ws w → (box.top ≤ top_of w) × (top_of w + w.report.place.extent.rows ≤ box.top + box.extent.rows)
  in_rows w has = ((lies w has).rows_from, (lies w has).rows_to)

  in_cols : (w : WindowReport) → Contains ws w → (box.left ≤ left_of w) × (left_of w + w.report.place.extent.cols ≤ box.left + box.extent.cols)
  in_cols w has = ((lies w has).cols_from, (lies w has).cols_to)

  abbrev rows : WindowReport → ℕ
  rows w = w.report.place.extent.rows

  abbrev cols : WindowReport → ℕ
  cols w = w.report.place.extent.cols

  top : box.top ≡ least_by top_of ws
  top = ap (λ (b : UnionBox). b.origin.row) is.box.bounds

  left : box.left ≡ least_by left_of ws
  left = ap (λ (b : UnionBox). b.origin.col) is.box.bounds

  rows_till : box.extent.rows ≡ min (min (greatest_by bottom_end ws) last - least_by top_of ws) (2 ^ 32 - 1)
  rows_till = ap (λ (b : UnionBox). b.size.rows) is.box.bounds

  cols_till : box.extent.cols ≡ min (min (greatest_by right_end ws) last - least_by left_of ws) (2 ^ 32 - 1)
  cols_till = ap (λ (b : UnionBox). b.size.cols) is.box.bounds

  row_starts : (v : WindowReport) × Contains ws v × (v.report.place.top ≡ box.top)
  row_starts = starts last most_last top_of rows ws box.top box.extent.rows top rows_till in_rows one.0 one.1 (omega (arith, one_judges.1.inside.row))

  row_ends : (v : WindowReport) × Contains ws v × (v.report.place.top + v.report.place.extent.rows ≡ box.top + box.extent.rows)
  row_ends = ends last most_last top_of rows ws box.top box.extent.rows top rows_till in_rows one.0 one.1 (omega (arith, one_judges.1.inside.row))

  col_starts : (v : WindowReport) × Contains ws v × (v.report.place.left ≡ box.left)
  col_starts = starts last most_last left_of cols ws box.left box.extent.cols left cols_till in_cols one.0 one.1 (omega (arith, one_judges.1.inside.col))

  col_ends : (v : WindowReport) × Contains ws v × (v.report.place.left + v.report.place.extent.cols ≡ box.left + box.extent.cols)
  col_ends = ends last most_last left_of cols ws box.left box.extent.cols left cols_till in_cols one.0 one.1 (omega (arith, one_judges.1.inside.col))

  -- rows and columns are numbers of 32 bits
  pub short_rows : (box.top + box.extent.rows ≤ 2 ^ 32) × (box.extent.rows < 2 ^ 32)
  short_rows = short last most_last top_of rows ws box.top box.extent.rows top rows_till in_rows one.0 one.1 (omega (arith, one_judges.1.inside.row))

  pub short_cols : (box.left + box.extent.cols ≤ 2 ^ 32) × (box.extent.cols < 2 ^ 32)
  short_cols = short last most_last left_of cols ws box.left box.extent.cols left cols_till in_cols one.0 one.1 (omega (arith, one_judges.1.inside.col))

  -- the box begins where the first windows do
  pub begins : (origin : Cell) → IsFrom origin box ↔ ((w : WindowReport) → Contains ws w → IsFrom origin w.report.place)
  begins origin = (
    (λ from w has. from_inside origin box w.report.place from (lies w has)),
    (λ all. record {
      rows = omega (arith, (all row_starts.0 row_starts.1).rows, row_starts.2);
      cols = omega (arith, (all col_starts.0 col_starts.1).cols, col_starts.2);
    }),
  )

  lie : (p : Place) → Contains (places_of ws) p → LiesInBox box p
  lie p has = All-contains (LiesInBox box) (places_of ws) p is.fills.placed has

  pub judges : JudgesSome box
  judges =
      let at = inside box (places_of ws) lie (in_union one.0.report.place one_judges.0)
      (one.0.report.place, to_map (λ (w : WindowReport). w.report.place) ws one.0 one.1, (one_judges.0, one_judges.1, refl)) in
      (at.0, at.1)

  -- so they fill it
  pub filled : FillPlace SEAM_DEPTH box (places_of ws)
  filled = fill_by_edges box (places_of ws) judges lie is.fills.whole

  pub filled_by_reports : FillPlace SEAM_DEPTH box (map (λ (r : Report). r.place) (reports_of ws))
  filled_by_reports = subst (FillPlace SEAM_DEPTH box) (sym (same_places ws)) filled

  pub one_nodata : (r : Report) → Contains (reports_of ws) r → r.nodata ≡ j.report.nodata
  one_nodata r has =
      let w = from_reports ws r has in
      sym (ap (λ (x : Report). x.nodata) w.2) ∙ All-contains (λ (x : WindowReport). x.report.nodata ≡ j.report.nodata) ws w.0 is.one_nodata w.1

  module _ (window_of : Report → Window) (judged : AreJudgedFrom window_of ws) where
    pub of_windows : (r : Report) → Contains (reports_of ws) r → IsReportOf SEAM_DEPTH (window_of r) r
    of_windows r has =
        let w = from_reports ws r has in
        subst (λ (q : Report). IsReportOf SEAM_DEPTH (window_of q) q) w.2 (judged w.0 w.1).report

    pub made : IsJoined SEAM_DEPTH box j.report.nodata (reports_of ws) j.report
    made = is.made (λ i d below.
        (let w = slice_index_or ws i d in
        let of_w = judged w (Contains-get_or ws i d below) in
        agrees w.report.nodata (window_of w.report) w.verdict w.report.holds of_w.report.holds of_w.verdict))

    module _ (origin : Cell) (u : Grid) (ps : Products) (from : IsFrom origin box) (are : AreWindowsFrom origin u ps (windows_of window_of ws)) where
      part : (w : WindowReport) → Contains ws w → IsFrom origin w.report.place × IsPlaceIn u.extent (place_from origin w.report.place)
      part w has =
          let of_w = are (window_of w.report) (to_window window_of ws w has) in
          subst (λ (p : Place). IsFrom origin p × IsPlaceIn u.extent (place_from origin p)) (sym (judged w has).report.place) (of_w.0, of_w.1.placed)

      -- the box lies in the union, and where a side isn't inner, at its edge
      pub placed : IsPlaceIn u.extent (place_from origin box)
      placed =
          let south = part row_ends.0 row_ends.1 in
          let east = part col_ends.0 col_ends.1 in
          record {
            rows = omega (arith, south.0.rows, south.1.rows, row_ends.2, from.rows);
            cols = omega (arith, east.0.cols, east.1.cols, col_ends.2, from.cols);
            north = elim (cases_Bool box.inner.north) [
              | inl inner ↦ inl inner
              | inr outer ↦
                  (let w = (is.box.sides North).0 outer in
                  inr (elim (part w.0 w.1).1.north [ inl inner ↦ absurd (false≢true (sym w.2.1 ∙ inner)) | inr edge ↦ omega (arith, edge, w.2.0) ]))
            ];
            south = elim (cases_Bool box.inner.south) [
              | inl inner ↦ inl inner
              | inr outer ↦
                  (let w = (is.box.sides South).0 outer in
                  let of_w = part w.0 w.1 in
                  inr (elim of_w.1.south [ inl inner ↦ absurd (false≢true (sym w.2.1 ∙ inner)) | inr edge ↦ omega (arith, edge, of_w.0.rows, w.2.0, from.rows) ]))
            ];
            west = elim (cases_Bool box.inner.west) [
              | inl inner ↦ inl inner
              | inr outer ↦
                  (let w = (is.box.sides West).0 outer in
                  inr (elim (part w.0 w.1).1.west [ inl inner ↦ absurd (false≢true (sym w.2.1 ∙ inner)) | inr edge ↦ omega (arith, edge, w.2.0) ]))
            ];
            east = elim (cases_Bool box.inner.east) [
              | inl inner ↦ inl inner
              | inr outer ↦
                  (let w = (is.box.sides East).0 outer in
                  let of_w = part w.0 w.1 in
                  inr (elim of_w.1.east [ inl inner ↦ absurd (false≢true (sym w.2.1 ∙ inner)) | inr edge ↦ omega (arith, edge, of_w.0.cols, w.2.0, from.cols) ]))
            ];
          }

      pub report : IsReportOf SEAM_DEPTH (shown_at origin box u ps) j.report
      report =
          join_is_report origin u ps box j.report.nodata (reports_of ws) window_of j.report from placed are of_windows one_nodata judges filled_by_reports made
