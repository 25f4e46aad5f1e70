-- The verdict that the verdicts on windows make of the box that they fill is that on what their union shows there.
use Rattle.drain_merge.proofs.Names.{◌≡◌, ℕ, ◌-◌, ◌*◌, ◌^◌, ◌<◌, ◌≤◌, List, map, refl, sym, ap, subst, ◌∙◌, arith, Contains, Cell, IsCellOf, Extent, Grid, Products, is_data, is_raised, has_outlet_code, Place, SEAM_DEPTH, WindowReport, UnionVerdict, Accepted, Rejected, FillPlace, shown_at, Agree, Report, AreWindowsFrom, in_union, IsFirstInside, IsFrom, Window, join_adds_up, join_tells_fault, judged_most, one_cell, IsJoinUpTo, IsJoinedVerdict, IsOfBox, cell_there, capped, AreJudgedFrom, IsVerdictInside, windows_of}
use Rattle.drain_merge.proofs.JoinedWindows.{filled, lies, placed, report, short_cols, short_rows}
use Rattle.drain_merge.proofs.JudgedWindows.{apart, first_inside, sums_of_judged, there_is, window_places}
use Rattle.std.proofs.lemmas.Nat.{mul-le}

-- no count of a box's cells is above the numbers of 64 bits
fits : (e : Extent) (n : ℕ) → e.rows < 2 ^ 32 → e.cols < 2 ^ 32 → n ≤ e.rows * e.cols → capped n ≡ n
fits e n rows cols most =
    let product : e.rows * e.cols ≤ (2 ^ 32 - 1) * (2 ^ 32 - 1) = mul-le e.rows e.cols (2 ^ 32 - 1) (2 ^ 32 - 1) (omega arith) (omega arith) in
    omega arith

module _ (last : ℕ) (most_last : last ≤ 2 ^ 32) (ws : List WindowReport) (j : WindowReport) (is : IsJoinUpTo last ws j) (window_of : Report → Window) (judged : AreJudgedFrom window_of ws)
    (origin : Cell) (u : Grid) (ps : Products) (from : IsFrom origin j.report.place) (are : AreWindowsFrom origin u ps (windows_of window_of ws)) where
  abbrev box : Place
  box = j.report.place

  abbrev shown : Window
  shown = shown_at origin box u ps

  abbrev windows : List Window
  windows = windows_of window_of ws

  filled_by_windows : FillPlace SEAM_DEPTH box (map (λ (w : Window). w.place) windows)
  filled_by_windows = subst (FillPlace SEAM_DEPTH box) (sym (window_places window_of ws (λ w has. (judged w has).report.place))) (filled last most_last ws j is)

  -- a window's cell is the map's that its report names
  exact : (w : WindowReport) → Contains ws w → (c : Cell) → IsCellOf w.report.place.extent c → cell_there w.report.place c ≡ in_union w.report.place c
  exact w has c inside =
      let in_box = lies last most_last ws j is w has in
      there_is w.report.place c (omega (arith, in_box.rows_to, (short_rows last most_last ws j is).0)) (omega (arith, in_box.cols_to, (short_cols last most_last ws j is).0)) inside

  by_verdict : (v : UnionVerdict) → Agree v j.report → IsJoinedVerdict box ws v → IsVerdictInside j.report.nodata shown v
  by_verdict (Accepted counts) holds told =
      let all = sums_of_judged ws window_of judged told.0 in
      let add_up = join_adds_up origin u ps box windows from (placed last most_last ws j is window_of judged origin u ps from are) are filled_by_windows (apart ws window_of judged is.fills.apart) in
      let most = λ (n : ℕ). fits box.extent n (short_rows last most_last ws j is).1 (short_cols last most_last ws j is).1 in (
        (report last most_last ws j is window_of judged origin u ps from are).holds.0 holds,
        record {
          rows = told.1.rows;
          cols = told.1.cols;
          data_cells = told.1.data_cells ∙ ap capped (all.0 ∙ add_up.0) ∙ most _ (judged_most box (is_data shown.grid));
          raised = told.1.raised ∙ ap capped (all.1 ∙ add_up.1) ∙ most _ (judged_most box (is_raised shown.grid shown.products));
          outlets = told.1.outlets ∙ ap capped (all.2 ∙ add_up.2) ∙ most _ (judged_most box (has_outlet_code shown.grid shown.products));
        },
      )
  by_verdict (Rejected fault) holds told =
      let first = first_inside j.report.nodata ws is.one_nodata window_of judged (record { cell = in_union box fault.cell; rule = fault.rule }) told exact in
      let at = join_tells_fault origin u ps box j.report.nodata windows from (placed last most_last ws j is window_of judged origin u ps from are) are filled_by_windows
      first.0 first.2.0 fault.rule first.1 first.2.1 first.2.3 in
      subst (λ c. IsFirstInside j.report.nodata shown c fault.rule) (one_cell box at.0 fault.cell (at.1 ∙ first.2.2)) at.2

-- the report that windows make of their box is, on each union of which they are windows, of what it shows there
pub join_of_box : (last : ℕ) → last ≤ 2 ^ 32 → (ws : List WindowReport) (j : WindowReport) → IsJoinUpTo last ws j → IsOfBox ws j
join_of_box last most_last ws j is origin window_of judged u ps from are = (
  record {
    report = report last most_last ws j is window_of judged origin u ps from are;
    verdict = by_verdict last most_last ws j is window_of judged origin u ps from are j.verdict is.holds is.verdict;
  },
  record {
    placed = placed last most_last ws j is window_of judged origin u ps from are;
    extent = refl;
    values = λ c inside. refl;
    spacings = λ c inside. refl;
  },
)
