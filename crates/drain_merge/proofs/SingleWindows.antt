-- The report of a window stands for itself: what a union shows at its place is what the window shows.
use Rattle.drain_merge.proofs.Names.{◌≡◌, ℕ, zero, suc, inl, inr, List, [], ◌∷◌, IsTrue, refl, sym, ap, subst, ◌∙◌, arith, Contains, sum_by, sum_by-cons, Contains-get_or, Cell, Rule, Grid, Products, IsEarlierPair, earlier_differs, Place, SEAM_DEPTH, Outlet, WindowReport, UnionVerdict, Accepted, Rejected, judged_data, judged_outlets, judged_raised, FillPlace, IsJoined, IsOuter, shown_at, IsReportOf, Report, SpacedAlike, spacing_at, AreWindowsFrom, in_union, IsFirstInside, IsFrom, IsJudgedIn, IsNotBefore, IsPlaceIn, IsWindowOf, JudgesSome, place_from, Window, window_from, join_adds_up, join_tells_fault, join_is_report, one_cell, WindowStands, IsJudgedFrom, IsRejected, IsVerdictInside}
use Rattle.drain_merge.proofs.SortedSeams.{first_one}

-- the one element of a list
pub only_one : {X : Type 0} (x y : X) → Contains (x ∷ []) y → x ≡ y
only_one x y (zero, below, is) = is
only_one x y (suc k, below, is) = absurd (omega (arith, below))

-- no pair comes before itself
pub not_itself : (c : Cell) (r : Rule) → ¬ IsEarlierPair c r c r
not_itself c r (inl before) = earlier_differs c c before refl
not_itself c r (inr alike) = omega (arith, alike.1)

pub sum_of_one : {X : Type 0} (f : X → ℕ) (x : X) → f x ≡ sum_by f (x ∷ [])
sum_of_one f x = omega (arith, sum_by-cons f x [])

-- a place fills itself
fills_itself : (p : Place) → FillPlace SEAM_DEPTH p (p ∷ [])
fills_itself p = record {
  within = λ c at. subst (λ (q : Place). (x : Cell) × IsJudgedIn q x × (in_union q x ≡ c)) (sym (only_one p at.0 at.1)) at.2;
  whole = λ c at. (p, first_one p [], at);
  seams = λ c on. (p, first_one p [], (c, on, refl));
}

module _ (w : Window) (r : Report) (of : IsReportOf SEAM_DEPTH w r) where
  -- and the report of a window joins itself
  joins_itself : IsJoined SEAM_DEPTH r.place r.nodata (r ∷ []) r
  joins_itself = record {
    place = refl;
    spaced = λ q has. subst (SpacedAlike r) (only_one r q has) (λ a b in_a in_b one. ap (spacing_at r.spacings) (omega (arith, one)));
    numbers = refl;
    holds = ((λ holds q has. subst (λ (x : Report). IsTrue x.holds) (only_one r q has) holds), (λ all. all r (first_one r [])));
    sorted = λ holds. (of.outlets holds).sorted;
    outlets = λ holds x. (
      (λ has. (r.outlets, first_one r.outlets [], has)),
      (λ some. subst (λ (xs : List Outlet). Contains xs x) (sym (only_one r.outlets some.0 some.1)) some.2),
    );
    seams = λ holds x. (
      (λ has.
          (let on = (of.seams holds).sound x has in
          (subst (λ (p : Place). IsOuter SEAM_DEPTH p x.cell) (sym of.place) (on.0, on.1, on.2), (r, first_one r [], has)))),
      (λ some. subst (λ (q : Report). Contains q.seams x) (sym (only_one r some.1.0 some.1.1)) some.1.2),
    );
    sinks = λ holds x. (
      (λ has. (r, first_one r [], has)),
      (λ some. subst (λ (q : Report). Contains q.sinks x) (sym (only_one r some.0 some.1)) some.2),
    );
  }

module _ (j : WindowReport) (some : JudgesSome j.report.place) (origin : Cell) (window_of : Report → Window) (is : IsJudgedFrom (window_of j.report) j)
    (u : Grid) (ps : Products) (from : IsFrom origin j.report.place) (are : AreWindowsFrom origin u ps (window_of j.report ∷ [])) where
  abbrev w : Window
  w = window_of j.report

  abbrev shown : Window
  shown = shown_at origin j.report.place u ps

  placed : IsPlaceIn u.extent (place_from origin j.report.place)
  placed = subst (λ (p : Place). IsPlaceIn u.extent (place_from origin p)) (sym is.report.place) (are w (first_one w [])).1.placed

  fills : FillPlace SEAM_DEPTH j.report.place (w.place ∷ [])
  fills = subst (λ (p : Place). FillPlace SEAM_DEPTH j.report.place (p ∷ [])) is.report.place (fills_itself j.report.place)

  report_shown : IsReportOf SEAM_DEPTH shown j.report
  report_shown =
      join_is_report origin u ps j.report.place j.report.nodata (j.report ∷ []) window_of j.report from placed are
      (λ r has. subst (λ (q : Report). IsReportOf SEAM_DEPTH (window_of q) q) (only_one j.report r has) is.report)
      (λ r has. ap (λ (q : Report). q.nodata) (sym (only_one j.report r has))) some (fills_itself j.report.place) (joins_itself w j.report is.report)

  verdict_shown : (v : UnionVerdict) → IsVerdictInside j.report.nodata w v → IsVerdictInside j.report.nodata shown v
  verdict_shown (Accepted counts) inside =
      let add_up = join_adds_up origin u ps j.report.place (w ∷ []) from placed are fills (λ a b d before below. absurd (omega (arith, before, below))) in (
        report_shown.holds.0 (is.report.holds.1 inside.0),
        record {
          rows = inside.1.rows ∙ ap (λ (p : Place). p.extent.rows) (sym is.report.place);
          cols = inside.1.cols ∙ ap (λ (p : Place). p.extent.cols) (sym is.report.place);
          data_cells = inside.1.data_cells ∙ sum_of_one judged_data w ∙ add_up.0;
          raised = inside.1.raised ∙ sum_of_one judged_raised w ∙ add_up.1;
          outlets = inside.1.outlets ∙ sum_of_one judged_outlets w ∙ add_up.2;
        },
      )
  verdict_shown (Rejected fault) inside =
      let at = join_tells_fault origin u ps j.report.place j.report.nodata (w ∷ []) from placed are fills w fault.cell fault.rule (first_one w []) inside
      (λ v has. inr (subst (λ (x : Window). IsNotBefore j.report.nodata x (in_union w.place fault.cell) fault.rule) (only_one w v has)
      (fault.cell, fault.rule, inside, not_itself (in_union w.place fault.cell) fault.rule))) in
      let same = at.1 ∙ ap (λ (p : Place). in_union p fault.cell) (sym is.report.place) in
      subst (λ c. IsFirstInside j.report.nodata shown c fault.rule) (one_cell j.report.place at.0 fault.cell same) at.2

pub window_stands : WindowStands
window_stands j some = record {
  begins = λ origin. (
    (λ from w has. subst (λ (x : WindowReport). IsFrom origin x.report.place) (only_one j w has) from),
    (λ all. all j (first_one j [])),
  );
  nodata = λ i d below. ap (λ (x : WindowReport). x.report.nodata) (sym (only_one j _ (Contains-get_or (j ∷ []) i d below)));
  rejected = (
    (λ rejected. (j, first_one j [], rejected)),
    (λ some. subst (λ (w : WindowReport). IsRejected w.verdict) (sym (only_one j some.0 some.1)) some.2),
  );
  of_box = λ origin window_of judged u ps from are.
      (let is = judged j (first_one j []) in (
        record {
          report = report_shown j some origin window_of is u ps from are;
          verdict = verdict_shown j some origin window_of is u ps from are j.verdict is.verdict;
        },
        record { placed = placed j some origin window_of is u ps from are; extent = refl; values = λ c inside. refl; spacings = λ c inside. refl },
      ));
  one = inr (λ window_of judged.
      (let is = judged j (first_one j []) in (
        is,
        λ origin u ps from of_it w has.
            subst (λ (v : Window). IsFrom origin v.place × IsWindowOf u ps (window_from origin v)) (only_one (window_of j.report) w has)
            (subst (IsFrom origin) is.report.place from, of_it),
      )));
}
