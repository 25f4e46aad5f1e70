-- What is made of windows that fill a box is the report of a join.
use Rattle.drain_merge.proofs.Names.{◌≡◌, ◌⊎◌, ℕ, ◌^◌, inl, inr, ◌+◌, ◌-◌, true, IsTrue, None, List, refl, sym, ap, subst, ◌∙◌, arith, All, Contains, false≢true, All-contains, Cell, NoDataNumbers, none_some, HoldsOuterSeams, IsJoined, Agree, is_accepted, Report, ShowTheSame, SpacedAlike, spacing_at, Place, SEAM_DEPTH, Outlet, WindowReport, UnionVerdict, Accepted, Rejected, from_map, to_map, IsJoinUpTo, IsJoinedVerdict, IsJoinOver, IsSmallestBox, box_of, whole_box, HaveGrid, FillBox, HaveNoData, all_seams, places_of, reports_of, fault_in, SomeIsRejected}
use Rattle.drain_union.specs.declared.union_grid.UnionGrid.{UnionGrid}
use Rattle.drain_merge.specs.MapBoxes.{IsWholeJoin}
use Rattle.drain_merge.proofs.JudgedWindows.{from_reports, some_rejected, some_window}
use Rattle.drain_merge.proofs.SortedSeams.{from_flat, in_flat}
use Rattle.drain_merge.proofs.WholeBoxes.{whole_is_smallest}

-- an accepted verdict has no fault, and a verdict without one is accepted
accepted_if : (p : Place) (v : UnionVerdict) → fault_in p v ≡ None → is_accepted v ≡ true
accepted_if p (Accepted counts) is = refl
accepted_if p (Rejected fault) is = absurd (none_some _ (sym is))

no_fault : (p : Place) (v : UnionVerdict) → is_accepted v ≡ true → fault_in p v ≡ None
no_fault p (Accepted counts) is = refl
no_fault p (Rejected fault) is = absurd (false≢true is)

module _ (p : Place) (ws : List WindowReport) (j : WindowReport) (over : IsJoinOver p ws j) (agree : All (λ w. Agree w.verdict w.report) ws) where
  agrees : (w : WindowReport) → Contains ws w → Agree w.verdict w.report
  agrees w has = All-contains (λ (x : WindowReport). Agree x.verdict x.report) ws w agree has

  all_hold : (v : UnionVerdict) → IsJoinedVerdict p ws v → is_accepted v ≡ true → (q : Report) → Contains (reports_of ws) q → IsTrue q.holds
  all_hold (Accepted counts) is accepts q has =
      let w = from_reports ws q has in
      subst (λ (r : Report). IsTrue r.holds) w.2 (agrees w.0 w.1 ∙ accepted_if w.0.report.place w.0.verdict (is.0 w.0 w.1))
  all_hold (Rejected fault) is accepts q has = absurd (false≢true accepts)

  holds_if : (v : UnionVerdict) → IsJoinedVerdict p ws v → ((q : Report) → Contains (reports_of ws) q → IsTrue q.holds) → is_accepted v ≡ true
  holds_if (Accepted counts) is all = refl
  holds_if (Rejected fault) is all =
      let w = is.0.0 in
      let holds = all w.report (to_map (λ (x : WindowReport). x.report) ws w is.0.1) in
      absurd (none_some _ (sym (no_fault w.report.place w.verdict (sym (agrees w is.0.1) ∙ holds)) ∙ is.0.2))

  spaced : (q : Report) → Contains (reports_of ws) q → SpacedAlike j.report q
  spaced q has = λ a b in_a in_b one.
      let w = from_reports ws q has in
      let at : Place = j.report.place in
      let top : j.report.place.top ≡ p.top = ap (λ (x : Place). x.top) over.place in
      let rows : j.report.place.extent.rows ≡ p.extent.rows = ap (λ (x : Place). x.extent.rows) over.place in
      let w_top : w.0.report.place.top ≡ q.place.top = ap (λ (r : Report). r.place.top) w.2 in
      let w_rows : w.0.report.place.extent.rows ≡ q.place.extent.rows = ap (λ (r : Report). r.place.extent.rows) w.2 in
      over.spacings w.0 a w.1 (record { from = omega (arith, one, top, w_top); below = omega (arith, one, top, w_top, w_rows, in_b) }) (omega (arith, rows, in_a))
      ∙ ap (λ (r : Report). spacing_at r.spacings (p.top + a - r.place.top)) w.2
      ∙ ap (spacing_at q.spacings) (omega (arith, one, top))

  joined : IsJoined SEAM_DEPTH j.report.place j.report.nodata (reports_of ws) j.report
  joined = record {
    place = refl;
    spaced = spaced;
    numbers = refl;
    holds = (
      (λ accepts. all_hold j.verdict over.verdict (sym over.holds ∙ accepts)),
      (λ all. over.holds ∙ holds_if j.verdict over.verdict all),
    );
    sorted = λ accepts. (over.lists accepts).sorted;
    outlets = λ accepts x. (
      (λ has.
          (let w = from_flat (λ (k : WindowReport). k.report.outlets) ws x (((over.lists accepts).outlets_are x).0 has) in
          (w.0.report.outlets, to_map (λ (r : Report). r.outlets) (reports_of ws) w.0.report (to_map (λ (k : WindowReport). k.report) ws w.0 w.1), w.2))),
      (λ some.
          (let r = from_map (λ (q : Report). q.outlets) (reports_of ws) some.0 some.1 in
          let w = from_reports ws r.0 r.1 in
          ((over.lists accepts).outlets_are x).1
          (in_flat (λ (k : WindowReport). k.report.outlets) ws w.0 x w.1 (subst (λ (xs : List Outlet). Contains xs x) (sym (ap (λ (q : Report). q.outlets) w.2 ∙ r.2)) some.2)))),
    );
    seams = λ accepts. subst (λ (box : Place). HoldsOuterSeams SEAM_DEPTH box (reports_of ws) j.report.seams) (sym over.place) (λ x. (
      (λ has.
          (let both = ((over.lists accepts).seams_are x).0 has in
          let w = from_flat (λ (k : WindowReport). k.report.seams) ws x both.1 in
          (both.0, (w.0.report, to_map (λ (k : WindowReport). k.report) ws w.0 w.1, w.2)))),
      (λ both.
          (let w = from_reports ws both.1.0 both.1.1 in
          ((over.lists accepts).seams_are x).1
          (both.0, in_flat (λ (k : WindowReport). k.report.seams) ws w.0 x w.1 (subst (λ (r : Report). Contains r.seams x) (sym w.2) both.1.2)))),
    ));
    sinks = λ accepts x. (
      (λ has.
          (let w = from_flat (λ (k : WindowReport). k.report.sinks) ws x (subst (λ (xs : List Cell). Contains xs x) (over.lists accepts).sinks_are has) in
          (w.0.report, to_map (λ (k : WindowReport). k.report) ws w.0 w.1, w.2))),
      (λ some.
          (let w = from_reports ws some.0 some.1 in
          subst (λ (xs : List Cell). Contains xs x) (sym (over.lists accepts).sinks_are)
          (in_flat (λ (k : WindowReport). k.report.sinks) ws w.0 x w.1 (subst (λ (r : Report). Contains r.sinks x) (sym w.2) some.2)))),
    );
  }

module _ (p : Place) (ws : List WindowReport) (j : WindowReport) (over : IsJoinOver p ws j) where
  agree_or_rejected : (v : UnionVerdict) → v ≡ j.verdict → IsJoinedVerdict p ws v → SomeIsRejected ws ⊎ ShowTheSame (all_seams ws) (all_seams ws)
  agree_or_rejected (Accepted counts) same is = inr (over.lists (over.holds ∙ ap is_accepted (sym same))).agree
  agree_or_rejected (Rejected fault) same is = inl (some_rejected ws _ is)

  pub made_join : (last : ℕ) → IsSmallestBox last ws p → IsJoinUpTo last ws j
  made_join last smallest = record {
    some = over.some;
    one_grid = subst (λ (g : UnionGrid). HaveGrid g ws) (sym (over.grid j)) (over.make.alike.grid j);
    one_nodata = subst (λ (n : NoDataNumbers). HaveNoData n ws) (sym (over.nodata j ∙ over.make.alike.nodata.1 0 j over.some)) over.make.alike.nodata.1;
    spaced = over.make.alike.spaced;
    box = subst (IsSmallestBox last ws) (sym over.place) smallest;
    fills = subst (λ (box : Place). FillBox box (places_of ws)) (sym over.place) over.make.fills;
    agree = agree_or_rejected j.verdict refl over.verdict;
    made = λ agree. joined p ws j over agree;
    holds = over.holds;
    verdict = subst (λ (box : Place). IsJoinedVerdict box ws j.verdict) (sym over.place) over.verdict;
  }

-- of a box without an inner side too
pub whole_join : (ws : List WindowReport) (j : WindowReport) → IsWholeJoin ws j → IsJoinUpTo (2 ^ 32) ws j
whole_join ws j over =
    let one = some_window ws over.some in
    made_join (whole_box (box_of ws)) ws j over (2 ^ 32) (whole_is_smallest (box_of ws) ws over.make.fills one.0 one.1 (2 ^ 32) refl)
