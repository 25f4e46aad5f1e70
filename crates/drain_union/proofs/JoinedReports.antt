-- The report that the windows of a box make is a report of the box.
use Rattle.drain_union.proofs.Names.{◌≡◌, ◌↔◌, ℕ, ◌+◌, ◌-◌, ◌<◌, inl, inr, List, map, IsTrue, IsSome, refl, sym, ap, subst, ◌∙◌, arith, Contains, Cell, IsCellOf, Values, NoDataNumbers, Grid, Products, IsInside, values_at, unranked, place, Place, SEAM_DEPTH, Outlet, shown_at, FillPlace, IsJoined, IsOuter, JoinIsReport, IsOnSeam, IsReportOf, ListsOutlets, ListsSeams, ListsSinks, ListsSpacings, Report, Window, in_union, place_from, window_from, AreWindowsFrom, IsFrom, IsJudgedIn, IsJudgedOutlet, IsPlaceIn, IsWindowOf, JudgesSome, RulesHoldInside}
use Rattle.drain_union.specs.declared.report.Shown.{Shown}
use Rattle.drain_union.proofs.BoxWindows as boxes
use Rattle.drain_union.proofs.FilledPlaces.{near, IsNear}
use Rattle.drain_union.proofs.ReportMerges.{from_map, to_map}
use Rattle.drain_union.proofs.Unions.{by_patch, in_grid}

-- the outlet is one where the same values are shown
outlet_moved : (v w : Window) (x c : Cell) → IsJudgedIn w.place c → IsInside w.grid c →
    values_at v.grid v.products x ≡ values_at w.grid w.products c → IsJudgedOutlet v x → IsJudgedOutlet w c
outlet_moved v w x c judged inside same outlet = record {
  judged = judged;
  has_data = record { inside = inside; is_data = subst (λ (k : Values). IsSome k.z) same outlet.has_data.is_data };
  code = sym (ap (λ (k : Values). k.dir) same) ∙ outlet.code;
}

module _ (origin : Cell) (u : Grid) (ps : Products) (box : Place) (nodata : NoDataNumbers) (reports : List Report) (window_of : Report → Window)
    (joined : Report) (from : IsFrom origin box) (placed : IsPlaceIn u.extent (place_from origin box))
    (are : AreWindowsFrom origin u ps (map window_of reports))
    (of : (r : Report) → Contains reports r → IsReportOf SEAM_DEPTH (window_of r) r)
    (one_nodata : (r : Report) → Contains reports r → r.nodata ≡ nodata) (some : JudgesSome box)
    (fills : FillPlace SEAM_DEPTH box (map (λ r. r.place) reports)) (is : IsJoined SEAM_DEPTH box nodata reports joined) where
  abbrev shown : Window
  shown = shown_at origin box u ps

  part : (q : Report) → Contains reports q → IsFrom origin (window_of q).place × IsWindowOf u ps (window_from origin (window_of q))
  part q has = are (window_of q) (to_map window_of reports q has)

  -- a cell that the box judges is judged in a window, and the other way round
  down : (c : Cell) → IsJudgedIn box c →
      (q : Report) × Contains reports q × ((x : Cell) × IsJudgedIn (window_of q).place x × (in_union (window_of q).place x ≡ in_union box c))
  down = boxes.down (λ (r : Report). r.place) window_of reports (λ r has. (of r has).place) box fills

  up : (q : Report) → Contains reports q → (x : Cell) → IsJudgedIn (window_of q).place x →
      (c : Cell) × IsJudgedIn box c × (in_union box c ≡ in_union (window_of q).place x)
  up = boxes.up (λ (r : Report). r.place) window_of reports (λ r has. (of r has).place) box fills

  -- a cell on a seam of the box is on a seam of a window
  on_seam : (c : Cell) → IsOnSeam SEAM_DEPTH box c → (q : Report) × Contains reports q × IsOuter SEAM_DEPTH (window_of q).place (in_union box c)
  on_seam c on =
      let there = fills.seams c on in
      let one = from_map (λ (r : Report). r.place) reports there.0 there.1 in
      (one.0, one.1, subst (λ (k : Place). IsOuter SEAM_DEPTH k (in_union box c)) (sym one.2 ∙ (of one.0 one.1).place) there.2)

  values_same : (q : Report) → Contains reports q → (x c : Cell) → IsCellOf (window_of q).place.extent x →
      in_union (window_of q).place x ≡ in_union box c → values_at (window_of q).grid (window_of q).products x ≡ values_at shown.grid shown.products c
  values_same q has = boxes.values_same origin u ps box from placed (window_of q) (part q has).0 (part q has).1

  numbers : (q : Report) → Contains reports q → q.nodata ≡ joined.nodata
  numbers q has = one_nodata q has ∙ sym is.numbers

  holds : IsTrue joined.holds ↔ RulesHoldInside joined.nodata shown
  holds = (
    (λ h c r judged own.
        (let at = down c judged in
        let q = at.0 in
        by_patch (unranked joined.nodata) (window_of q).grid shown.grid (window_of q).products shown.products at.2.0 c r own
        (boxes.patch_same origin u ps box from placed (window_of q) (part q at.1).0 (part q at.1).1 at.2.0 c at.2.1 judged at.2.2)
        (subst (λ (n : NoDataNumbers). RulesHoldInside n (window_of q)) (numbers q at.1) ((of q at.1).holds.0 (is.holds.0 h q at.1)) at.2.0 r at.2.1 own))),
    (λ rules. is.holds.1 (λ q has. (of q has).holds.1 (subst (λ (n : NoDataNumbers). RulesHoldInside n (window_of q)) (sym (numbers q has))
        (λ x r judged own.
        (let at = up q has x judged in
        by_patch (unranked joined.nodata) shown.grid (window_of q).grid shown.products (window_of q).products at.0 x r own
        (sym (boxes.patch_same origin u ps box from placed (window_of q) (part q has).0 (part q has).1 x at.0 judged at.1 (sym at.2)))
        (rules at.0 r at.1 own)))))),
  )

  -- each row of the box is one of a window
  row_there : (row : ℕ) → row < box.extent.rows →
      (q : Report) × Contains reports q × ((x : Cell) × IsCellOf (window_of q).place.extent x × ((window_of q).place.top + x.row ≡ box.top + row))
  row_there row below = by_ring (near box.inner.north box.inner.south box.extent.rows row some.0.row below some.1.inside.row some.1.north some.1.south)
    where
      -- that of a cell on a seam
      by_seam : IsOnSeam SEAM_DEPTH box (place row some.0.col) →
          (q : Report) × Contains reports q × ((x : Cell) × IsCellOf (window_of q).place.extent x × ((window_of q).place.top + x.row ≡ box.top + row))
      by_seam on =
          let at = on_seam (place row some.0.col) on in
          (at.0, at.1, (at.2.0, at.2.1.inside, ap (λ (c : Cell). c.row) at.2.2))

      -- or that of a judged cell
      by_ring :
          (k : ℕ) × (k < box.extent.rows) × (IsTrue box.inner.north → 0 < k) × (IsTrue box.inner.south → k + 1 < box.extent.rows)
          × IsNear box.inner.north box.inner.south box.extent.rows row k →
          (q : Report) × Contains reports q × ((x : Cell) × IsCellOf (window_of q).place.extent x × ((window_of q).place.top + x.row ≡ box.top + row))
      by_ring (k, in_k, north, south, inl same) =
          let judged : IsJudgedIn box (place k some.0.col) =
          record { inside = record { row = in_k; col = some.1.inside.col }; north = north; south = south; west = some.1.west; east = some.1.east } in
          let at = down (place k some.0.col) judged in
          (at.0, at.1, (at.2.0, at.2.1.inside, ap (λ (c : Cell). c.row) at.2.2 ∙ ap (λ n. box.top + n) same))
      by_ring (k, in_k, north, south, inr (inl ring)) =
          by_seam (record { inside = record { row = below; col = some.1.inside.col }; beside = inl (inl (ring.0, omega (arith, ring.1))) })
      by_ring (k, in_k, north, south, inr (inr ring)) =
          by_seam (record { inside = record { row = below; col = some.1.inside.col }; beside = inl (inr (ring.0, omega (arith, ring.1))) })

  spacings : ListsSpacings shown joined.spacings
  spacings row below =
      let at = row_there row below in
      let q = at.0 in
      let w = window_of q in
      let x : Cell = at.2.0 in
      let of_q = of q at.1 in
      let of_w = part q at.1 in
      let inside : IsInside w.grid x = in_grid w of_q.extent x at.2.1 in
      let in_q : x.row < q.place.extent.rows = subst (λ (p : Place). x.row < p.extent.rows) (sym of_q.place) at.2.1.row in
      let in_joined : row < joined.place.extent.rows = subst (λ (p : Place). row < p.extent.rows) (sym is.place) below in
      let one : joined.place.top + row ≡ q.place.top + x.row =
      ap (λ (p : Place). p.top + row) is.place ∙ sym at.2.2 ∙ ap (λ (p : Place). p.top + x.row) (sym of_q.place) in
      let at_row : w.place.top + x.row ≡ box.top + row = at.2.2 in
      let in_map : box.top - origin.row + row ≡ w.place.top - origin.row + x.row = omega (arith, from.rows, of_w.0.rows, at_row) in
      ap u.spacing in_map ∙ sym (of_w.1.spacings x inside) ∙ of_q.spacings x.row inside.row ∙ sym (is.spaced q at.1 row x.row in_joined in_q one)

  module _ (h : IsTrue joined.holds) where
    hold : (q : Report) → Contains reports q → IsTrue q.holds
    hold q has = is.holds.0 h q has

    outlets : ListsOutlets shown joined.outlets
    outlets = record {
      sorted = is.sorted h;
      sound = λ x has.
          (let in_x = (is.outlets h x).0 has in
          let one = from_map (λ (r : Report). r.outlets) reports in_x.0 in_x.1 in
          let q = one.0 in
          let out = ((of q one.1).outlets (hold q one.1)).sound x (subst (λ (xs : List Outlet). Contains xs x) (sym one.2) in_x.2) in
          let at = up q one.1 out.0 out.1.judged in
          let same = values_same q one.1 out.0 at.0 out.1.judged.inside (sym at.2) in
          (at.0, outlet_moved (window_of q) shown out.0 at.0 at.1 at.1.inside same out.1, sym (ap (λ (k : Values). k.bas) same) ∙ out.2, at.2 ∙ out.3));
      complete = λ c outlet.
          (let at = down c outlet.judged in
          let q = at.0 in
          let same = values_same q at.1 at.2.0 c at.2.1.inside at.2.2 in
          let inside = in_grid (window_of q) (of q at.1).extent at.2.0 at.2.1.inside in
          let out = outlet_moved shown (window_of q) c at.2.0 at.2.1 inside (sym same) outlet in
          let listed = ((of q at.1).outlets (hold q at.1)).complete at.2.0 out in
          subst (λ (o : Outlet). Contains joined.outlets o) (λ i. record { label = ap (λ (k : Values). k.bas) same i; cell = at.2.2 i })
          ((is.outlets h _).1 (q.outlets, to_map (λ (r : Report). r.outlets) reports q at.1, listed)));
    }

    seams : ListsSeams SEAM_DEPTH shown joined.seams
    seams = record {
      sound = λ x has.
          (let both = (is.seams h x).0 has in
          let q = both.1.0 in
          let found = ((of q both.1.1).seams (hold q both.1.1)).sound x both.1.2 in
          let same = values_same q both.1.1 found.0 both.0.0 found.1.inside (found.2 ∙ sym both.0.2) in
          (both.0.0, both.0.1, both.0.2, sym same ∙ found.3));
      complete = λ c on.
          (let there = on_seam c on in
          let q = there.0 in
          let at = there.2 in
          let listed = ((of q there.1).seams (hold q there.1)).complete at.0 at.1 in
          let same = values_same q there.1 at.0 c at.1.inside at.2 in
          (is.seams h _).1 ((c, on, refl), (q, there.1, subst (λ (s : Shown). Contains q.seams s) (λ i. record { cell = at.2 i; values = same i }) listed)));
    }

    sinks : ListsSinks shown joined.sinks
    sinks = record {
      sound = λ x has.
          (let in_x = (is.sinks h x).0 has in
          let q = in_x.0 in
          let found = ((of q in_x.1).sinks (hold q in_x.1)).sound x in_x.2 in
          let at = up q in_x.1 found.0 found.1 in
          let same = values_same q in_x.1 found.0 at.0 found.1.inside (sym at.2) in
          (at.0, at.1, sym (ap (λ (k : Values). k.sink) same) ∙ found.2, at.2 ∙ found.3));
      complete = λ c judged sink.
          (let at = down c judged in
          let q = at.0 in
          let same = values_same q at.1 at.2.0 c at.2.1.inside at.2.2 in
          let listed = ((of q at.1).sinks (hold q at.1)).complete at.2.0 at.2.1 (ap (λ (k : Values). k.sink) same ∙ sink) in
          subst (λ (x : Cell). Contains joined.sinks x) at.2.2 ((is.sinks h _).1 (q, at.1, listed)));
    }

  report : IsReportOf SEAM_DEPTH shown joined
  report = record { place = is.place; extent = refl; spacings = spacings; holds = holds; outlets = outlets; seams = seams; sinks = sinks }

pub join_is_report : JoinIsReport
join_is_report origin u ps box nodata reports window_of joined from placed are of one_nodata some fills is =
    report origin u ps box nodata reports window_of joined from placed are of one_nodata some fills is
