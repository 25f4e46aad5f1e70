-- The verdict on a union from one report of all of it, and so from the windows that this report stands for: what the union
-- shows at a box without an inner side, from its first cell on, is the union.
use Rattle.drain_merge.proofs.Names.{◌≡◌, ◌↔◌, ◌⊎◌, ◌-◌, ◌+◌, inl, inr, pos, Some, List, [], ◌∷◌, refl, sym, ap, subst, ◌∙◌, arith, false≢true, Contains, Cell, Rule, SharedLabel, IsCellOf, IsEarlier, Extent, Grid, Products, IsInside, HasData, IsEarlierPair, IsFirstFault, IsAnyRule, IsPatchRule, unranked, values_at, NoDataNumbers, place, Outlet, Fault, Place, SEAM_DEPTH, ListsOutlets, ListsSinks, ShareNoLabel, Report, IsReportOf, Window, cell_from, in_union, shown_at, window_from, place_from, IsFrom, IsFirstInside, IsJudgedIn, IsJudgedOutlet, IsNotBefore, IsWindowOf, JudgeAll, RulesHoldInside, AreWindowsFrom, AreWindowsOf, counts_add_up, judged_data, judged_raised, judged_outlets, least_fault_is_first, one_cell, from_map, to_map, WindowReport, UnionBox, UnionVerdict, Accepted, Rejected, IsFirstSharing, AreUnionCounts, AreJudgedFrom, IsJudgedFrom, IsTriedWith, IsVerdictInside, IsUnionVerdict, SomeIsRejected, StandsFor, is_among, is_listed, UnionSinks, HasSinks, TakeSinks, IsRejected, box_at, whole_box, windows_of, Bool, true, false, map}
use Rattle.drain_grid.specs.Correct.{IsCorrect}
use Rattle.drain_grid.specs.GridRules.{HoldsAt}
use Rattle.drain_grid.proofs.Exactly.{correct_by_rules_alone}
use Rattle.drain_union.proofs.Merges.{line_of}
use Rattle.drain_union.proofs.Unions.{by_patch, correct_by_windows, outlet_there, outlet_back, bas_same}
use Rattle.drain_union.proofs.WindowPatches.{patch_of_window}
use Rattle.drain_union.specs.JudgedCounts.{AreCountsInside}
use Rattle.drain_union.specs.declared.verdict.UnionCounts.{UnionCounts}
use Rattle.drain_merge.specs.MapBoxes.{AreTaken, AreTakenBy, IsEndOf, sinks_in}
use Rattle.drain_merge.specs.UnionVerdicts.{HasCounts, IsAccepted, TellsFirstFault}
use Rattle.drain_merge.specs.declared.totals.UnionSinks.TheVariants.{AsTaken, Listed}
use Rattle.drain_merge.proofs.SingleWindows.{not_itself, only_one, sum_of_one}
use Rattle.drain_merge.proofs.SortedSeams.{at_place, contained_if_has, first_one}

-- two tests of which each passes where the other does
one_test : (a b : Bool) → (a ≡ true → b ≡ true) → (b ≡ true → a ≡ true) → a ≡ b
one_test true b there back = sym (there refl)
one_test false true there back = back refl
one_test false false there back = refl

module _ (b : UnionBox) where
  abbrev box : Place
  box = whole_box b

  -- the place of the window that is the union
  abbrev all : Place
  all = place_from b.origin box

  -- its cells are the union's
  same : (c : Cell) → in_union all c ≡ c
  same c =
      let row : b.origin.row - b.origin.row + c.row ≡ c.row = omega arith in
      let col : b.origin.col - b.origin.col + c.col ≡ c.col = omega arith in
      λ i. place (row i) (col i)

  -- and so are the map's, counted from its first one
  counted : (c : Cell) → cell_from b.origin (in_union box c) ≡ c
  counted c =
      let row : b.origin.row + c.row - b.origin.row ≡ c.row = omega arith in
      let col : b.origin.col + c.col - b.origin.col ≡ c.col = omega arith in
      λ i. place (row i) (col i)

  in_all : (c : Cell) → IsCellOf b.size c → IsJudgedIn all c
  in_all c inside = record {
    inside = inside;
    north = λ never. absurd (false≢true never);
    south = λ never. absurd (false≢true never);
    west = λ never. absurd (false≢true never);
    east = λ never. absurd (false≢true never);
  }

  in_box : (c : Cell) → IsCellOf b.size c → IsJudgedIn box c
  in_box c inside = record {
    inside = inside;
    north = λ never. absurd (false≢true never);
    south = λ never. absurd (false≢true never);
    west = λ never. absurd (false≢true never);
    east = λ never. absurd (false≢true never);
  }

  -- cells of the box are in row order as the union's are
  earlier_there : (a c : Cell) → IsEarlier a c → IsEarlier (in_union box a) (in_union box c)
  earlier_there a c (inl row) = inl (omega (arith, row))
  earlier_there a c (inr both) = inr (omega (arith, both.0), omega (arith, both.1))

  earlier_back : (a c : Cell) → IsEarlier (in_union box a) (in_union box c) → IsEarlier a c
  earlier_back a c (inl row) = inl (omega (arith, row))
  earlier_back a c (inr both) = inr (omega (arith, both.0), omega (arith, both.1))

  module _ (n : NoDataNumbers) (u : Grid) (ps : Products) (size : u.extent ≡ b.size) (of : IsWindowOf u ps (window_from b.origin (shown_at b.origin box u ps))) where
    abbrev shown : Window
    shown = shown_at b.origin box u ps

    abbrev w : Window
    w = window_from b.origin shown

    abbrev windows : List Window
    windows = w ∷ []

    one : Contains windows w
    one = first_one w []

    are : AreWindowsOf u ps windows
    are v has = subst (IsWindowOf u ps) (only_one w v has) of

    inside_box : (c : Cell) → IsInside u c → IsCellOf b.size c
    inside_box c inside = subst (λ (e : Extent). IsCellOf e c) size inside

    judge : JudgeAll u.extent windows
    judge c inside = (w, one, (c, in_all c (inside_box c inside), same c))

    outlet_in_all : (c : Cell) → IsJudgedOutlet shown c → IsJudgedOutlet w c
    outlet_in_all c out = record { judged = in_all c out.judged.inside; has_data = out.has_data; code = out.code }

    outlet_in_box : (c : Cell) → IsJudgedOutlet w c → IsJudgedOutlet shown c
    outlet_in_box c out = record { judged = in_box c out.judged.inside; has_data = out.has_data; code = out.code }

    -- a fault among rules of a patch, or among all, shows that products aren't correct
    not_correct : (IsOwn : Rule → Type 0) (c : Cell) (r : Rule) → ((q : Rule) → IsOwn q → IsAnyRule q) → IsFirstFault (unranked n) IsOwn u ps c r → ¬ IsCorrect u ps n
    not_correct IsOwn c r any fault correct = fault.fails ((correct_by_rules_alone u ps n).0 correct c r fault.inside (any r fault.is_own))

    -- the first fault of its judged cells is the union's among the rules of a patch
    first_of_patches : (c : Cell) (r : Rule) → IsFirstInside n shown c r → IsFirstFault (unranked n) IsPatchRule u ps c r
    first_of_patches c r is =
        let fault : IsFirstInside n w c r = record {
          judged = in_all c is.judged.inside;
          is_own = is.is_own;
          fails = is.fails;
          first = λ a q judged own before. is.first a q (in_box a judged.inside) own before;
        } in
        subst (λ x. IsFirstFault (unranked n) IsPatchRule u ps x r) (same c)
        (least_fault_is_first u ps n windows are judge w c r one fault
        (λ v has. inr (subst (λ (x : Window). IsNotBefore n x (in_union all c) r) (only_one w v has) (c, r, fault, not_itself (in_union all c) r))))

    counts_of_union : (k : UnionCounts) → AreCountsInside shown k → AreUnionCounts u ps k
    counts_of_union k inside =
        let add_up = counts_add_up u ps windows are judge (λ i j d before below. absurd (omega (arith, before, below))) in
        record {
          rows = inside.rows ∙ ap (λ (e : Extent). e.rows) (sym size);
          cols = inside.cols ∙ ap (λ (e : Extent). e.cols) (sym size);
          data_cells = inside.data_cells ∙ sum_of_one judged_data w ∙ add_up.0;
          raised = inside.raised ∙ sum_of_one judged_raised w ∙ add_up.1;
          outlets = inside.outlets ∙ sum_of_one judged_outlets w ∙ add_up.2;
        }

    -- where the rules of a patch hold at its cells, and this list has its outlets
    module _ (hold : RulesHoldInside n shown) (xs : List Outlet) (lists : ListsOutlets shown xs) where
      hold_in_all : RulesHoldInside n w
      hold_in_all c r judged own = hold c r (in_box c judged.inside) own

      is_correct : ShareNoLabel xs xs → IsCorrect u ps n
      is_correct none =
          (correct_by_windows u ps n windows are judge).1 (
            (λ v has. subst (RulesHoldInside n) (only_one w v has) hold_in_all),
            (λ v x at_v at_x a c.
                subst (λ (z : Window). IsJudgedOutlet z a → IsJudgedOutlet x c → z.products.bas a ≡ x.products.bas c → in_union z.place a ≡ in_union x.place c) (only_one w v at_v)
                (subst (λ (z : Window). IsJudgedOutlet w a → IsJudgedOutlet z c → w.products.bas a ≡ z.products.bas c → in_union all a ≡ in_union z.place c) (only_one w x at_x)
                (λ out_a out_c one_label.
                ap (in_union all)
                (one_cell box a c (none _ _ (lists.complete a (outlet_in_box a out_a)) (lists.complete c (outlet_in_box c out_c)) one_label))))),
          )

      patches_hold : (c : Cell) (r : Rule) → IsInside u c → IsPatchRule r → HoldsAt (unranked n) u ps c r
      patches_hold c r inside own =
          let judged = in_all c (inside_box c inside) in
          subst (λ x. HoldsAt (unranked n) u ps x r) (same c)
          (by_patch (unranked n) w.grid u w.products ps c (in_union all c) r own (patch_of_window u ps w of c judged) (hold_in_all c r judged own))

      -- an outlet of the union is in the list
      listed : (c : Cell) → HasData u c → ps.dir c ≡ pos 0 → Contains xs (record { label = ps.bas c; cell = in_union box c })
      listed c here code =
          let judged = in_all c (inside_box c here.inside) in
          let out = outlet_back u ps n windows are judge w one c judged (subst (HasData u) (sym (same c)) here) (ap ps.dir (same c) ∙ code) in
          subst (λ label. Contains xs (record { label = label; cell = in_union box c })) (bas_same u ps n windows are judge w one c judged ∙ ap ps.bas (same c))
          (lists.complete c (outlet_in_box c out))

      -- and what is in the list is an outlet of the union
      outlet_of_union : (x : Outlet) → Contains xs x → (c : Cell) × HasData u c × (ps.dir c ≡ pos 0) × (x.label ≡ ps.bas c) × (in_union box c ≡ x.cell)
      outlet_of_union x has =
          let out = lists.sound x has in
          let there = outlet_there u ps n windows are judge w one out.0 (outlet_in_all out.0 out.1) in (
            out.0,
            subst (HasData u) (same out.0) there.0,
            ap ps.dir (sym (same out.0)) ∙ there.1,
            sym out.2 ∙ there.2 ∙ ap ps.bas (same out.0),
            out.3,
          )

      first_shared_label : (c : Cell) → IsFirstSharing xs (Some c) → IsFirstFault (unranked n) IsAnyRule u ps (cell_from b.origin c) SharedLabel
      first_shared_label c first =
          let x = outlet_of_union first.0.0 first.0.2 in
          let y = outlet_of_union first.0.1 first.0.3 in
          let is : in_union box y.0 ≡ c = y.4 ∙ first.0.5 in
          let before : IsEarlier x.0 y.0 =
          earlier_back x.0 y.0
          (subst (λ a. IsEarlier a (in_union box y.0)) (sym x.4) (subst (IsEarlier first.0.0.cell) (sym y.4) first.0.4.1)) in
          subst (λ a. IsFirstFault (unranked n) IsAnyRule u ps a SharedLabel) (sym (counted y.0) ∙ ap (cell_from b.origin) is)
          (record {
            inside = y.1.inside;
            is_own = (omega arith, omega arith);
            fails = λ holds. holds y.1 y.2 x.0 x.1 before x.2 (sym x.3 ∙ first.0.4.0 ∙ y.3);
            first = earlier y.0 is;
          })
        where
          earlier : (d : Cell) → in_union box d ≡ c → (a : Cell) (q : Rule) → IsInside u a → IsAnyRule q → IsEarlierPair a q d SharedLabel → HoldsAt (unranked n) u ps a q
          earlier d is a SharedLabel inside own (inl before) = λ here code e there_e sooner code_e label.
              first.1 (record { label = ps.bas e; cell = in_union box e }) (record { label = ps.bas a; cell = in_union box a }) (listed e there_e code_e) (listed a here code)
              (label, earlier_there e a sooner) (subst (IsEarlier (in_union box a)) is (earlier_there a d before))
          earlier d is a SharedLabel inside own (inr alike) = absurd (omega (arith, alike.1))
          earlier d is a q inside own pair = patches_hold a q inside (omega arith, omega arith)

    -- the union has the sinks that it shows at the box, if the list holds these, counted from its first cell
    has_sinks : (xs : List Cell) → ListsSinks shown xs → (sinks : UnionSinks) → TakeSinks sinks (map (cell_from b.origin) xs) → HasSinks sinks u
    has_sinks xs lists AsTaken taken = tt
    has_sinks xs lists (Listed lines) taken = λ c inside. one_test (u.sink c) (is_listed lines c) (there c inside) (back c)
      where
        sinks : List Cell
        sinks = map (cell_from b.origin) xs

        there : (c : Cell) → IsInside u c → u.sink c ≡ true → is_listed lines c ≡ true
        there c inside sink =
            let has = to_map (cell_from b.origin) xs _ (lists.complete c (in_box c (inside_box c inside)) (ap u.sink (same c) ∙ sink)) in
            let at = at_place (map (cell_from b.origin) xs) c (subst (Contains (map (cell_from b.origin) xs)) (counted c) has) in
            taken.1 at.0 c at.1

        back : (c : Cell) → is_listed lines c ≡ true → u.sink c ≡ true
        back c is =
            let line = line_of lines c is in
            let at = contained_if_has (map (cell_from b.origin) xs) c (ap (is_among (map (cell_from b.origin) xs)) line.4 ∙ taken.0 line.0 line.2 line.3) in
            let k = from_map (cell_from b.origin) xs c at in
            let x = lists.sound k.0 k.1 in
            ap u.sink (sym k.2 ∙ ap (cell_from b.origin) (sym x.3) ∙ counted x.0 ∙ sym (same x.0)) ∙ x.2

-- What a verdict says of a union.
pub record IsRightOn (n : NoDataNumbers) (u : Grid) (ps : Products) (v : UnionVerdict) : Type 0 where
  pub exactly : IsAccepted v ↔ IsCorrect u ps n
  pub counts : HasCounts u ps v
  pub first : TellsFirstFault n u ps v

any_patch : (q : Rule) → IsPatchRule q → IsAnyRule q
any_patch q own = (own.0, omega (arith, own.1))

-- of the rules with which one of a patch is tried
as_tried : (n : NoDataNumbers) (u : Grid) (ps : Products) (c : Cell) (r : Rule) → IsPatchRule r → IsFirstFault (unranked n) IsPatchRule u ps c r →
    IsFirstFault (unranked n) (IsTriedWith r) u ps c r
as_tried n u ps c SharedLabel own fault = absurd (omega (arith, own.1))
as_tried n u ps c r own fault = fault

-- the end of a report of all of a union is right on it
module _ (b : UnionBox) (r : Report) (is_at : r.place ≡ whole_box b) (u : Grid) (ps : Products) (size : u.extent ≡ b.size)
    (of : IsWindowOf u ps (window_from b.origin (shown_at b.origin (whole_box b) u ps))) (is : IsReportOf SEAM_DEPTH (shown_at b.origin (whole_box b) u ps) r) where
  right : (told v : UnionVerdict) → IsVerdictInside r.nodata (shown_at b.origin (whole_box b) u ps) told → IsEndOf told r v → IsRightOn r.nodata u ps v
  right (Rejected fault) v inside end =
      let first = first_of_patches b r.nodata u ps size of fault.cell fault.rule inside in
      subst (IsRightOn r.nodata u ps) (sym end) (record {
        exactly = (
          (λ no. absurd no),
          (λ correct. absurd (not_correct b r.nodata u ps size of IsPatchRule fault.cell fault.rule any_patch first correct)),
        );
        counts = tt;
        first = as_tried r.nodata u ps fault.cell fault.rule first.is_own first;
      })
  right (Accepted counts) (Accepted more) inside (one, none) = record {
    exactly = (
      (λ accepts. is_correct b r.nodata u ps size of inside.0 r.outlets (is.outlets (is.holds.1 inside.0)) none),
      (λ correct. tt),
    );
    counts = subst (AreUnionCounts u ps) (sym one) (counts_of_union b r.nodata u ps size of counts inside.1);
    first = tt;
  }
  right (Accepted counts) (Rejected fault) inside (c, named, shares) =
      let first =
      first_shared_label b r.nodata u ps size of inside.0 r.outlets (is.outlets (is.holds.1 inside.0)) c shares in
      let there = ap (λ (p : Place). record { cell = cell_from (box_at p).origin c; rule = SharedLabel }) is_at in
      subst (λ (f : Fault). IsRightOn r.nodata u ps (Rejected f)) (sym (named ∙ there)) (record {
        exactly = (
          (λ no. absurd no),
          (λ correct.
              absurd (not_correct b r.nodata u ps size of IsAnyRule (cell_from b.origin c) SharedLabel (λ q own. own) first correct)),
        );
        counts = tt;
        first = first;
      })

-- a window that lies at the box, as a union of its own
own_union : (b : UnionBox) (w : Window) → w.place ≡ whole_box b → w.grid.extent ≡ w.place.extent → IsWindowOf w.grid w.products (window_from b.origin w)
own_union b w at size = record {
  placed = record {
    rows = omega (arith, ap (λ (p : Place). p.top) at, ap (λ (e : Extent). e.rows) size);
    cols = omega (arith, ap (λ (p : Place). p.left) at, ap (λ (e : Extent). e.cols) size);
    north = inr (omega (arith, ap (λ (p : Place). p.top) at));
    south = inr (omega (arith, ap (λ (p : Place). p.top) at, ap (λ (e : Extent). e.rows) size));
    west = inr (omega (arith, ap (λ (p : Place). p.left) at));
    east = inr (omega (arith, ap (λ (p : Place). p.left) at, ap (λ (e : Extent). e.cols) size));
  };
  extent = size;
  values = λ c inside. ap (values_at w.grid w.products) (sym (its_own c));
  spacings = λ c inside. ap (λ (x : Cell). w.grid.spacing x.row) (sym (its_own c));
}
  where
    its_own : (c : Cell) → in_union (place_from b.origin w.place) c ≡ c
    its_own c = ap (λ (p : Place). in_union (place_from b.origin p) c) at ∙ same b c

-- Windows for which a report of all of a union stands.
module _ (b : UnionBox) (ws : List WindowReport) (made : (Report → Window) → Window) (j : WindowReport) (at : j.report.place ≡ whole_box b)
    (stands : StandsFor ws made j) where
  from_box : IsFrom b.origin j.report.place
  from_box = subst (IsFrom b.origin) (sym at) (record { rows = omega arith; cols = omega arith })

  module _ (window_of : Report → Window) (judged : AreJudgedFrom window_of ws) where
    union : SomeIsRejected ws ⊎ ((u : Grid) × (ps : Products) × (u.extent ≡ b.size) × AreWindowsFrom b.origin u ps (windows_of window_of ws))
    union =
        elim stands.one [
          | inl some ↦ inl some
          | inr of_made ↦
              (let of = of_made window_of judged in
              let w = made window_of in
              let lies : w.place ≡ whole_box b = sym of.0.report.place ∙ at in
              inr (
                w.grid,
                w.products,
                of.0.report.extent ∙ ap (λ (p : Place). p.extent) lies,
                of.1 b.origin w.grid w.products from_box (own_union b w lies of.0.report.extent),
              ))
        ]

    module _ (u : Grid) (ps : Products) (size : u.extent ≡ b.size) (are_from : AreWindowsFrom b.origin u ps (windows_of window_of ws)) where
      -- the report is of what the union shows at the box, which is a window of it
      shows : IsJudgedFrom (shown_at b.origin (whole_box b) u ps) j × IsWindowOf u ps (window_from b.origin (shown_at b.origin (whole_box b) u ps))
      shows =
          subst (λ (p : Place). IsJudgedFrom (shown_at b.origin p u ps) j × IsWindowOf u ps (window_from b.origin (shown_at b.origin p u ps))) at
          (stands.of_box b.origin window_of judged u ps from_box are_from)

      right_on : (v : UnionVerdict) → IsEndOf j.verdict j.report v → IsRightOn j.report.nodata u ps v
      right_on v end = right b j.report at u ps size shows.1 shows.0.report j.verdict v shows.0.verdict end

  none_rejected : (told v : UnionVerdict) → told ≡ j.verdict → IsEndOf told j.report v → IsAccepted v → ¬ SomeIsRejected ws
  none_rejected (Accepted counts) v told_is end accepts some = subst IsRejected (sym told_is) (stands.rejected.1 some)
  none_rejected (Rejected fault) v told_is end accepts some = subst IsAccepted end accepts

  pub union_verdict : (v : UnionVerdict) → IsEndOf j.verdict j.report v → IsUnionVerdict b ws v
  union_verdict v end = record {
    nodata = j.report.nodata;
    one_nodata = stands.nodata;
    none = none_rejected j.verdict v refl end;
    means = λ window_of judged. record {
      one_union = union window_of judged;
      exactly = λ u ps size are. (right_on window_of judged u ps size are v end).exactly;
      counts = λ u ps size are. (right_on window_of judged u ps size are v end).counts;
      first = λ u ps size are. (right_on window_of judged u ps size are v end).first;
    };
  }

  -- and the sinks that they took are the union's
  pub union_sinks : (sinks : UnionSinks) → AreTaken sinks j →
      SomeIsRejected ws
      ⊎ ((window_of : Report → Window) → AreJudgedFrom window_of ws → (u : Grid) (ps : Products) → u.extent ≡ b.size → AreWindowsFrom b.origin u ps (windows_of window_of ws) → HasSinks sinks u)
  union_sinks sinks taken = by_verdict j.verdict refl taken
    where
      by_verdict : (told : UnionVerdict) → told ≡ j.verdict → AreTakenBy told sinks (sinks_in j.report) →
          SomeIsRejected ws
          ⊎ ((window_of : Report → Window) → AreJudgedFrom window_of ws → (u : Grid) (ps : Products) → u.extent ≡ b.size → AreWindowsFrom b.origin u ps (windows_of window_of ws) → HasSinks sinks u)
      by_verdict (Rejected fault) same taken = inl (stands.rejected.0 (subst IsRejected same tt))
      by_verdict (Accepted counts) same taken =
          inr
          (λ window_of judged u ps size are.
          (let of = shows window_of judged u ps size are in
          let inside : IsVerdictInside j.report.nodata (shown_at b.origin (whole_box b) u ps) (Accepted counts) =
          subst (IsVerdictInside j.report.nodata (shown_at b.origin (whole_box b) u ps)) (sym same) of.0.verdict in
          has_sinks b j.report.nodata u ps size of.1 j.report.sinks (of.0.report.sinks (of.0.report.holds.1 inside.0)) sinks
          (subst (λ (p : Place). TakeSinks sinks (map (cell_from (box_at p).origin) j.report.sinks)) at taken)))
