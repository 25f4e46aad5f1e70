-- In a sorted list equal labels stand together, so that to look at outlets side by side is enough.
use Rattle.drain_union.proofs.Names.{◌≡◌, refl, sym, ◌∙◌, arith, ℕ, suc, ◌<◌, true, inl, inr, Some, List, [], ◌∷◌, length, slice_get, subst, zero, ◌+◌, ◌-◌, ◌≤ℤ◌, slice_index_or, ap, Cell, Rule, VoidCell, Missing, SharedLabel, Grid, Products, HoldsAt, IsPatchRule, unranked, NoDataNumbers, FourNumbers, SortedTellsShared, MergeTellsShared, audited, IsSortedByLabel, NoneBesideShares, ShareNoLabel, false≢true, or_cases, cases_order, same_cell, same_cell_true, same_cell_self, Contains, ints, get_or_default, Outlet, NoLabelIsShared}
use Rattle.std.proofs.lemmas.List.Folds.{list_any_at}
use Rattle.std.proofs.lemmas.Option.{get_or_from_slice_get, slice_get_within}
use Rattle.drain_grid.specs.declared.sink_line.SinkLine.{SinkLine}
use Rattle.drain_grid.specs.SinkTexts.{is_listed}

-- The rules without ranks look at four no-data numbers: so where these four are the same, a rule of a patch holds
-- with the ones as with the others.

module _ (a b : NoDataNumbers) (con : a.con ≡ b.con) (dir : a.dir ≡ b.dir) (acc : a.acc ≡ b.acc) (bas : a.bas ≡ b.bas) where
  same : (g : Grid) (ps : Products) (c : Cell) (r : Rule) → IsPatchRule r → HoldsAt (unranked a) g ps c r → HoldsAt (unranked b) g ps c r
  same g ps c VoidCell own holds = λ void.
      (let blank = holds void in
      record { con_is = blank.con_is ∙ con; dir_is = blank.dir_is ∙ dir; acc_is = blank.acc_is ∙ acc; bas_is = blank.bas_is ∙ bas })
  same g ps c Missing own holds = λ full.
      (let there = holds full in
      record {
        con_differs = λ is. there.con_differs (is ∙ sym con);
        dir_differs = λ is. there.dir_differs (is ∙ sym dir);
        acc_differs = λ is. there.acc_differs (is ∙ sym acc);
        bas_differs = λ is. there.bas_differs (is ∙ sym bas);
      })
  same g ps c SharedLabel own holds = absurd (omega arith)
  same g ps c r own holds = holds

pub four_numbers : FourNumbers
four_numbers nodata w = (
  (
    (λ rules c r judged own. there w.grid w.products c r own (rules c r judged own)),
    (λ rules c r judged own. back w.grid w.products c r own (rules c r judged own)),
  ),
  λ c r first. record {
    judged = first.judged;
    is_own = first.is_own;
    fails = λ holds. first.fails (back w.grid w.products c r first.is_own holds);
    first = λ b q judged own before. there w.grid w.products b q own (first.first b q judged own before);
  },
)
  where
    there : (g : Grid) (ps : Products) (c : Cell) (r : Rule) → IsPatchRule r → HoldsAt (unranked nodata) g ps c r → HoldsAt (unranked (audited nodata)) g ps c r
    there = same nodata (audited nodata) refl refl refl refl

    back : (g : Grid) (ps : Products) (c : Cell) (r : Rule) → IsPatchRule r → HoldsAt (unranked (audited nodata)) g ps c r → HoldsAt (unranked nodata) g ps c r
    back = same (audited nodata) nodata refl refl refl refl

-- A cell is listed exactly if it is that of some line of a list of sinks.

-- the cell of a line is listed
pub listed_there : (lines : List SinkLine) (k : ℕ) (s : SinkLine) → slice_get lines k ≡ Some s → is_listed lines s.cell ≡ true
listed_there lines k s at =
    list_any_at (λ t. same_cell s.cell t.cell) lines k s (slice_get_within lines k s at)
    (subst (λ (t : SinkLine). same_cell s.cell t.cell ≡ true) (sym (get_or_from_slice_get lines k s s at)) (same_cell_self s.cell))

-- a listed cell is that of some line
pub line_of : (lines : List SinkLine) (c : Cell) → is_listed lines c ≡ true → (k : ℕ) × (k < length lines) × (s : SinkLine) × (slice_get lines k ≡ Some s) × (c ≡ s.cell)
line_of [] c is = absurd (false≢true is)
line_of (s ∷ rest) c is =
    elim (or_cases (same_cell c s.cell) (is_listed rest c) is) [
      | inl same ↦ (0, omega arith, s, refl, same_cell_true c s.cell same)
      | inr more ↦ (let f = line_of rest c more in (suc f.0, omega (arith, f.1), f.2, f.3, f.4))
    ]

-- y's label is no less, and where it is the same so is its cell
abbrev Follows : Outlet → Outlet → Type 0
Follows x y = (x.label ≤ℤ y.label) × (x.label ≡ y.label → x.cell ≡ y.cell)

Follows-trans : (x y z : Outlet) → Follows x y → Follows y z → Follows x z
Follows-trans x y z f g = (
  omega (arith, ints, f.0, g.0),
  λ same.
      (let first : x.label ≡ y.label = omega (arith, ints, f.0, g.0, same) in
      let second : y.label ≡ z.label = omega (arith, ints, f.0, g.0, same) in
      f.1 first ∙ g.1 second),
)

module _ (xs : List Outlet) (sorted : IsSortedByLabel xs) (beside : NoneBesideShares xs) where
  -- of two places the later one follows
  ahead : (n i : ℕ) (d : Outlet) → i + n < length xs → Follows (slice_index_or xs i d) (slice_index_or xs (i + n) d)
  ahead zero i d below = subst (λ k. Follows (slice_index_or xs i d) (slice_index_or xs k d)) (omega arith) (omega (arith, ints), λ same. refl)
  ahead (suc n) i d below =
      let next : i + n + 1 ≡ i + suc n = omega arith in
      let more : i + n + 1 < length xs = omega arith in
      subst (λ k. Follows (slice_index_or xs i d) (slice_index_or xs k d)) next
      (Follows-trans _ (slice_index_or xs (i + n) d) _ (ahead n i d (omega arith)) (sorted (i + n) d more, beside (i + n) d more))

  far : (i j : ℕ) (d : Outlet) → i < j → j < length xs → Follows (slice_index_or xs i d) (slice_index_or xs j d)
  far i j d before below =
      let is : i + (j - i) ≡ j = omega arith in
      subst (λ k. Follows (slice_index_or xs i d) (slice_index_or xs k d)) is (ahead (j - i) i d (omega arith))

  none_shared : ShareNoLabel xs xs
  none_shared x y has_x has_y same =
      let at_x : slice_index_or xs has_x.0 x ≡ x = has_x.2 in
      let at_y : slice_index_or xs has_y.0 x ≡ y = get_or_default xs has_y.0 x y has_y.1 ∙ has_y.2 in
      elim (cases_order has_x.0 has_y.0) [
        | inl one ↦ ap (λ (o : Outlet). o.cell) (sym at_x ∙ ap (λ k. slice_index_or xs k x) one ∙ at_y)
        | inr (inl before) ↦
            (let follows = far has_x.0 has_y.0 x before has_y.1 in
            ap (λ (o : Outlet). o.cell) (sym at_x)
            ∙ follows.1 (ap (λ (o : Outlet). o.label) at_x ∙ same ∙ sym (ap (λ (o : Outlet). o.label) at_y))
            ∙ ap (λ (o : Outlet). o.cell) at_y)
        | inr (inr after) ↦
            (let follows = far has_y.0 has_x.0 x after has_x.1 in
            ap (λ (o : Outlet). o.cell) (sym at_x)
            ∙ sym (follows.1 (ap (λ (o : Outlet). o.label) at_y ∙ sym same ∙ sym (ap (λ (o : Outlet). o.label) at_x)))
            ∙ ap (λ (o : Outlet). o.cell) at_y)
      ]

-- what stands in a list is in it
held : (xs : List Outlet) (k : ℕ) (d : Outlet) → k < length xs → Contains xs (slice_index_or xs k d)
held xs k d below = (k, below, get_or_default xs k (slice_index_or xs k d) d below)

pub sorted_tells_shared : SortedTellsShared
sorted_tells_shared xs sorted = (
  (λ beside. none_shared xs sorted beside),
  (λ shared k d below. shared _ _ (held xs k d (omega arith)) (held xs (k + 1) d below)),
)

pub merge_tells_shared : MergeTellsShared
merge_tells_shared windows lists merged listed listing holds sorted = (there, back)
  where
    there : NoLabelIsShared windows → NoneBesideShares merged
    there unshared = (sorted_tells_shared merged sorted).1 (λ x y has_x has_y same.
        (let in_x = (holds x).0 has_x in
        let in_y = (holds y).0 has_y in
        let of_x = listing in_x.0 in_x.1 in
        let of_y = listing in_y.0 in_y.1 in
        let out_x = of_x.2.sound x in_x.2 in
        let out_y = of_y.2.sound y in_y.2 in
        sym out_x.3 ∙ unshared of_x.0 of_y.0 of_x.1 of_y.1 out_x.0 out_y.0 out_x.1 out_y.1 (out_x.2 ∙ same ∙ sym out_y.2) ∙ out_y.3))

    back : NoneBesideShares merged → NoLabelIsShared windows
    back beside v w at_v at_w a b out_a out_b same =
        let of_v = listed v at_v in
        let of_w = listed w at_w in
        (sorted_tells_shared merged sorted).0 beside _ _ ((holds _).1 (of_v.0, of_v.1, of_v.2.complete a out_a))
        ((holds _).1 (of_w.0, of_w.1, of_w.2.complete b out_b)) same
