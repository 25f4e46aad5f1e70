-- Between two places of one row, or of two rows, lies no judged outlet; and the cells that are passed at once.
use Rattle.drain_rules.proofs.Names.{◌≡◌, ℕ, ◌+◌, ◌<◌, ◌≤◌, min, cond, int_lt, is_some, unwrap_or, pos, Bool, true, false, IsTrue, Some, None, refl, subst, arith, ◌-◌, inl, inr, map, sym, ap, Judged, Patch, SharedLabel, Grid, Products, patch_at, values_at, SharedLabelHolds, Profile, IsLeastFault, Values, Area, Tally, HoldBetween, IsColumn, IsNewLabelBetween, IsStopAmong, IsCellStop, IsNewLabelHere, IsAreaTally, cells_between, CountsAmong, HasCell, HasRow, IsOutletCell, IfCompared, IsTriedIf, with_labels, IsOutletByCode, AreRowPatches, place, raised_between, range_with_len, cases_lt, Cell, Rule, IsEarlier, void_data, IsKept, Kept, IsRightVoid}
use Rattle.std.proofs.Common.{◌↔◌, ◌&&◌}
use Rattle.std.specs.Ordering.{int_eq}
use Rattle.drain_rules.specs.declared.walk.Stop.{Stop}
use Rattle.drain_rules.specs.declared.walk.Stop.TheVariants.{Fault, OutOfMemory}
use Rattle.drain_rules.proofs.Faults.{if_compared, least-labelled, own_compared}
use Rattle.drain_rules.proofs.PassedCells.{IsPassed, holds-more, inside-row, passed-more}
use Rattle.drain_rules.proofs.KeptCells.{passed-kept}
use Rattle.drain_rules.proofs.RightVoids.{passed-voids}

-- The next cell of a row: what it adds to those that were passed, or how it stops a walk.

module _ (compares : Bool) (judged : Judged) (profile : Profile) (IsNew : Values → Type 0) (a : Area) (g : Grid) (ps : Products) (row col cols end : ℕ) (shown : ℕ → Patch)
    (are : AreRowPatches g ps row cols shown) (is : end ≡ min a.right g.extent.cols) (past : min a.left end ≤ col) (less : col < end)
    (tells : IsTrue compares → IsNew (values_at g ps (place row col)) ↔ SharedLabelHolds g ps (place row col)) where
  within : col < cols
  within = omega (arith, less, is, are.cols_are)

  shared : IsTriedIf compares judged SharedLabel → IfCompared compares (IsNew (values_at g ps (place row col))) ↔ SharedLabelHolds g ps (place row col)
  shared own =
      let compared = own_compared compares judged own in
      if_compared compares (IsNew (values_at g ps (place row col))) (SharedLabelHolds g ps (place row col)) compared (tells compared)

  -- where no rule fails by what is new, the cell is passed
  pub passed-next : (v : Values) (old new : Tally) → v ≡ (shown col).here → IsPassed profile (IsTriedIf compares judged) g ps row (min a.left end) col old →
      IsLeastFault (IsTriedIf compares judged) (with_labels (λ v. IfCompared compares (IsNew v)) profile (shown col)) None →
      new.data_cells ≡ old.data_cells + cond (is_some v.z) 1 0 →
      new.raised ≡ old.raised + cond (is_some v.z && int_lt (unwrap_or v.z (pos 0)) v.con) 1 0 →
      new.outlets ≡ old.outlets + cond (is_some v.z && int_eq v.dir (pos 0)) 1 0 → IsPassed profile (IsTriedIf compares judged) g ps row (min a.left end) (col + 1) new
  passed-next v old new here passed least =
      passed-more profile (IsTriedIf compares judged) g ps row (min a.left end) col cols shown v old new are past within here passed
      (least-labelled profile (IsTriedIf compares judged) (λ v. IfCompared compares (IsNew v)) g ps (place row col) (shown col) None shared (are.patches_are col within) least)

  column : IsColumn a g col
  column = record { from = omega (arith, past, less); to = omega (arith, less, is); inside = omega (arith, less, is) }

  from_left : (tally : Tally) → IsPassed profile (IsTriedIf compares judged) g ps row (min a.left end) col tally → HoldBetween profile (IsTriedIf compares judged) g ps row a.left col
  from_left tally passed k rule from before own = passed.holds k rule (omega (arith, from)) before own

  new_label : (b : Bool) → compares ≡ b → (tally : Tally) → IsPassed profile (IsTriedIf compares judged) g ps row (min a.left end) col tally →
      IsNewLabelHere profile (IsTriedIf compares judged) (λ v. IfCompared compares (IsNew v)) (shown col) → IfCompared b (IsNewLabelBetween profile (IsTriedIf compares judged) a g ps row col)
  new_label false same tally passed want = tt
  new_label true same tally passed want =
      let patch : shown col ≡ patch_at g ps (place row col) = are.patches_are col within in
      let here : IsOutletByCode (values_at g ps (place row col)) = subst (λ (q : Patch). IsOutletByCode q.here) patch want.outlet in
      let fresh : IfCompared compares (IsNew (values_at g ps (place row col))) = subst (λ (q : Patch). IfCompared compares (IsNew q.here)) patch want.is_new in
      record {
        judged = column;
        outlet = record { has_data = record { inside = inside-row g ps row col cols shown are within; is_data = here.has_data }; code = here.code };
        is_new = (if_compared compares (IsNew (values_at g ps (place row col))) (SharedLabelHolds g ps (place row col)) same (tells same)).0 fresh;
        holds = holds-more profile (IsTriedIf compares judged) g ps row a.left col (from_left tally passed)
            (least-labelled profile (IsTriedIf compares judged) (λ v. IfCompared compares (IsNew v)) g ps (place row col) (shown col) None shared patch want.holds);
      }

  -- what stops a walk at the cell stops it in the row
  pub stops-row : (stop : Stop) (tally : Tally) → IsPassed profile (IsTriedIf compares judged) g ps row (min a.left end) col tally →
      IsCellStop profile (IsTriedIf compares judged) (λ v. IfCompared compares (IsNew v)) (shown col) stop → IsStopAmong compares profile (IsTriedIf compares judged) a g ps row col stop
  stops-row (Fault rule) tally passed least =
      let fault = least-labelled profile (IsTriedIf compares judged) (λ v. IfCompared compares (IsNew v)) g ps (place row col) (shown col) (Some rule) shared (are.patches_are col within) least in
      record { judged = column; is_own = fault.0; fails = fault.1; before = from_left tally passed; smaller = fault.2 }
  stops-row OutOfMemory tally passed want = new_label compares refl tally passed want

-- before the first judged column
pub begin-passes : (a : Area) (row begin : ℕ) (c : Cell) → begin ≤ a.left → HasCell a c → IsEarlier c (place row 0) ↔ IsEarlier c (place row begin)
begin-passes a row begin c before judged = (to, back)
  where
    to : IsEarlier c (place row 0) → IsEarlier c (place row begin)
    to (inl above) = inl above
    to (inr beside) = absurd (omega (arith, beside.1))

    back : IsEarlier c (place row begin) → IsEarlier c (place row 0)
    back (inl above) = inl above
    back (inr beside) = absurd (omega (arith, beside.1, judged.left, before))

-- behind the last one
pub end-passes : (a : Area) (g : Grid) (ps : Products) (row end : ℕ) (c : Cell) → end ≡ min a.right g.extent.cols → HasCell a c → IsOutletCell g ps c →
    IsEarlier c (place row end) ↔ IsEarlier c (place (row + 1) 0)
end-passes a g ps row end c is judged outlet = (to, back)
  where
    to : IsEarlier c (place row end) → IsEarlier c (place (row + 1) 0)
    to (inl above) = inl (omega (arith, above))
    to (inr beside) = inl (omega (arith, beside.0))

    back : IsEarlier c (place (row + 1) 0) → IsEarlier c (place row end)
    back (inl above) = elim (cases_lt c.row row) [
      | inl before ↦ inl before
      | inr not_before ↦ inr (omega (arith, above, not_before), omega (arith, is, judged.right, outlet.has_data.inside.col))
    ]
    back (inr beside) = absurd (omega (arith, beside.1))

-- in a row that isn't judged
pub row-passes : (a : Area) (row : ℕ) (c : Cell) → ¬ HasRow a row → HasCell a c → IsEarlier c (place row 0) ↔ IsEarlier c (place (row + 1) 0)
row-passes a row c outside judged = (to, back)
  where
    to : IsEarlier c (place row 0) → IsEarlier c (place (row + 1) 0)
    to (inl above) = inl (omega (arith, above))
    to (inr beside) = absurd (omega (arith, beside.1))

    back : IsEarlier c (place (row + 1) 0) → IsEarlier c (place row 0)
    back (inl above) = elim (cases_lt c.row row) [
      | inl before ↦ inl before
      | inr not_before ↦ absurd (outside (record { from = omega (arith, judged.top, above, not_before); to = omega (arith, judged.bottom, above, not_before) }))
    ]
    back (inr beside) = absurd (omega (arith, beside.1))

module _ (g : Grid) (ps : Products) (row cols : ℕ) (shown : ℕ → Patch) (are : AreRowPatches g ps row cols shown) where
  -- an outlet of the row is one by the patch that is shown
  by_patch : (c : Cell) → c.row ≡ row → c.col < cols → IsOutletCell g ps c → IsOutletByCode (shown c.col).here
  by_patch c at_row less outlet =
      let at : IsOutletByCode (values_at g ps (place c.row c.col)) = record { has_data = outlet.has_data.is_data; code = outlet.code } in
      let there : IsOutletByCode (values_at g ps (place row c.col)) = subst (λ r. IsOutletByCode (values_at g ps (place r c.col))) at_row at in
      subst (λ (q : Patch). IsOutletByCode q.here) (sym (are.patches_are c.col less)) there

  -- where no patch shows one
  pub run-passes : (from end : ℕ) (c : Cell) → from ≤ end → end ≤ cols → ((col : ℕ) → from ≤ col → col < end → ¬ IsOutletByCode (shown col).here) → IsOutletCell g ps c →
      IsEarlier c (place row from) ↔ IsEarlier c (place row end)
  run-passes from end c forward within none outlet = (to, back)
    where
      to : IsEarlier c (place row from) → IsEarlier c (place row end)
      to (inl above) = inl above
      to (inr beside) = inr (beside.0, omega (arith, beside.1, forward))

      back : IsEarlier c (place row end) → IsEarlier c (place row from)
      back (inl above) = inl above
      back (inr beside) = elim (cases_lt c.col from) [
        | inl before ↦ inr (beside.0, before)
        | inr behind ↦ absurd (none c.col behind beside.1 (by_patch c beside.0 (omega (arith, beside.1, within)) outlet))
      ]

-- no cell is an outlet from the first cleared one to the last void
pub none-between : (profile : Profile) (shown : ℕ → Patch) (from middle end : ℕ) → ((col : ℕ) → from ≤ col → col < middle → IsKept profile (shown col)) →
    ((col : ℕ) → middle ≤ col → col < end → IsRightVoid profile (shown col)) → (col : ℕ) → from ≤ col → col < end → ¬ IsOutletByCode (shown col).here
none-between profile shown from middle end kept right col past less = elim (cases_lt col middle) [
  | inl before ↦ (λ outlet. (kept col past before).no_outlet outlet.code)
  | inr behind ↦ (λ outlet. void_data (shown col).here.z (right col behind less).is_void outlet.has_data)
]

-- the cleared cells, and the voids after them
pub passed-both : (compares : Bool) (judged : Judged) (profile : Profile) (g : Grid) (ps : Products) (row first cols : ℕ) (shown : ℕ → Patch) (from end : ℕ) (kept : Kept) (old new : Tally) →
    AreRowPatches g ps row cols shown → first ≤ from → from ≤ kept.end → kept.end ≤ end → end ≤ cols → IsPassed profile (IsTriedIf compares judged) g ps row first from old →
    ((col : ℕ) → from ≤ col → col < kept.end → IsKept profile (shown col)) → kept.raised ≡ raised_between shown from kept.end →
    new.data_cells ≡ old.data_cells + (kept.end - from) → new.raised ≡ old.raised + kept.raised → new.outlets ≡ old.outlets →
    ((col : ℕ) → kept.end ≤ col → col < end → IsRightVoid profile (shown col)) → IsPassed profile (IsTriedIf compares judged) g ps row first end new
passed-both compares judged profile g ps row first cols shown from end kept old new are past forward behind inside passed all count data_cells raised outlets right =
    passed-voids compares judged profile g ps row first cols shown new kept.end end are (omega arith) behind inside
    (passed-kept compares judged profile g ps row first cols shown from kept old new are past forward (omega arith) passed all count data_cells raised outlets) right

-- a row that was passed to its last judged column keeps one's own rules, and is counted
cells_from_left : (row left end : ℕ) → cells_between row (min left end) end ≡ map (place row) (range_with_len left (end - left))
cells_from_left row left end = elim (cases_lt end left) [
  | inl less ↦
      (let none : end - min left end ≡ 0 = omega arith in
      let empty : end - left ≡ 0 = omega arith in
      rw (none, empty) refl)
  | inr wide ↦
      (let same : min left end ≡ left = omega arith in
      ap (λ n. map (place row) (range_with_len n (end - n))) same)
]

pub passed-row : (profile : Profile) (IsOwn : Rule → Type 0) (a : Area) (g : Grid) (ps : Products) (row end : ℕ) (tally : Tally) → end ≡ min a.right g.extent.cols →
    IsPassed profile IsOwn g ps row (min a.left end) end tally → IsAreaTally profile IsOwn a g ps row tally
passed-row profile IsOwn a g ps row end tally is passed =
    let counted : CountsAmong g ps (map (place row) (range_with_len a.left (end - a.left))) tally =
    subst (λ cells. CountsAmong g ps cells tally) (cells_from_left row a.left end) passed.counted in
    record {
      holds = λ col rule past less own. passed.holds col rule (omega (arith, past)) (omega (arith, less, is)) own;
      counted = subst (λ n. CountsAmong g ps (map (place row) (range_with_len a.left (n - a.left))) tally) is counted;
    }
