-- What is kept of outlets, from place to place of a row.
use Rattle.drain_rules.proofs.Names.{◌≡◌, ℕ, ℤ, ◌+◌, inl, inr, arith, ◌<◌, ◌≤◌, min, cases_lt, IsAdmitted, LabelSet, Cell, IsEarlier, Values, Grid, Products, IsInside, values_at, IsLabelOf, AreLabelsBefore, IsOutletByCode, labels-more, place, AreRowPatches, MAX_LENGTH, Patch, Area, HasCell, HasRow, IsOutletCell}
use Rattle.std.proofs.Common.{◌↔◌, ◌⊎◌}
use Rattle.drain_rules.proofs.RowPasses.{begin-passes, end-passes, row-passes, run-passes}

-- The labels of the outlets before a place, as the place goes on in row order.

-- with the cell's own label, if it is an outlet, the labels are those before the next place
pub AreLabelsBefore-more : (g : Grid) (ps : Products) (row col : ℕ) (here : Values) (old new : LabelSet) → IsInside g (place row col) →
    here ≡ values_at g ps (place row col) → AreLabelsBefore g ps (place row col) old →
    ((label : ℤ) → IsAdmitted new label ↔ (IsLabelOf here label ⊎ IsAdmitted old label)) →
    AreLabelsBefore g ps (place row (col + 1)) new
AreLabelsBefore-more = labels-more

-- before the end of a row is before the next row
row_ends : (g : Grid) (b : Cell) (row : ℕ) → IsInside g b → IsEarlier b (place (row + 1) 0) → IsEarlier b (place row g.extent.cols)
row_ends g b row inside (inl above) =
    elim (cases_lt b.row row) [
      | inl before ↦ inl before
      | inr not_before ↦ inr (omega (arith, above, not_before), inside.col)
    ]
row_ends g b row inside (inr beside) = absurd (omega (arith, beside.1))

next_row_begins : (b : Cell) (row cols : ℕ) → IsEarlier b (place row cols) → IsEarlier b (place (row + 1) 0)
next_row_begins b row cols (inl above) = inl (omega (arith, above))
next_row_begins b row cols (inr beside) = inl (omega (arith, beside.0))

-- the labels before the end of a row are those before the next row
pub AreLabelsBefore-row : (g : Grid) (ps : Products) (row : ℕ) (labels : LabelSet) →
    AreLabelsBefore g ps (place row g.extent.cols) labels → AreLabelsBefore g ps (place (row + 1) 0) labels
AreLabelsBefore-row g ps row labels before label = (
  (λ admitted.
      let b = (before label).0 admitted in
      record {
        cell = b.cell;
        earlier = next_row_begins b.cell row g.extent.cols b.earlier;
        has_data = b.has_data;
        code = b.code;
        label_is = b.label_is;
      }),
  (λ b. (before label).1 (record {
    cell = b.cell;
    earlier = row_ends g b.cell row b.has_data.inside b.earlier;
    has_data = b.has_data;
    code = b.code;
    label_is = b.label_is;
  })),
)

-- by the law that cells which aren't judged outlets change nothing
module _ {L : Type 0} (judges : L → Area) (are_before : Grid → Products → Cell → L → Type 0)
    (passed : (g : Grid) (ps : Products) (p q : Cell) (labels : L) → g.extent.cols ≤ MAX_LENGTH → p.row ≤ MAX_LENGTH → q.row ≤ MAX_LENGTH →
    ((c : Cell) → HasCell (judges labels) c → IsOutletCell g ps c → IsEarlier c p ↔ IsEarlier c q) → are_before g ps p labels → are_before g ps q labels)
    (g : Grid) (ps : Products) (row : ℕ) (labels : L) (few : row < MAX_LENGTH) (narrow : g.extent.cols ≤ MAX_LENGTH) where
  pub to-begin : (begin : ℕ) → begin ≤ (judges labels).left → are_before g ps (place row 0) labels → are_before g ps (place row begin) labels
  to-begin begin before =
      passed g ps (place row 0) (place row begin) labels narrow (omega (arith, few)) (omega (arith, few))
      (λ c judged outlet. begin-passes (judges labels) row begin c before judged)

  pub to-next-row : (end : ℕ) → end ≡ min (judges labels).right g.extent.cols → are_before g ps (place row end) labels → are_before g ps (place (row + 1) 0) labels
  to-next-row end is =
      passed g ps (place row end) (place (row + 1) 0) labels narrow (omega (arith, few)) (omega (arith, few))
      (λ c judged outlet. end-passes (judges labels) g ps row end c is judged outlet)

  pub over-row : ¬ HasRow (judges labels) row → are_before g ps (place row 0) labels → are_before g ps (place (row + 1) 0) labels
  over-row outside =
      passed g ps (place row 0) (place (row + 1) 0) labels narrow (omega (arith, few)) (omega (arith, few))
      (λ c judged outlet. row-passes (judges labels) row c outside judged)

  pub along-run : (cols from end : ℕ) (shown : ℕ → Patch) → AreRowPatches g ps row cols shown → from ≤ end → end ≤ cols →
      ((col : ℕ) → from ≤ col → col < end → ¬ IsOutletByCode (shown col).here) → are_before g ps (place row from) labels → are_before g ps (place row end) labels
  along-run cols from end shown are forward within none =
      passed g ps (place row from) (place row end) labels narrow (omega (arith, few)) (omega (arith, few))
      (λ c judged outlet. run-passes g ps row cols shown are from end c forward within none outlet)
