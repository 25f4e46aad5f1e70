-- What a verdict depends on: the values of a grid and its products at the cells of the grid, and nothing else.
use Rattle.std.specs.Prelude.{◌≡◌, ◌<◌}
use Rattle.drain_rules.specs.Names.{Cell, NoDataNumbers, Values, Grid, Products, IsInside, values_at, Verdict, IsAdmitted, LabelSet, MAX_LENGTH, IsEarlier, SharedLabelHolds}
use Rattle.drain_rules.specs.Verdicts.{IsVerdict}
use Rattle.std.proofs.Common.{ℕ, ℤ, ◌+◌, ◌≤◌, ◌↔◌, ◌⊎◌, inl, inr, refl, sym, ◌∙◌, ap, subst, arith}
use Rattle.std.proofs.lemmas.Bool.{cases_lt}
use Rattle.drain_rules.specs.Areas.{HasCell, IsOutletCell, everywhere}
use Rattle.drain_rules.specs.Labels.{IsLabelOf, AreLabelsBefore, HasNoLabel}
use Rattle.drain_rules.specs.Rows.{place}

-- the two grids have one extent, at each cell of it the same elevation and the same numbers, and each row of it is
-- spaced alike
pub record AreEqual (g h : Grid) (ps qs : Products) : Type 0 where
  pub extent : g.extent ≡ h.extent
  pub values : (c : Cell) → IsInside g c → values_at g ps c ≡ values_at h qs c
  pub spacing : (row : ℕ) → row < g.extent.rows → g.spacing row ≡ h.spacing row

-- a verdict on the one is a verdict on the other
abbrev pub EqualGridsHaveOneVerdict : Type 0
EqualGridsHaveOneVerdict =
    (g h : Grid) (ps qs : Products) (nodata : NoDataNumbers) → AreEqual g h ps qs → (verdict : Verdict) →
    IsVerdict g ps nodata verdict → IsVerdict h qs nodata verdict

-- What compared labels say of the outlets before a place, as the place goes on in row order. The laws are this project's own.

-- at or before the cell is before the next place in its row
pub earlier-more : (b : Cell) (row col : ℕ) → IsEarlier b (place row (col + 1)) → (b ≡ place row col) ⊎ IsEarlier b (place row col)
earlier-more b row col (inl above) = inr (inl above)
earlier-more b row col (inr beside) =
    elim (cases_lt b.col col) [
      | inl before ↦ inr (inr (beside.0, before))
      | inr not_before ↦
          (let same : b.col ≡ col = omega (arith, beside.1, not_before) in
          inl (ap (λ r. place r b.col) beside.0 ∙ ap (place row) same))
    ]

pub earlier-still : (b : Cell) (row col : ℕ) → IsEarlier b (place row col) → IsEarlier b (place row (col + 1))
earlier-still b row col (inl above) = inl above
earlier-still b row col (inr beside) = inr (beside.0, omega (arith, beside.1))

-- with the cell's own label, if it is an outlet, the labels are those before the next place
pub labels-more : (g : Grid) (ps : Products) (row col : ℕ) (here : Values) (old new : LabelSet) → IsInside g (place row col) →
    here ≡ values_at g ps (place row col) → AreLabelsBefore g ps (place row col) old →
    ((label : ℤ) → IsAdmitted new label ↔ (IsLabelOf here label ⊎ IsAdmitted old label)) →
    AreLabelsBefore g ps (place row (col + 1)) new
labels-more g ps row col here old new inside is before admits label = (
  (λ admitted. elim ((admits label).0 admitted) [
    | inl own ↦
        (let at : IsLabelOf (values_at g ps (place row col)) label = subst (λ v. IsLabelOf v label) is own in
        record {
          cell = place row col;
          earlier = inr (refl, omega arith);
          has_data = record { inside = inside; is_data = at.outlet.has_data };
          code = at.outlet.code;
          label_is = at.label_is;
        })
    | inr older ↦
        (let b = (before label).0 older in
        record { cell = b.cell; earlier = earlier-still b.cell row col b.earlier; has_data = b.has_data; code = b.code; label_is = b.label_is })
  ]),
  (λ b. elim (earlier-more b.cell row col b.earlier) [
    | inl same ↦
        (let at : IsLabelOf (values_at g ps b.cell) label =
        record { outlet = record { has_data = b.has_data.is_data; code = b.code }; label_is = b.label_is } in
        let back : values_at g ps b.cell ≡ here = ap (values_at g ps) same ∙ sym is in
        (admits label).1 (inl (subst (λ v. IsLabelOf v label) back at)))
    | inr earlier ↦
        (admits label).1 (inr ((before label).1
        (record { cell = b.cell; earlier = earlier; has_data = b.has_data; code = b.code; label_is = b.label_is })))
  ]),
)

-- a cell before such a place is one of all cells
all_cells : (g : Grid) (c p : Cell) → IsInside g c → g.extent.cols ≤ MAX_LENGTH → p.row ≤ MAX_LENGTH → IsEarlier c p → HasCell everywhere c
all_cells g c p inside narrow few (inl above) = record { top = omega arith; bottom = omega (arith, above, few); left = omega arith; right = omega (arith, inside.col, narrow) }
all_cells g c p inside narrow few (inr beside) = record { top = omega arith; bottom = omega (arith, beside.0, few); left = omega arith; right = omega (arith, inside.col, narrow) }

-- the labels before a place are those before another if no outlet lies between
pub labels-passed : (g : Grid) (ps : Products) (p q : Cell) (labels : LabelSet) → g.extent.cols ≤ MAX_LENGTH → p.row ≤ MAX_LENGTH → q.row ≤ MAX_LENGTH →
    ((c : Cell) → HasCell everywhere c → IsOutletCell g ps c → IsEarlier c p ↔ IsEarlier c q) → AreLabelsBefore g ps p labels → AreLabelsBefore g ps q labels
labels-passed g ps p q labels narrow p_few q_few same before label = (
  (λ admitted.
      let b = (before label).0 admitted in
      let at = same b.cell (all_cells g b.cell p b.has_data.inside narrow p_few b.earlier) (record { has_data = b.has_data; code = b.code }) in
      record { cell = b.cell; earlier = at.0 b.earlier; has_data = b.has_data; code = b.code; label_is = b.label_is }),
  (λ b.
      let at = same b.cell (all_cells g b.cell q b.has_data.inside narrow q_few b.earlier) (record { has_data = b.has_data; code = b.code }) in
      (before label).1 (record { cell = b.cell; earlier = at.1 b.earlier; has_data = b.has_data; code = b.code; label_is = b.label_is })),
)

-- with the labels of the outlets before a cell, SharedLabel is that of the grid
pub labels-shared : (g : Grid) (ps : Products) (labels : LabelSet) (c : Cell) → IsInside g c → AreLabelsBefore g ps c labels →
    HasNoLabel labels (values_at g ps c) ↔ SharedLabelHolds g ps c
labels-shared g ps labels c inside before = (
  (λ fresh here code b at_b earlier code_b same.
      fresh (record { has_data = here.is_data; code = code })
      ((before (ps.bas c)).1 (record { cell = b; earlier = earlier; has_data = at_b; code = code_b; label_is = sym same }))),
  (λ holds outlet admitted.
      let b = (before (ps.bas c)).0 admitted in
      holds (record { inside = inside; is_data = outlet.has_data }) outlet.code b.cell b.has_data b.earlier b.code (sym b.label_is)),
)
