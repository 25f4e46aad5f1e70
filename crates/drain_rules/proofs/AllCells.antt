-- Where all cells are judged, what is found of them is so of the grid.
use Rattle.drain_rules.proofs.Names.{◌≡◌, ℕ, ◌<◌, ◌≤◌, inl, inr, Bool, true, false, IsTrue, refl, sym, subst, arith, Cell, MAX_LENGTH, Rules, Rule, IsEarlier, Grid, Products, IsInside, HoldsAt, IsTried, tried, Area, Tally, AreSound, IsNewLabelBetween, HasCell, everywhere, IfCompared, IsTriedIf, HasNewLabel, place}

-- a cell of a small grid is judged
in_everywhere : (c : Cell) → c.row ≤ MAX_LENGTH → c.col ≤ MAX_LENGTH → HasCell everywhere c
in_everywhere c few narrow = record { top = omega arith; bottom = omega (arith, few); left = omega arith; right = omega (arith, narrow) }

-- a new label of a row below sound ones is one of the grid
new_label : (rules : Rules) (g : Grid) (ps : Products) (row col : ℕ) (Kept : Type 0) (tally : Tally) → row < MAX_LENGTH → g.extent.cols ≤ MAX_LENGTH →
    AreSound (tried rules) (IsTried rules.judged) everywhere g ps row Kept tally → IsNewLabelBetween (tried rules) (IsTried rules.judged) everywhere g ps row col → HasNewLabel rules g ps
new_label rules g ps row col Kept tally few narrow sound along = (
  place row col,
  record {
    has_data = along.outlet.has_data;
    code = along.outlet.code;
    is_new = along.is_new;
    here = λ rule own. along.holds col rule (omega arith) (omega arith) own;
    before = before;
  },
)
  where
    before : (b : Cell) (rule : Rule) → IsInside g b → IsEarlier b (place row col) → IsTried rules.judged rule → HoldsAt (tried rules) g ps b rule
    before b rule in_grid (inl north) own =
        sound.holds b rule (record { inside = in_everywhere b (omega (arith, north, few)) (omega (arith, in_grid.col, narrow)); in_row = in_grid.col; above = north }) own
    before b rule in_grid (inr west) own =
        subst (λ r. HoldsAt (tried rules) g ps (place r b.col) rule) (sym west.0) (along.holds b.col rule (omega arith) (omega (arith, west.1)) own)

-- where labels are compared
pub new_label-row : (compares : Bool) (rules : Rules) (a : Area) (g : Grid) (ps : Products) (row col : ℕ) (Kept : Type 0) (tally : Tally) → (IsTrue compares → a ≡ everywhere) →
    row < MAX_LENGTH → g.extent.cols ≤ MAX_LENGTH → AreSound (tried rules) (IsTriedIf compares rules.judged) a g ps row Kept tally →
    IfCompared compares (IsNewLabelBetween (tried rules) (IsTriedIf compares rules.judged) a g ps row col) → IfCompared compares (HasNewLabel rules g ps)
new_label-row true rules a g ps row col Kept tally all few narrow sound along =
    new_label rules g ps row col Kept tally few narrow
    (subst (λ b. AreSound (tried rules) (IsTried rules.judged) b g ps row Kept tally) (all refl) sound)
    (subst (λ b. IsNewLabelBetween (tried rules) (IsTried rules.judged) b g ps row col) (all refl) along)
new_label-row false rules a g ps row col Kept tally all few narrow sound along = tt
