-- At a judged cell each step stays in the window where it stays in the union, and leaves the window only where it
-- leaves the union.
use Rattle.drain_union.proofs.Names.{◌≡◌, ◌+◌, ◌-◌, ◌<◌, ◌≤◌, inl, inr, map, Option, Some, None, option_map, refl, sym, ap, subst, ◌∙◌, arith, Cell, Extent, IsCellOf, step, Values, IsInside, values_at, Patch, LiesAt, place, reach, step_gives, step_lies, Place, in_union, IsPlaceIn, IsJudgedIn, PatchOfWindow, OpenInWindow}
use Rattle.drain_grid.specs.declared.direction.Direction.{Direction}
use Rattle.drain_grid.specs.Direction.{directions, rows_down, cols_right}
use Rattle.drain_grid.proofs.Tallies.{none_some}
use Rattle.drain_grid.specs.Patch.{IsOpen}
use Rattle.drain_grid.proofs.Patches.{IsOpen-patch_at}

-- a neighbour of a judged cell that lies in the union lies in the window
back : (e : Extent) (p : Place) → IsPlaceIn e p → (c : Cell) → IsJudgedIn p c → (d : Direction) (n : Cell) → IsCellOf e n →
    LiesAt (in_union p c) n d → (m : Cell) × IsCellOf p.extent m × LiesAt c m d × (in_union p m ≡ n)
back e p placed c judged d n inside lies =
    let most = reach d in
    let in_rows : c.row < p.extent.rows = judged.inside.row in
    let in_cols : c.col < p.extent.cols = judged.inside.col in
    let n_rows : n.row < e.rows = inside.row in
    let n_cols : n.col < e.cols = inside.col in
    let top : p.top < c.row + p.top + rows_down d = elim placed.north [
      | inl is_inner ↦ (let some : 0 < c.row = judged.north is_inner in omega arith)
      | inr at_edge ↦ omega (arith, lies.0)
    ] in
    let left : p.left < c.col + p.left + cols_right d = elim placed.west [
      | inl is_inner ↦ (let some : 0 < c.col = judged.west is_inner in omega arith)
      | inr at_edge ↦ omega (arith, lies.1)
    ] in
    let bottom : c.row + rows_down d < p.extent.rows + 1 = elim placed.south [
      | inl is_inner ↦ (let more : c.row + 1 < p.extent.rows = judged.south is_inner in omega (arith, most.0))
      | inr at_edge ↦ omega (arith, lies.0)
    ] in
    let right : c.col + cols_right d < p.extent.cols + 1 = elim placed.east [
      | inl is_inner ↦ (let more : c.col + 1 < p.extent.cols = judged.east is_inner in omega (arith, most.1))
      | inr at_edge ↦ omega (arith, lies.1)
    ] in
    let m : Cell = place (c.row + rows_down d - 1) (c.col + cols_right d - 1) in
    let row : p.top + (c.row + rows_down d - 1) ≡ n.row = omega (arith, lies.0) in
    let col : p.left + (c.col + cols_right d - 1) ≡ n.col = omega (arith, lies.1) in
    (m, record { row = omega arith; col = omega arith }, (omega arith, omega arith), λ i. place (row i) (col i))

-- so a step from a judged cell goes to the same cell
step_in_union : (e : Extent) (p : Place) → IsPlaceIn e p → (c : Cell) → IsJudgedIn p c → (d : Direction) →
    option_map (in_union p) (step p.extent c d) ≡ step e (in_union p c) d
step_in_union e p placed c judged d = by_step (step p.extent c d) refl
  where
    by_step : (o : Option Cell) → step p.extent c d ≡ o → option_map (in_union p) o ≡ step e (in_union p c) d
    by_step (Some m) is =
        let lies = step_lies p.extent c m d is in
        let m_row : m.row < p.extent.rows = lies.0.row in
        let m_col : m.col < p.extent.cols = lies.0.col in
        let rows : p.top + p.extent.rows ≤ e.rows = placed.rows in
        let cols : p.left + p.extent.cols ≤ e.cols = placed.cols in
        sym (step_gives e (in_union p c) (in_union p m) d (record { row = omega arith; col = omega arith })
        (omega (arith, lies.1.0), omega (arith, lies.1.1)))
    by_step None is = by_union (step e (in_union p c) d) refl
      where
        by_union : (o : Option Cell) → step e (in_union p c) d ≡ o → None ≡ o
        by_union None there = refl
        by_union (Some n) there =
            let lies = step_lies e (in_union p c) n d there in
            let found = back e p placed c judged d n lies.0 lies.1 in
            absurd (none_some found.0 (sym is ∙ step_gives p.extent c found.0 d found.1 found.2))

map_same : (f : Cell → Values) (k : Cell → Values) (h : Cell → Cell) (o : Option Cell) → ((n : Cell) → o ≡ Some n → f n ≡ k (h n)) →
    option_map f o ≡ option_map k (option_map h o)
map_same f k h None same = refl
map_same f k h (Some n) same = ap (λ x. Some x) (same n refl)

pub patch_of_window : PatchOfWindow
patch_of_window u ps w is c judged = λ i. record {
  here = is.values c inside i;
  around = map (λ d. beside d i) directions;
  spacing = is.spacings c inside i;
}
  where
    inside : IsInside w.grid c
    inside = subst (λ (e : Extent). IsCellOf e c) (sym is.extent) judged.inside

    beside : (d : Direction) →
        option_map (values_at w.grid w.products) (step w.grid.extent c d) ≡ option_map (values_at u ps) (step u.extent (in_union w.place c) d)
    beside d =
        map_same (values_at w.grid w.products) (values_at u ps) (in_union w.place) (step w.grid.extent c d)
        (λ n there. is.values n (step_lies w.grid.extent c n d there).0)
        ∙ ap (λ (e : Extent). option_map (values_at u ps) (option_map (in_union w.place) (step e c d))) is.extent
        ∙ ap (option_map (values_at u ps)) (step_in_union u.extent w.place is.placed c judged d)

-- a cell of a window lies in the union
pub there : (e : Extent) (p : Place) → IsPlaceIn e p → (c : Cell) → IsCellOf p.extent c → IsCellOf e (in_union p c)
there e p placed c inside =
    let c_row : c.row < p.extent.rows = inside.row in
    let c_col : c.col < p.extent.cols = inside.col in
    let rows : p.top + p.extent.rows ≤ e.rows = placed.rows in
    let cols : p.left + p.extent.cols ≤ e.cols = placed.cols in
    record { row = omega arith; col = omega arith }

pub open_in_window : OpenInWindow
open_in_window u ps w is c judged =
    let inside : IsInside w.grid c = subst (λ (e : Extent). IsCellOf e c) (sym is.extent) judged.inside in
    let same = patch_of_window u ps w is c judged in
    let here = IsOpen-patch_at w.grid w.products c inside in
    let union = IsOpen-patch_at u ps (in_union w.place c) (there u.extent w.place is.placed c judged.inside) in (
      (λ h. union.0 (subst (λ (p : Patch). IsOpen p) same (here.1 h))),
      (λ h. here.0 (subst (λ (p : Patch). IsOpen p) (sym same) (union.1 h))),
    )
