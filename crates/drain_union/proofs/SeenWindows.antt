-- What a list of windows shows at each cell of the map: what one of them shows that has the cell. So a box of the map is a
-- window too.
use Rattle.drain_union.proofs.Names.{◌≡◌, ℕ, zero, suc, ◌+◌, ◌-◌, ◌<◌, ◌⊎◌, inl, inr, List, [], ◌∷◌, refl, sym, ap, subst, arith, Contains, Cell, IsCellOf, Grid, Products, IsInside, values_at, Distances, unit_spacing, Values, cases, at_most_number, place, same_place, is_cell_of, Place, Window, in_union, OverlapsAgree, SpacingsAgree}
use Rattle.drain_union.proofs.Unions.{nothing}

-- the map's cell lies in the window
abbrev pub ShowsCell : Cell → Window → Type 0
ShowsCell c w = (x : Cell) × IsInside w.grid x × (in_union w.place x ≡ c)

-- some cell of the map's row does
abbrev pub ShowsRow : ℕ → Window → Type 0
ShowsRow row w = (x : Cell) × IsInside w.grid x × (w.place.top + x.row ≡ row)

abbrev pub IsOfSome : (Window → Type 0) → List Window → Type 0
IsOfSome P windows = (w : Window) × Contains windows w × P w

pub shows_cell : (c : Cell) (w : Window) → ShowsCell c w ⊎ ¬ ShowsCell c w
shows_cell c w =
    elim (cases (at_most_number w.place.top c.row)) [
      | inr above ↦ inr (λ at. (let row : w.place.top + at.0.row ≡ c.row = ap (λ (z : Cell). z.row) at.2 in above (omega (arith, row))))
      | inl below ↦
          elim (cases (at_most_number w.place.left c.col)) [
            | inr before ↦ inr (λ at. (let col : w.place.left + at.0.col ≡ c.col = ap (λ (z : Cell). z.col) at.2 in before (omega (arith, col))))
            | inl behind ↦
                (let x : Cell = place (c.row - w.place.top) (c.col - w.place.left) in
                let row : w.place.top + (c.row - w.place.top) ≡ c.row = omega (arith, below) in
                let col : w.place.left + (c.col - w.place.left) ≡ c.col = omega (arith, behind) in
                elim (cases (is_cell_of w.grid.extent x)) [
                  | inl inside ↦ inl (x, inside, λ i. place (row i) (col i))
                  | inr outside ↦
                      inr (λ at.
                      (let row_at : w.place.top + at.0.row ≡ c.row = ap (λ (z : Cell). z.row) at.2 in
                      let col_at : w.place.left + at.0.col ≡ c.col = ap (λ (z : Cell). z.col) at.2 in
                      outside (subst (λ (z : Cell). IsCellOf w.grid.extent z) (same_place at.0 x (omega (arith, row_at)) (omega (arith, col_at))) at.1)))
                ])
          ]
    ]

pub shows_row : (row : ℕ) (w : Window) → ShowsRow row w ⊎ ¬ ShowsRow row w
shows_row row w =
    elim (cases (at_most_number w.place.top row)) [
      | inr above ↦ inr (λ at. above (omega (arith, at.2)))
      | inl below ↦
          (let x : Cell = place (row - w.place.top) 0 in
          elim (cases (is_cell_of w.grid.extent x)) [
            | inl inside ↦ inl (x, inside, omega (arith, below))
            | inr outside ↦
                inr (λ at.
                (let in_row : at.0.row < w.grid.extent.rows = at.1.row in
                let in_col : at.0.col < w.grid.extent.cols = at.1.col in
                outside (record { row = omega (arith, at.2, in_row); col = omega (arith, in_col) })))
          ])
    ]

-- what holds of each window holds of the list
pub of_some : (P : Window → Type 0) → ((w : Window) → P w ⊎ ¬ P w) → (windows : List Window) → IsOfSome P windows ⊎ ¬ IsOfSome P windows
of_some P told [] = inr (λ some. absurd (omega (arith, some.1.1)))
of_some P told (w ∷ ws) =
    elim (told w) [
      | inl is ↦ inl (w, (0, omega arith, refl), is)
      | inr not_here ↦
          elim (of_some P told ws) [
            | inl some ↦ inl (some.0, (suc some.1.0, omega (arith, some.1.1), some.1.2), some.2)
            | inr not_later ↦ inr (neither not_here not_later)
          ]
    ]
  where
    neither : ¬ P w → ¬ IsOfSome P ws → ¬ IsOfSome P (w ∷ ws)
    neither not_here not_later (v, (zero, less, is), at) = not_here (subst P (sym is) at)
    neither not_here not_later (v, (suc k, less, is), at) = not_later (v, (k, omega (arith, less), is), at)

module _ (windows : List Window) where
  abbrev picked : (c : Cell) → IsOfSome (ShowsCell c) windows ⊎ ¬ IsOfSome (ShowsCell c) windows → Values
  picked c (inl one) = values_at one.0.grid one.0.products one.2.0
  picked c (inr none) = nothing

  abbrev pub seen : Cell → Values
  seen c = picked c (of_some (ShowsCell c) (shows_cell c) windows)

  abbrev picked_spacing : (row : ℕ) → IsOfSome (ShowsRow row) windows ⊎ ¬ IsOfSome (ShowsRow row) windows → Distances
  picked_spacing row (inl one) = one.0.grid.spacing one.2.0.row
  picked_spacing row (inr none) = unit_spacing

  abbrev pub row_spacing : ℕ → Distances
  row_spacing row = picked_spacing row (of_some (ShowsRow row) (shows_row row) windows)

  -- where they agree, that is what each of them shows
  module _ (agree : OverlapsAgree windows) (w : Window) (has : Contains windows w) (x : Cell) (inside : IsInside w.grid x) where
    picked_same : (o : IsOfSome (ShowsCell (in_union w.place x)) windows ⊎ ¬ IsOfSome (ShowsCell (in_union w.place x)) windows) →
        values_at w.grid w.products x ≡ picked (in_union w.place x) o
    picked_same (inl one) = agree w one.0 has one.1 x one.2.0 inside one.2.1 (sym one.2.2)
    picked_same (inr none) = absurd (none (w, has, (x, inside, refl)))

    pub seen_same : values_at w.grid w.products x ≡ seen (in_union w.place x)
    seen_same = picked_same (of_some (ShowsCell (in_union w.place x)) (shows_cell (in_union w.place x)) windows)

  module _ (alike : SpacingsAgree windows) (w : Window) (has : Contains windows w) (x : Cell) (inside : IsInside w.grid x) where
    spacing_picked : (o : IsOfSome (ShowsRow (w.place.top + x.row)) windows ⊎ ¬ IsOfSome (ShowsRow (w.place.top + x.row)) windows) →
        w.grid.spacing x.row ≡ picked_spacing (w.place.top + x.row) o
    spacing_picked (inl one) = alike w one.0 has one.1 x one.2.0 inside one.2.1 (sym one.2.2)
    spacing_picked (inr none) = absurd (none (w, has, (x, inside, refl)))

    pub spacing_same : w.grid.spacing x.row ≡ row_spacing (w.place.top + x.row)
    spacing_same = spacing_picked (of_some (ShowsRow (w.place.top + x.row)) (shows_row (w.place.top + x.row)) windows)

-- the window at a box of the map that shows what the windows show
abbrev pub grid_at : Place → List Window → Grid
grid_at box windows = record {
  extent = box.extent;
  elevation = λ c. (seen windows (in_union box c)).z;
  sink = λ c. (seen windows (in_union box c)).sink;
  spacing = λ row. row_spacing windows (box.top + row);
}

abbrev pub products_at : Place → List Window → Products
products_at box windows = record {
  con = λ c. (seen windows (in_union box c)).con;
  dir = λ c. (seen windows (in_union box c)).dir;
  acc = λ c. (seen windows (in_union box c)).acc;
  bas = λ c. (seen windows (in_union box c)).bas;
  spl = λ c. (seen windows (in_union box c)).spl;
  rnk = λ c. (seen windows (in_union box c)).rnk;
}

abbrev pub window_at_box : Place → List Window → Window
window_at_box box windows = record { place = box; grid = grid_at box windows; products = products_at box windows }
