-- Three rows of a grid in memory: the patch round a column of the middle one, and which rows of a grid they are.
use Rattle.std.specs.Prelude.{◌≡◌, ◌+◌, ◌<◌, ◌∷◌}
use Rattle.drain_rules.specs.Names.{ℕ, [], length, Patch, Grid, Products}
use Rattle.drain_rules.specs.declared.three_rows.ThreeRows.{ThreeRows}
use Rattle.drain_rules.specs.Rows.{AreRowPatches, IsNoRow, IsRowOf, values_in, beside, west_neighbor}

-- the patch, its neighbours in the order of the directions
abbrev pub patch_in : ThreeRows → ℕ → Patch
patch_in rows col = record {
  here = values_in rows.here col;
  around = beside rows.here (col + 1) ∷ beside rows.below (col + 1) ∷ beside rows.below col ∷ west_neighbor rows.below col
      ∷ west_neighbor rows.here col ∷ west_neighbor rows.above col ∷ beside rows.above col ∷ beside rows.above (col + 1) ∷ [];
  spacing = rows.here.spacing;
}

-- they are a row of the grid and those above and below it, none at the grid's edge
pub record AreRowsAround (g : Grid) (ps : Products) (row : ℕ) (rows : ThreeRows) : Type 0 where
  pub here : IsRowOf g ps row rows.here
  pub below : row + 1 < g.extent.rows → IsRowOf g ps (row + 1) rows.below
  pub none_below : g.extent.rows ≡ row + 1 → IsNoRow rows.below
  pub above : (r : ℕ) → row ≡ r + 1 → IsRowOf g ps r rows.above
  pub none_above : row ≡ 0 → IsNoRow rows.above

-- three rows show the patches of the grid
abbrev pub ThreeRowsShowPatches : Type 0
ThreeRowsShowPatches =
    (g : Grid) (ps : Products) (row : ℕ) (rows : ThreeRows) → AreRowsAround g ps row rows → AreRowPatches g ps row (length rows.here.numbers.z) (patch_in rows)
