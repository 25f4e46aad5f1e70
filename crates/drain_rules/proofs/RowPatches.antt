-- The patch of three rows is that of the grid: a neighbour at a time.
use Rattle.drain_rules.proofs.Names.{◌≡◌, ◌∙◌, ◌+◌, ◌-◌, ◌<◌, ◌≤◌, ℕ, ℤ, pos, List, length, drop, slice_index_or, slice_range, get_or-take, get_or-drop, inl, inr, FitsSigned, w16, arith, subst, sym, zero, suc, [], ◌∷◌, Option, Some, None, refl, ap, cases_lt, lt-ltb, le-ltb, ext_get_or, length-drop, length-take, IsBelowAt, Grid, Products, patch_at, values_at, nat_lt, Cell, Dir, Acc, Bas, Rnk, Extent, Values, ThreeRows, IsNoRow, IsRowOf, MarkedRow, beside, values_in, west_neighbor, place, AreRowsAround, ThreeRowsShowPatches, patch_in}
use Rattle.std.specs.Prelude.{◌&&◌, option_map, if◌then◌else◌}
use Rattle.drain_grid.specs.declared.set_product.SetProduct.TheVariants.{Con}

-- The heights of a row, some at a time, in 16 bits each.

-- the first numbers fit, and are in their places
pub record ArePut (numbers out : List ℤ) (place : ℕ) : Type 0 where
  pub long : length out ≡ length numbers
  pub fit : (k : ℕ) → k < place → FitsSigned w16 (slice_index_or numbers k (pos 0))
  pub same : (k : ℕ) → k < place → slice_index_or out k (pos 0) ≡ slice_index_or numbers k (pos 0)

-- a number of a part of a list is that of the list, at a later place
in_part : (xs : List ℤ) (at end k : ℕ) → k < end - at → slice_index_or (slice_range xs at end) k (pos 0) ≡ slice_index_or xs (at + k) (pos 0)
in_part xs at end k less = get_or-take (end - at) (drop at xs) k (pos 0) less ∙ get_or-drop at xs k (pos 0)

-- numbers that are those of a part, place by place, are the part
pub part_is : (xs out : List ℤ) (at end : ℕ) → at ≤ end → end ≤ length xs → length out ≡ end - at →
    ((k : ℕ) → k < end - at → slice_index_or out k (pos 0) ≡ slice_index_or xs (at + k) (pos 0)) → out ≡ slice_range xs at end
part_is xs out at end ordered inside long same =
    let room : length (slice_range xs at end) ≡ end - at = omega (arith, length-take (end - at) (drop at xs), length-drop at xs, ordered, inside) in
    ext_get_or (pos 0) out (slice_range xs at end) (long ∙ sym room)
    (λ k less. let within : k < end - at = omega (arith, less, long) in same k within ∙ sym (in_part xs at end k within))

-- where no place before is below the ground, and none in the next part, none of them all is
pub clear_on : (con ground : List ℤ) (at end above : ℕ) → above ≤ end - at → ((place : ℕ) → place < at → ¬ IsBelowAt con ground place) →
    ((place : ℕ) → place < above → ¬ IsBelowAt (slice_range con at end) (slice_range ground at end) place) →
    (place : ℕ) → place < at + above → ¬ IsBelowAt con ground place
clear_on con ground at end above within before here place less = elim (cases_lt place at) [
  | inl earlier ↦ before place earlier
  | inr later ↦ (let k : ℕ = place - at in
      let there : at + k ≡ place = omega (arith, later) in
      let inside : k < above = omega (arith, later, less) in
      λ below. here k inside (rw (in_part con at end k (omega (arith, inside, within)), in_part ground at end k (omega (arith, inside, within)), there) below))
]

-- the same where both parts were copied
pub clear_part : (con ground part below : List ℤ) (at end above : ℕ) → above ≤ end - at → part ≡ slice_range con at end → below ≡ slice_range ground at end →
    ((place : ℕ) → place < at → ¬ IsBelowAt con ground place) → ((place : ℕ) → place < above → ¬ IsBelowAt part below place) →
    (place : ℕ) → place < at + above → ¬ IsBelowAt con ground place
clear_part con ground part below at end above within part_is below_is before here =
    clear_on con ground at end above within before
    (subst (λ xs. (place : ℕ) → place < above → ¬ IsBelowAt xs (slice_range ground at end) place) part_is
    (subst (λ ys. (place : ℕ) → place < above → ¬ IsBelowAt part ys place) below_is here))

-- a cell by the numbers of its row and column, counted from 1; none outside
abbrev stepped : Extent → ℕ → ℕ → Option Cell
stepped e row col =
    if nat_lt 0 row && (nat_lt (row - 1) e.rows && (nat_lt 0 col && nat_lt (col - 1) e.cols)) then Some (record { row = row - 1; col = col - 1 }) else None

values-are : (g : Grid) (ps : Products) (row col : ℕ) (n : MarkedRow) → IsRowOf g ps row n → col < g.extent.cols → values_in n col ≡ values_at g ps (place row col)
values-are g ps row col n are inside = λ i. record {
  z = are.numbers.elevation col inside i;
  sink = are.sinks col inside i;
  con = are.numbers.products Con col inside i;
  dir = are.numbers.products Dir col inside i;
  acc = are.numbers.products Acc col inside i;
  bas = are.numbers.products Bas col inside i;
  spl = sym (are.numbers.no_spill col inside) i;
  rnk = are.numbers.products Rnk col inside i;
}

there : (g : Grid) (ps : Products) (n : MarkedRow) (r c rr cc : ℕ) → IsRowOf g ps r n → rr ≡ r + 1 → cc ≡ c + 1 →
    beside n c ≡ option_map (values_at g ps) (stepped g.extent rr cc)
there g ps n r c rr cc are is_row is_col =
    let down : rr - 1 ≡ r = omega arith in
    let right : cc - 1 ≡ c = omega arith in
    elim (cases_lt c g.extent.cols) [
      | inl inside ↦ rw (are.numbers.cols_are, lt-ltb 0 rr (omega arith), down, lt-ltb r g.extent.rows are.numbers.inside, lt-ltb 0 cc (omega arith), right, lt-ltb c g.extent.cols inside)
          (ap (λ (v : Values). Some v) (values-are g ps r c n are inside))
      | inr outside ↦ rw (are.numbers.cols_are, lt-ltb 0 rr (omega arith), down, lt-ltb r g.extent.rows are.numbers.inside, lt-ltb 0 cc (omega arith), right, le-ltb c g.extent.cols (omega (arith, outside))) refl
    ]

to_west : (g : Grid) (ps : Products) (n : MarkedRow) (r c rr cc : ℕ) → IsRowOf g ps r n → rr ≡ r + 1 → cc ≡ c →
    west_neighbor n c ≡ option_map (values_at g ps) (stepped g.extent rr cc)
to_west g ps n r zero rr cc are is_row is_col =
    let down : rr - 1 ≡ r = omega arith in
    rw (lt-ltb 0 rr (omega arith), down, lt-ltb r g.extent.rows are.numbers.inside, is_col) refl
to_west g ps n r (suc c) rr cc are is_row is_col = there g ps n r c rr cc are is_row (omega arith)

-- where there is no row
gone : (g : Grid) (ps : Products) (rr cc : ℕ) → (0 < rr → g.extent.rows ≤ rr - 1) → None ≡ option_map (values_at g ps) (stepped g.extent rr cc)
gone g ps rr cc past = elim (cases_lt 0 rr) [
  | inl some ↦ rw (lt-ltb 0 rr some, le-ltb (rr - 1) g.extent.rows (past some)) refl
  | inr none ↦ rw (le-ltb 0 rr (omega (arith, none))) refl
]

gone-west : (n : MarkedRow) (c : ℕ) → IsNoRow n → west_neighbor n c ≡ None
gone-west n zero is = refl
gone-west n (suc c) is = rw (is, le-ltb c 0 (omega arith)) refl

gone-beside : (n : MarkedRow) (c : ℕ) → IsNoRow n → beside n c ≡ None
gone-beside n c is = rw (is, le-ltb c 0 (omega arith)) refl

-- a row above or below, or none
level : (g : Grid) (ps : Products) (n : MarkedRow) (c rr cc : ℕ) → ((r : ℕ) → rr ≡ r + 1 → r < g.extent.rows → IsRowOf g ps r n) →
    ((0 < rr → g.extent.rows ≤ rr - 1) → IsNoRow n) → cc ≡ c + 1 → beside n c ≡ option_map (values_at g ps) (stepped g.extent rr cc)
level g ps n c zero cc are none is_col = gone-beside n c (none (λ h. absurd (omega arith))) ∙ gone g ps zero cc (λ h. absurd (omega arith))
level g ps n c (suc r) cc are none is_col = elim (cases_lt r g.extent.rows) [
  | inl inside ↦ there g ps n r c (suc r) cc (are r (omega arith) inside) (omega arith) is_col
  | inr past ↦ (let out : 0 < suc r → g.extent.rows ≤ suc r - 1 = λ h. omega (arith, past) in gone-beside n c (none out) ∙ gone g ps (suc r) cc out)
]

level-west : (g : Grid) (ps : Products) (n : MarkedRow) (c rr cc : ℕ) → ((r : ℕ) → rr ≡ r + 1 → r < g.extent.rows → IsRowOf g ps r n) →
    ((0 < rr → g.extent.rows ≤ rr - 1) → IsNoRow n) → cc ≡ c → west_neighbor n c ≡ option_map (values_at g ps) (stepped g.extent rr cc)
level-west g ps n c zero cc are none is_col = gone-west n c (none (λ h. absurd (omega arith))) ∙ gone g ps zero cc (λ h. absurd (omega arith))
level-west g ps n c (suc r) cc are none is_col = elim (cases_lt r g.extent.rows) [
  | inl inside ↦ to_west g ps n r c (suc r) cc (are r (omega arith) inside) (omega arith) is_col
  | inr past ↦ (let out : 0 < suc r → g.extent.rows ≤ suc r - 1 = λ h. omega (arith, past) in gone-west n c (none out) ∙ gone g ps (suc r) cc out)
]

patch-is : (g : Grid) (ps : Products) (row col : ℕ) (rows : ThreeRows) → AreRowsAround g ps row rows → col < g.extent.cols → patch_in rows col ≡ patch_at g ps (place row col)
patch-is g ps row col rows are inside = λ i. record {
  here = values-are g ps row col rows.here are.here inside i;
  around = there g ps rows.here row (col + 1) (row + 1) (col + 2) are.here refl (omega arith) i
      ∷ level g ps rows.below (col + 1) (row + 2) (col + 2) below none_below (omega arith) i
      ∷ level g ps rows.below col (row + 2) (col + 1) below none_below refl i
      ∷ level-west g ps rows.below col (row + 2) (col + 0) below none_below (omega arith) i
      ∷ to_west g ps rows.here row col (row + 1) (col + 0) are.here refl (omega arith) i
      ∷ level-west g ps rows.above col (row + 0) (col + 0) above none_above (omega arith) i
      ∷ level g ps rows.above col (row + 0) (col + 1) above none_above refl i
      ∷ level g ps rows.above (col + 1) (row + 0) (col + 2) above none_above (omega arith) i ∷ [];
  spacing = are.here.spacing i;
}
  where
    below : (r : ℕ) → row + 2 ≡ r + 1 → r < g.extent.rows → IsRowOf g ps r rows.below
    below r is less = let e : row + 1 ≡ r = omega arith in subst (λ k. IsRowOf g ps k rows.below) e (are.below (omega arith))

    none_below : (0 < row + 2 → g.extent.rows ≤ row + 2 - 1) → IsNoRow rows.below
    none_below past = let last : g.extent.rows ≤ row + 2 - 1 = past (omega arith) in are.none_below (omega (arith, are.here.numbers.inside))

    above : (r : ℕ) → row + 0 ≡ r + 1 → r < g.extent.rows → IsRowOf g ps r rows.above
    above r is less = are.above r (omega arith)

    none_above : (0 < row + 0 → g.extent.rows ≤ row + 0 - 1) → IsNoRow rows.above
    none_above past = are.none_above (let in_grid = are.here.numbers.inside in elim (cases_lt 0 row) [
      | inl some ↦ absurd (let last : g.extent.rows ≤ row + 0 - 1 = past (omega (arith, some)) in omega (arith, in_grid))
      | inr none ↦ omega (arith, none)
    ])

pub three_rows_show_patches : ThreeRowsShowPatches
three_rows_show_patches g ps row rows are = record {
  inside = are.here.numbers.inside;
  cols_are = are.here.numbers.cols_are;
  patches_are = λ col less. patch-is g ps row col rows are (omega (arith, less, are.here.numbers.cols_are));
}
