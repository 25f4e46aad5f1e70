-- An inland cell is closed and has all eight neighbours, each at its place; and it keeps the rules if its numbers and theirs show it.
use Rattle.drain_rules.proofs.Names.{◌≡◌, ◌∙◌, inl, inr, ℕ, ◌+◌, ◌-◌, ◌*◌, ◌<◌, ◌≤◌, ℤ, pos, ◌≤ℤ◌, ◌<ℤ◌, List, Some, None, IsSome, IsNone, IsTrue, unwrap_or, refl, sym, ap, subst, arith, Bool, true, false, mul-le-mul_right, cases_order, false≢true, ints, clamps, Cell, Direction, East, SouthEast, South, SouthWest, West, NorthWest, North, NorthEast, Patch, BelowGround, OpenRaised, NoSpill, SpillHeight, SpillRank, NotLeast, Names, cols_right, rows_down, Extent, IsCellOf, index_of, step, Grid, Products, height_from, patch_at, values_at, fill_rules, IsFillRule, IsLeastFault, Values, reach, step_gives, step_lies, con_at, fill_grid, fill_products, rnk_at, sample_at, spl_at, square, HasDataAcross, HasPlacesRound, IsInland, IsNoneLower, place_beside}
use Rattle.std.proofs.Common.{◌⊎◌, ◌&&◌, option_map, if◌then◌else◌}
use Rattle.std.specs.Int.{int_max}
use Rattle.std.specs.Ordering.{int_eq}
use Rattle.drain_grid.specs.declared.tile.TheConstants.{VOID}
use Rattle.drain_grid.specs.Patch.{IsDataNeighbor, IsOpen, height, neighbor}
use Rattle.drain_grid.proofs.OpenCells.{IsAtGap, open_without_sinks}
use Rattle.drain_grid.proofs.Patches.{IsOpen-patch_at, cell_shown, neighbor-patch_at}
use Rattle.drain_fill.proofs.SpillParents.{of_named_neighbor}

-- no neighbour is further on than the one in the south-east
pub furthest : (side : ℕ) (d : Direction) → rows_down d * side + cols_right d ≤ 2 * side + 2
furthest side East = omega arith
furthest side SouthEast = omega arith
furthest side South = omega arith
furthest side SouthWest = omega arith
furthest side West = omega arith
furthest side NorthWest = omega arith
furthest side North = omega arith
furthest side NorthEast = omega arith

-- there are places above and below a cell of an inner row
pub rows_round : (side row col : ℕ) → 1 ≤ row → row + 1 < side → col < side →
    (side ≤ row * side + col) × (row * side + col + side < side * side)
rows_round side row col above below inside =
    let first : 1 * side ≤ row * side = mul-le-mul_right side above in
    let last : (row + 2) * side ≤ side * side = mul-le-mul_right side (omega arith) in
    (omega (arith, first), omega (arith, last))

-- the elevation of a sample that has one is its number
sample_is : (sample : ℤ) → IsSome (height_from sample) → unwrap_or (height_from sample) (pos 0) ≡ sample
sample_is sample = by_test (int_eq sample VOID)
  where
    by_test : (is_void : Bool) → IsSome (if is_void then None else Some sample) → unwrap_or (if is_void then None else Some sample) (pos 0) ≡ sample
    by_test true has = absurd (false≢true has)
    by_test false has = refl

-- three places whose samples are elevations
pub data_across : (side : ℕ) (bytes : List ℕ) (row col place : ℕ) → place ≡ row * side + col → 1 ≤ row → row + 1 < side → col < side →
    IsSome (height_from (sample_at bytes (place - side))) → IsSome (height_from (sample_at bytes place)) → IsSome (height_from (sample_at bytes (place + side))) →
    HasDataAcross (fill_grid side bytes) row col
data_across side bytes row col place is above below inside north here south = record {
  above = above;
  below = below;
  inside = inside;
  has_data = λ n up down same.
      elim (cases_order n.row row) [
        | inl level ↦
            (let rows : n.row * side ≡ row * side = ap (λ r. r * side) level in
            let at : place ≡ n.row * side + n.col = omega (arith, is, rows, same) in
            subst (λ k. IsSome (height_from (sample_at bytes k))) at here)
        | inr (inl less) ↦
            (let next : n.row + 1 ≡ row = omega (arith, less, up) in
            let rows : (n.row + 1) * side ≡ row * side = ap (λ r. r * side) next in
            let at : place - side ≡ n.row * side + n.col = omega (arith, is, rows, same) in
            subst (λ k. IsSome (height_from (sample_at bytes k))) at north)
        | inr (inr more) ↦
            (let next : n.row ≡ row + 1 = omega (arith, more, down) in
            let rows : n.row * side ≡ (row + 1) * side = ap (λ r. r * side) next in
            let at : place + side ≡ n.row * side + n.col = omega (arith, is, rows, same) in
            subst (λ k. IsSome (height_from (sample_at bytes k))) at south)
      ];
}

-- what two tests say that both pass
pub both_true : (a b : Bool) → IsTrue (a && b) → IsTrue a × IsTrue b
both_true true true h = (refl, refl)
both_true true false h = absurd (false≢true h)
both_true false b h = absurd (false≢true h)

-- the place of the cell that a step leads to
step_place : (e : Extent) (c n : Cell) (d : Direction) → step e c d ≡ Some n → index_of e n + (e.cols + 1) ≡ index_of e c + (rows_down d * e.cols + cols_right d)
step_place e c n d to_n =
    let lies = (step_lies e c n d to_n).1 in
    let rows : (n.row + 1) * e.cols ≡ (c.row + rows_down d) * e.cols = ap (λ r. r * e.cols) lies.0 in
    omega (arith, rows, lies.1)

-- a cell whose column and the two beside it have data is inland
pub inland_from_columns : (g : Grid) (row col before : ℕ) → before + 1 ≡ col → HasDataAcross g row before → HasDataAcross g row col →
    HasDataAcross g row (col + 1) → IsInland g (record { row = row; col = col })
inland_from_columns g row col before next west here east =
    let back : before ≡ col - 1 = omega (arith, next) in
    record { left = omega (arith, next); west = subst (HasDataAcross g row) back west; here = here; east = east }

-- an inland cell is inside, and closed where it isn't listed
module _ (g : Grid) (c : Cell) (inland : IsInland g c) where
  pub inland_inside : IsCellOf g.extent c
  inland_inside = record { row = omega (arith, inland.here.below); col = inland.here.inside }

  data_round : (n : Cell) → c.row ≤ n.row + 1 → n.row ≤ c.row + 1 → c.col ≤ n.col + 1 → n.col ≤ c.col + 1 → IsSome (g.elevation n)
  data_round n up down left right =
      elim (cases_order n.col c.col) [
        | inl same ↦ inland.here.has_data n up down same
        | inr (inl less) ↦ inland.west.has_data n up down (omega (arith, inland.left))
        | inr (inr more) ↦ inland.east.has_data n up down (omega arith)
      ]

  no_gap : ¬ IsAtGap g c
  no_gap (inl (inl (inl first))) = absurd (omega (arith, inland.here.above))
  no_gap (inl (inl (inr last))) = absurd (omega (arith, inland.here.below))
  no_gap (inl (inr (inl first))) = absurd (omega (arith, inland.left))
  no_gap (inl (inr (inr last))) = absurd (omega (arith, inland.east.inside))
  no_gap (inr void) =
      let n = void.0 in
      let beside = void.1.beside in
      let has : IsSome (g.elevation n) = data_round n beside.up beside.down beside.left beside.right in
      let is_void : IsNone (g.elevation n) = void.1.is_void in
      absurd cc

  closed : (ps : Products) → ¬ IsTrue (g.sink c) → ¬ IsOpen (patch_at g ps c)
  closed ps unlisted opened = no_gap ((open_without_sinks g c unlisted).0 ((IsOpen-patch_at g ps c inland_inside).0 opened)).1

  -- the neighbour in a direction
  abbrev pub there : Direction → Cell
  there d = record { row = c.row + rows_down d - 1; col = c.col + cols_right d - 1 }

  step_there : (d : Direction) → step g.extent c d ≡ Some (there d)
  step_there d =
      let most = reach d in
      step_gives g.extent c (there d) d
      (record { row = omega (arith, most.0, inland.here.below, inland.here.above); col = omega (arith, most.1, inland.east.inside, inland.left) })
      (omega (arith, inland.here.above), omega (arith, inland.left))

-- the places of an inland cell of a square
module _ (side : ℕ) (bytes : List ℕ) (c : Cell) (inland : IsInland (fill_grid side bytes) c) where
  abbrev g : Grid
  g = fill_grid side bytes

  abbrev ps : Products
  ps = fill_products side bytes

  abbrev p : Patch
  p = patch_at g ps c

  abbrev here : ℕ
  here = index_of (square side) c

  pub places_round : HasPlacesRound side here
  places_round =
      let rows = rows_round side c.row c.col inland.here.above inland.here.below inland.here.inside in
      let last : (c.row + 2) * side ≤ side * side = mul-le-mul_right side (omega (arith, inland.here.below)) in
      let first : 1 * side ≤ c.row * side = mul-le-mul_right side inland.here.above in
      record {
        before = omega (arith, first, inland.left);
        after = omega (arith, last, inland.east.inside);
      }

  beside_is : (n : Cell) (d : Direction) → step (square side) c d ≡ Some n → place_beside side here d ≡ index_of (square side) n
  beside_is n d to_n = omega (arith, step_place (square side) c n d to_n, places_round.before)

  ground_is : height p ≡ sample_at bytes here
  ground_is = sample_is (sample_at bytes here) (inland.here.has_data c (omega arith) (omega arith) refl)

  -- what the code's tests say
  module _ (d : Direction) (named : Names (spl_at side bytes here) d)
      (raised : con_at side bytes here ≡ int_max (sample_at bytes here) (con_at side bytes (place_beside side here d)))
      (after : rnk_at side bytes (place_beside side here d) <ℤ rnk_at side bytes here)
      (least : (con_at side bytes here ≤ℤ sample_at bytes here) ⊎ IsNoneLower side bytes here (con_at side bytes here)) where
    abbrev parent : Cell
    parent = there g c inland d

    parent_is : neighbor p d ≡ Some (values_at g ps parent)
    parent_is = neighbor-patch_at g ps c d ∙ ap (λ o. option_map (values_at g ps) o) (step_there g c inland d)

    at_parent : place_beside side here d ≡ index_of (square side) parent
    at_parent = beside_is parent d (step_there g c inland d)

    raised_to : p.here.con ≡ int_max (height p) (ps.con parent)
    raised_to = rw ground_is (subst (λ k. con_at side bytes here ≡ int_max (sample_at bytes here) (con_at side bytes k)) at_parent raised)

    at_most : (n : Values) (e : Direction) → IsDataNeighbor p e n → p.here.con ≤ℤ int_max (height p) n.con
    at_most n e beside =
        let shown = cell_shown g ps c e n beside in
        let con_is : n.con ≡ con_at side bytes (place_beside side here e) =
        ap (λ (v : Values). v.con) (sym shown.1.values) ∙ ap (con_at side bytes) (sym (beside_is shown.0 e shown.1.there)) in
        by_least least con_is
      where
        by_least : (con_at side bytes here ≤ℤ sample_at bytes here) ⊎ IsNoneLower side bytes here (con_at side bytes here) →
            n.con ≡ con_at side bytes (place_beside side here e) → p.here.con ≤ℤ int_max (height p) n.con
        by_least (inl level) con_is = rw ground_is (omega (arith, ints, clamps, level))
        by_least (inr none_lower) con_is =
            let low : p.here.con ≤ℤ n.con = rw con_is (none_lower e) in
            omega (arith, ints, clamps, low)

    pub keeps : IsLeastFault IsFillRule (fill_rules p) None
    keeps BelowGround own = λ _. omega (arith, ints, clamps, raised_to)
    keeps OpenRaised own = λ opened. absurd (closed g c inland ps (λ listed. false≢true listed) opened)
    keeps NoSpill own = λ _. (d, named)
    keeps SpillHeight own = λ _. of_named_neighbor p d (values_at g ps parent) _ named parent_is raised_to
    keeps SpillRank own = λ _. of_named_neighbor p d (values_at g ps parent) (λ n. n.rnk <ℤ p.here.rnk) named parent_is
        (subst (λ k. rnk_at side bytes k <ℤ rnk_at side bytes here) at_parent after)
    keeps NotLeast own = λ _ e n beside. at_most n e beside
    keeps r own = tt

  -- the same of a place and its parent's
  pub keeps_by_tests : (place parent : ℕ) (d : Direction) → place ≡ here → parent ≡ place_beside side place d → Names (spl_at side bytes place) d →
      con_at side bytes place ≡ int_max (sample_at bytes place) (con_at side bytes parent) → rnk_at side bytes parent <ℤ rnk_at side bytes place →
      (con_at side bytes place ≤ℤ sample_at bytes place) ⊎ IsNoneLower side bytes place (con_at side bytes place) →
      IsLeastFault IsFillRule (fill_rules p) None
  keeps_by_tests place parent d place_is parent_is named raised after least =
      let to_here : parent ≡ place_beside side here d = parent_is ∙ ap (λ k. place_beside side k d) place_is in
      keeps d (subst (λ k. Names (spl_at side bytes k) d) place_is named)
      (subst (λ k. con_at side bytes here ≡ int_max (sample_at bytes here) (con_at side bytes k)) to_here
      (subst (λ k. con_at side bytes k ≡ int_max (sample_at bytes k) (con_at side bytes parent)) place_is raised))
      (subst (λ k. rnk_at side bytes k <ℤ rnk_at side bytes here) to_here (subst (λ k. rnk_at side bytes parent <ℤ rnk_at side bytes k) place_is after))
      (subst (λ k. (con_at side bytes k ≤ℤ sample_at bytes k) ⊎ IsNoneLower side bytes k (con_at side bytes k)) place_is least)
