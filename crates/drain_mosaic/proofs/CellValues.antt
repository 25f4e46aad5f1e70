-- The values of a cell, tile by tile.
use Rattle.drain_mosaic.proofs.Names.{◌≡◌, ℕ, ◌+◌, ◌-◌, ◌<◌, ◌≤◌, ℤ, List, [], length, take, drop, get_or, Option, Some, option_map, slice_get, arith, refl, sym, ap, ◌∙◌, inl, inr, subst, ◌⊎◌, option_or, cases_lt, take-append-drop, same_Some, Cell, height_from, tile_sample_at, Tiling, top_of, left_of, top_left_of, Tile, Covers, HasTwoValues, AreTiles, tiles_of, value_from, first_value, AreTwo}
use Rattle.std.proofs.Common.{None}
use Rattle.drain_mosaic.proofs.Values.{first_value_push, GivesAnother, two_keep, two_new, two_split}
use Rattle.drain_mosaic.proofs.Agreement.{covered}
use Rattle.drain_mosaic.proofs.Joining.{uncovered}
use Rattle.drain_mosaic.proofs.TileRows.{tile_of, take_tile, place_is}

-- what the code found of a cell in a tile
pub record IsValueAt (side : ℕ) (place : Cell) (tile : List ℤ) (c : Cell) (value : Option ℤ) : Type 0 where
  pub over : place.row ≤ c.row → c.row < place.row + side → place.col ≤ c.col → c.col < place.col + side → value ≡ height_from (tile_sample_at side tile (c.row - place.row) (c.col - place.col))
  pub beside : (c.row < place.row) ⊎ (place.row + side ≤ c.row) ⊎ (c.col < place.col) ⊎ (place.col + side ≤ c.col) → value ≡ None

pub value_is : (t : Tiling) (tile : Tile) (c : Cell) (value : Option ℤ) → IsValueAt t.side (top_left_of t tile.corner) tile.samples c value → value ≡ value_from t tile c
value_is t tile c value is = elim (cases_lt c.row top) [
  | inl north ↦ aside (inl north) (λ h. absurd (omega (arith, north, h.from_top)))
  | inr from_top ↦ elim (cases_lt c.row (top + t.side)) [
    | inl to_bottom ↦ elim (cases_lt c.col left) [
      | inl west ↦ aside (inr (inr (inl west))) (λ h. absurd (omega (arith, west, h.from_left)))
      | inr from_left ↦ elim (cases_lt c.col (left + t.side)) [
        | inl to_right ↦ is.over from_top to_bottom from_left to_right ∙ sym (covered t tile c (record { from_top = from_top; to_bottom = to_bottom; from_left = from_left; to_right = to_right }))
        | inr east ↦ aside (inr (inr (inr east))) (λ h. absurd (omega (arith, east, h.to_right)))
      ]
    ]
    | inr south ↦ aside (inr (inl south)) (λ h. absurd (omega (arith, south, h.to_bottom)))
  ]
]
  where
    top : ℕ
    top = top_of t tile.corner

    left : ℕ
    left = left_of t tile.corner

    aside : (c.row < top) ⊎ (top + t.side ≤ c.row) ⊎ (c.col < left) ⊎ (left + t.side ≤ c.col) → ¬ Covers t tile c → value ≡ value_from t tile c
    aside out not = is.beside out ∙ sym (uncovered t tile c not)

-- what the code found in the tile in place i
pub value_of_tile : (t : Tiling) (samples : List (List ℤ)) (i : ℕ) (place : Cell) (tile : List ℤ) (side : ℕ) (c : Cell) (value : Option ℤ) → side ≡ t.side → AreTiles t samples → i < length samples → tile ≡ get_or samples i []
    → Some place ≡ option_map (top_left_of t) (slice_get t.corners i) → IsValueAt side place tile c value → value ≡ value_from t (tile_of t samples i) c
value_of_tile t samples i place tile side c value side_is tiles inside is at found =
    let here = tile_of t samples i in
    let place_at = place_is t i place (omega (arith, tiles.named)) at in
    value_is t here c value (subst (λ ss. IsValueAt t.side (top_left_of t here.corner) ss c value) is (subst (λ p. IsValueAt t.side p tile c value) place_at (subst (λ n. IsValueAt n place tile c value) side_is found)))

another : (t : Tiling) (ts : List Tile) (tile : Tile) (c : Cell) (a b : Option ℤ) → a ≡ first_value t ts c → b ≡ value_from t tile c → AreTwo a b → GivesAnother t ts tile c
another t ts tile c (Some x) (Some y) first from two = record { one = x; other = y; first = sym first; from = sym from; differ = λ e. two.2 (ap (λ w. Some w) e) }
another t ts tile c (Some x) None first from two = absurd (two.1 refl)
another t ts tile c None b first from two = absurd (two.0 refl)

are_two : (t : Tiling) (ts : List Tile) (tile : Tile) (c : Cell) (a b : Option ℤ) → a ≡ first_value t ts c → b ≡ value_from t tile c → GivesAnother t ts tile c → AreTwo a b
are_two t ts tile c a b first from h = (
  λ e. (let p = sym e ∙ first ∙ h.first in cc),
  λ e. (let p = sym e ∙ from ∙ h.from in cc),
  λ e. h.differ (same_Some h.one h.other (sym (first ∙ h.first) ∙ e ∙ from ∙ h.from)),
)

-- where a tile gives another value than the first tiles, the cell has two
pub two_found : (t : Tiling) (samples : List (List ℤ)) (i : ℕ) (c : Cell) (first value : Option ℤ) → AreTiles t samples → i < length samples → first ≡ first_value t (take i (tiles_of t.corners samples)) c → value ≡ value_from t (tile_of t samples i) c
    → AreTwo first value → HasTwoValues t (tiles_of t.corners samples) c
two_found t samples i c first value tiles inside first_is value_is two =
    let all = tiles_of t.corners samples in
    let here = tile_of t samples i in
    let so_far : HasTwoValues t (take (i + 1) all) c = subst (λ ts. HasTwoValues t ts c) (sym (take_tile t samples i tiles inside)) (two_new t (take i all) here c (another t (take i all) here c first value first_is value_is two)) in
    subst (λ ts. HasTwoValues t ts c) (take-append-drop (i + 1) all) (two_keep t (take (i + 1) all) (drop (i + 1) all) c so_far)

-- where it doesn't, the first tiles and it give the cell no two values
pub no_two_more : (t : Tiling) (samples : List (List ℤ)) (i : ℕ) (c : Cell) (first value next : Option ℤ) → AreTiles t samples → i < length samples → first ≡ first_value t (take i (tiles_of t.corners samples)) c → value ≡ value_from t (tile_of t samples i) c
    → next ≡ option_or first value → ¬ AreTwo first value → ¬ HasTwoValues t (take i (tiles_of t.corners samples)) c
    → (next ≡ first_value t (take (i + 1) (tiles_of t.corners samples)) c) × ¬ HasTwoValues t (take (i + 1) (tiles_of t.corners samples)) c
no_two_more t samples i c first value next tiles inside first_is value_is next_is not_two before =
    let ts = take i (tiles_of t.corners samples) in
    let here = tile_of t samples i in
    subst (λ more. (next ≡ first_value t more c) × ¬ HasTwoValues t more c) (sym (take_tile t samples i tiles inside)) (
      next_is ∙ ap (λ o. option_or o value) first_is ∙ ap (option_or (first_value t ts c)) value_is ∙ sym (first_value_push t ts here c),
      λ two. elim (two_split t ts here c two) [
        | inl old ↦ before old
        | inr new ↦ not_two (are_two t ts here c first value first_is value_is new)
      ],
    )
