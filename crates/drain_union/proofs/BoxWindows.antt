-- Windows of a map show at a cell what their union shows at a box of it that has the cell; and where windows fill a box,
-- each cell that it judges is judged in one of them.
use Rattle.drain_union.proofs.Names.{◌≡◌, ◌+◌, ◌-◌, List, map, refl, sym, ap, subst, ◌∙◌, arith, Contains, Cell, IsCellOf, Grid, Products, values_at, patch_at, place, Place, SEAM_DEPTH, shown_at, FillPlace, Window, in_union, place_from, window_from, IsFrom, IsJudgedIn, IsPlaceIn, IsWindowOf}
use Rattle.drain_union.proofs.ReportMerges.{from_map, to_map}
use Rattle.drain_union.proofs.Unions.{in_grid}
use Rattle.drain_union.proofs.WindowPatches.{patch_of_window}

-- a place judges the same of its cells, wherever rows and columns count from
pub judged_from : (origin : Cell) (p : Place) (c : Cell) → IsJudgedIn p c → IsJudgedIn (place_from origin p) c
judged_from origin p c judged =
    record { inside = judged.inside; north = judged.north; south = judged.south; west = judged.west; east = judged.east }

-- what is one cell of the map is one cell of a union that begins at some cell of it
pub from_same : (origin : Cell) (p q : Place) → IsFrom origin p → IsFrom origin q → (a b : Cell) → in_union p a ≡ in_union q b →
    in_union (place_from origin p) a ≡ in_union (place_from origin q) b
from_same origin p q from_p from_q a b same =
    let at_row : p.top + a.row ≡ q.top + b.row = ap (λ (c : Cell). c.row) same in
    let at_col : p.left + a.col ≡ q.left + b.col = ap (λ (c : Cell). c.col) same in
    let row : p.top - origin.row + a.row ≡ q.top - origin.row + b.row = omega (arith, from_p.rows, from_q.rows, at_row) in
    let col : p.left - origin.col + a.col ≡ q.left - origin.col + b.col = omega (arith, from_p.cols, from_q.cols, at_col) in
    λ i. place (row i) (col i)

module _ (origin : Cell) (u : Grid) (ps : Products) (box : Place) (from : IsFrom origin box) (placed : IsPlaceIn u.extent (place_from origin box)) where
  abbrev shown : Window
  shown = shown_at origin box u ps

  box_is : IsWindowOf u ps (window_from origin shown)
  box_is = record { placed = placed; extent = refl; values = λ c inside. refl; spacings = λ c inside. refl }

  pub values_same : (w : Window) → IsFrom origin w.place → IsWindowOf u ps (window_from origin w) → (x c : Cell) → IsCellOf w.place.extent x →
      in_union w.place x ≡ in_union box c → values_at w.grid w.products x ≡ values_at shown.grid shown.products c
  values_same w from_w is x c inside same =
      is.values x (in_grid w is.extent x inside) ∙ ap (values_at u ps) (from_same origin w.place box from_w from x c same)

  pub patch_same : (w : Window) → IsFrom origin w.place → IsWindowOf u ps (window_from origin w) → (x c : Cell) → IsJudgedIn w.place x →
      IsJudgedIn box c → in_union w.place x ≡ in_union box c → patch_at w.grid w.products x ≡ patch_at shown.grid shown.products c
  patch_same w from_w is x c judged_x judged_c same =
      patch_of_window u ps (window_from origin w) is x (judged_from origin w.place x judged_x)
      ∙ ap (patch_at u ps) (from_same origin w.place box from_w from x c same)
      ∙ sym (patch_of_window u ps (window_from origin shown) box_is c (judged_from origin box c judged_c))

-- windows, as the things that are listed have them, whose places fill a box
module _ {X : Type 0} (place_of : X → Place) (window_of : X → Window) (xs : List X)
    (alike : (x : X) → Contains xs x → place_of x ≡ (window_of x).place) (box : Place) (fills : FillPlace SEAM_DEPTH box (map place_of xs)) where
  -- a cell that the box judges is judged in one
  pub down : (c : Cell) → IsJudgedIn box c →
      (x : X) × Contains xs x × ((a : Cell) × IsJudgedIn (window_of x).place a × (in_union (window_of x).place a ≡ in_union box c))
  down c judged =
      let there = fills.whole (in_union box c) (c, judged, refl) in
      let one = from_map place_of xs there.0 there.1 in (
        one.0,
        one.1,
        subst (λ (p : Place). (a : Cell) × IsJudgedIn p a × (in_union p a ≡ in_union box c)) (sym one.2 ∙ alike one.0 one.1) there.2,
      )

  -- and the other way round
  pub up : (x : X) → Contains xs x → (a : Cell) → IsJudgedIn (window_of x).place a →
      (c : Cell) × IsJudgedIn box c × (in_union box c ≡ in_union (window_of x).place a)
  up x has a judged =
      fills.within (in_union (window_of x).place a) (
        place_of x,
        to_map place_of xs x has,
        subst (λ (p : Place). (b : Cell) × IsJudgedIn p b × (in_union p b ≡ in_union (window_of x).place a)) (sym (alike x has)) (a, judged, refl),
      )
