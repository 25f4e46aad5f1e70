-- The report that a group makes is of the window that the group's windows show at the box, and they are windows of each
-- union of which that one is.
use Rattle.drain_union.proofs.Names.{◌≡◌, ℕ, ◌⊎◌, Bool, ◌+◌, ◌-◌, ◌<◌, ◌≤◌, inl, inr, List, map, IsTrue, refl, sym, ap, subst, ◌∙◌, arith, Contains, Cell, Extent, IsCellOf, NoDataNumbers, Grid, Products, IsInside, values_at, place, Place, SEAM_DEPTH, shown_at, IsGroup, LiesInBox, GroupIsOfWindow, IsReportOf, Report, Window, in_union, place_from, window_from, AreWindowsFrom, IsFrom, IsPlaceIn, IsWindowOf, JudgesSome}
use Rattle.drain_union.proofs.BoxWindows.{from_same}
use Rattle.drain_union.proofs.JoinedReports.{join_is_report}
use Rattle.drain_union.proofs.ReportMerges.{agree, from_map, spaced}
use Rattle.drain_union.proofs.SeenWindows.{grid_at, products_at, row_spacing, seen, seen_same, spacing_same, window_at_box}

-- an outer side of a place in a box is the box's, which is the union's edge
outer_side : (inner of_box : Bool) (at at_box edge : ℕ) → IsTrue inner ⊎ ((at ≡ at_box) × ¬ IsTrue of_box) →
    IsTrue of_box ⊎ (at_box ≡ edge) → IsTrue inner ⊎ (at ≡ edge)
outer_side inner of_box at at_box edge (inl is) side = inl is
outer_side inner of_box at at_box edge (inr outer) (inl is) = absurd (outer.1 is)
outer_side inner of_box at at_box edge (inr outer) (inr is) = inr (outer.0 ∙ is)

-- so the place lies where the box does
pub placed_in : (e : Extent) (box p : Place) → LiesInBox box p → IsPlaceIn e box → IsPlaceIn e p
placed_in e box p lies is =
    let rows : box.top + box.extent.rows ≤ e.rows = is.rows in
    let cols : box.left + box.extent.cols ≤ e.cols = is.cols in
    record {
      rows = omega (arith, lies.rows_to, rows);
      cols = omega (arith, lies.cols_to, cols);
      north = outer_side p.inner.north box.inner.north p.top box.top 0 lies.north is.north;
      south = outer_side p.inner.south box.inner.south (p.top + p.extent.rows) (box.top + box.extent.rows) e.rows lies.south is.south;
      west = outer_side p.inner.west box.inner.west p.left box.left 0 lies.west is.west;
      east = outer_side p.inner.east box.inner.east (p.left + p.extent.cols) (box.left + box.extent.cols) e.cols lies.east is.east;
    }

-- a place in a box doesn't begin before a cell before which the box doesn't
pub from_inside : (origin : Cell) (box p : Place) → IsFrom origin box → LiesInBox box p → IsFrom origin p
from_inside origin box p from lies =
    record { rows = omega (arith, from.rows, lies.rows_from); cols = omega (arith, from.cols, lies.cols_from) }

-- and lies in it wherever rows and columns count from
lies_from : (origin : Cell) (box p : Place) → IsFrom origin box → LiesInBox box p → LiesInBox (place_from origin box) (place_from origin p)
lies_from origin box p from lies =
    let top = from.rows in
    let left = from.cols in
    let rows_from = lies.rows_from in
    let cols_from = lies.cols_from in
    record {
      rows_from = omega (arith, top, rows_from);
      rows_to = omega (arith, top, rows_from, lies.rows_to);
      cols_from = omega (arith, left, cols_from);
      cols_to = omega (arith, left, cols_from, lies.cols_to);
      north = elim lies.north [ inl inner ↦ inl inner | inr outer ↦ inr (ap (λ n. n - origin.row) outer.0, outer.1) ];
      south = elim lies.south [ inl inner ↦ inl inner | inr outer ↦ inr (omega (arith, top, rows_from, outer.0), outer.1) ];
      west = elim lies.west [ inl inner ↦ inl inner | inr outer ↦ inr (ap (λ n. n - origin.col) outer.0, outer.1) ];
      east = elim lies.east [ inl inner ↦ inl inner | inr outer ↦ inr (omega (arith, left, cols_from, outer.0), outer.1) ];
    }

-- the box's first cell, from which its cells count as in the box
abbrev pub corner : Place → Cell
corner box = place box.top box.left

pub from_corner : (box : Place) → IsFrom (corner box) box
from_corner box = record { rows = omega arith; cols = omega arith }

at_corner : (box : Place) (c : Cell) → in_union (place_from (corner box) box) c ≡ c
at_corner box c =
    let row : box.top - box.top + c.row ≡ c.row = omega arith in
    let col : box.left - box.left + c.col ≡ c.col = omega arith in
    λ i. place (row i) (col i)

-- so what is shown at a box is, as a union, the box's own window
pub own_window : (box : Place) (windows : List Window) →
    IsWindowOf (grid_at box windows) (products_at box windows) (window_from (corner box) (window_at_box box windows))
own_window box windows = record {
  placed = record {
    rows = omega arith;
    cols = omega arith;
    north = inr (omega arith);
    south = inr (omega arith);
    west = inr (omega arith);
    east = inr (omega arith);
  };
  extent = refl;
  values = λ c inside. ap (values_at (grid_at box windows) (products_at box windows)) (sym (at_corner box c));
  spacings = λ c inside. ap (λ (x : Cell). (grid_at box windows).spacing x.row) (sym (at_corner box c));
}

pub own_shown : (box : Place) (windows : List Window) →
    shown_at (corner box) box (grid_at box windows) (products_at box windows) ≡ window_at_box box windows
own_shown box windows =
    let g = grid_at box windows in
    let ps = products_at box windows in
    λ i. record {
      place = box;
      grid = record {
        extent = box.extent;
        elevation = λ c. g.elevation (at_corner box c i);
        sink = λ c. g.sink (at_corner box c i);
        spacing = λ row. g.spacing ((at_corner box (place row 0) i).row);
      };
      products = record {
        con = λ c. ps.con (at_corner box c i);
        dir = λ c. ps.dir (at_corner box c i);
        acc = λ c. ps.acc (at_corner box c i);
        bas = λ c. ps.bas (at_corner box c i);
        spl = λ c. ps.spl (at_corner box c i);
        rnk = λ c. ps.rnk (at_corner box c i);
      };
    }

module _ (nodata : NoDataNumbers) (reports : List Report) (window_of : Report → Window) (joined : Report)
    (of : (r : Report) → Contains reports r → IsReportOf SEAM_DEPTH (window_of r) r) (holds : (r : Report) → Contains reports r → IsTrue r.holds)
    (group : IsGroup SEAM_DEPTH nodata reports joined) where
  abbrev box : Place
  box = joined.place

  abbrev windows : List Window
  windows = map window_of reports

  abbrev shown : Window
  shown = window_at_box box windows

  lies : (w : Window) → Contains windows w → LiesInBox box w.place × (w.grid.extent ≡ w.place.extent)
  lies w has =
      let one = from_map window_of reports w has in
      let is = of one.0 one.1 in
      subst (λ (v : Window). LiesInBox box v.place × (v.grid.extent ≡ v.place.extent)) one.2
      (subst (LiesInBox box) is.place (group.lie one.0 one.1), is.extent)

  pub are_windows : (origin : Cell) (u : Grid) (ps : Products) → IsFrom origin box → IsWindowOf u ps (window_from origin shown) →
      AreWindowsFrom origin u ps windows
  are_windows origin u ps from is w has = (
    from_w,
    record {
      placed = placed_in u.extent (place_from origin box) (place_from origin w.place) (lies_from origin box w.place from in_box) is.placed;
      extent = (lies w has).1;
      values = λ x inside.
          (let b = at_box x inside in
          seen_same windows (agree SEAM_DEPTH reports window_of of holds group.overlaps group.agree group.spaced) w has x inside
          ∙ ap (seen windows) (sym b.2)
          ∙ is.values b.0 b.1
          ∙ ap (values_at u ps) (from_same origin box w.place from from_w b.0 x b.2));
      spacings = λ x inside.
          (let b = at_box x inside in
          spacing_same windows (spaced SEAM_DEPTH reports window_of of holds group.overlaps group.agree group.spaced) w has x inside
          ∙ ap (λ (c : Cell). row_spacing windows c.row) (sym b.2)
          ∙ is.spacings b.0 b.1
          ∙ ap (λ (c : Cell). u.spacing c.row) (from_same origin box w.place from from_w b.0 x b.2));
    },
  )
    where
      in_box : LiesInBox box w.place
      in_box = (lies w has).0

      from_w : IsFrom origin w.place
      from_w = from_inside origin box w.place from in_box

      at_box : (x : Cell) → IsInside w.grid x → (b : Cell) × IsCellOf box.extent b × (in_union box b ≡ in_union w.place x)
      at_box x inside =
          let there : IsCellOf w.place.extent x = subst (λ (e : Extent). IsCellOf e x) (lies w has).1 inside in
          let in_rows : x.row < w.place.extent.rows = there.row in
          let in_cols : x.col < w.place.extent.cols = there.col in
          let rows_from = in_box.rows_from in
          let cols_from = in_box.cols_from in
          let row : box.top + (w.place.top + x.row - box.top) ≡ w.place.top + x.row = omega (arith, rows_from) in
          let col : box.left + (w.place.left + x.col - box.left) ≡ w.place.left + x.col = omega (arith, cols_from) in (
            place (w.place.top + x.row - box.top) (w.place.left + x.col - box.left),
            record { row = omega (arith, rows_from, in_box.rows_to); col = omega (arith, cols_from, in_box.cols_to) },
            λ i. place (row i) (col i),
          )

  pub is_report : JudgesSome box → IsReportOf SEAM_DEPTH shown joined
  is_report some =
      let own = own_window box windows in
      subst (λ (w : Window). IsReportOf SEAM_DEPTH w joined) (own_shown box windows)
      (join_is_report (corner box) (grid_at box windows) (products_at box windows) box nodata reports window_of joined (from_corner box) own.placed
      (are_windows (corner box) (grid_at box windows) (products_at box windows) (from_corner box) own) of group.one_nodata some group.fills
      group.made)

pub group_is_of_window : GroupIsOfWindow
group_is_of_window = (
  window_at_box,
  λ nodata reports window_of joined of holds some group. (
    is_report nodata reports window_of joined of holds group some,
    are_windows nodata reports window_of joined of holds group,
  ),
)
