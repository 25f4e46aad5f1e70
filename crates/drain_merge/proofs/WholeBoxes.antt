-- Windows that fill a box without an inner side: on each side one of them ends, and with it the union. It judges a corner of
-- the box, so that side of it has no ring. So the box is the smallest one.
use Rattle.drain_merge.proofs.Names.{◌≡◌, ℕ, ◌-◌, List, refl, ap, sym, subst, arith, false, Contains, false≢true, false_from_ne_true, from_map, Cell, place, IsCellOf, JudgesSome, LiesInBox, in_union, IsJudgedIn, Place, WindowReport, UnionBox, FillBox, IsSmallestBox, StopsAt, box_within, end_at, is_inner_at, places_of, whole_box, North, South, West, East}
use Rattle.drain_merge.specs.declared.smallest_box.Side.{Side}
use Rattle.drain_merge.proofs.JudgedWindows.{at_places}

module _ (b : UnionBox) (ws : List WindowReport) (fills : FillBox (whole_box b) (places_of ws)) (one : WindowReport) (has_one : Contains ws one) where
  -- it has a cell
  some : IsCellOf b.size (place 0 0)
  some =
      let judges = at_places JudgesSome ws fills.some one has_one in
      let lies = at_places (LiesInBox (whole_box b)) ws fills.placed one has_one in
      record {
        row = omega (arith, judges.1.inside.row, lies.rows_from, lies.rows_to);
        col = omega (arith, judges.1.inside.col, lies.cols_from, lies.cols_to);
      }

  -- each cell of it is judged in a window
  judged : (c : Cell) → IsCellOf b.size c → (w : WindowReport) × Contains ws w × LiesInBox (whole_box b) w.report.place
      × ((x : Cell) × IsJudgedIn w.report.place x × (in_union w.report.place x ≡ in_union (whole_box b) c))
  judged c inside =
      let at = fills.whole (in_union (whole_box b) c) (
        c,
        record {
          inside = inside;
          north = λ never. absurd (false≢true never);
          south = λ never. absurd (false≢true never);
          west = λ never. absurd (false≢true never);
          east = λ never. absurd (false≢true never);
        },
        refl,
      ) in
      let w = from_map (λ (x : WindowReport). x.report.place) ws at.0 at.1 in (
        w.0,
        w.1,
        at_places (LiesInBox (whole_box b)) ws fills.placed w.0 w.1,
        subst (λ (p : Place). (x : Cell) × IsJudgedIn p x × (in_union p x ≡ in_union (whole_box b) c)) (sym w.2) at.2,
      )

  stops : (s : Side) → (w : WindowReport) × Contains ws w × StopsAt s (end_at s (whole_box b)) w
  stops North =
      let at = judged (place 0 0) some in
      let row = ap (λ (c : Cell). c.row) at.3.2 in
      (at.0, at.1, (omega (arith, row, at.2.rows_from), false_from_ne_true at.0.report.place.inner.north (λ is. omega (arith, at.3.1.north is, row, at.2.rows_from))))
  stops South =
      let at = judged (place (b.size.rows - 1) 0) (record { row = omega (arith, some.row); col = some.col }) in
      let row = ap (λ (c : Cell). c.row) at.3.2 in (
        at.0,
        at.1,
        (
          omega (arith, row, at.2.rows_to, at.3.1.inside.row, some.row),
          false_from_ne_true at.0.report.place.inner.south (λ is. omega (arith, at.3.1.south is, row, at.2.rows_to, some.row)),
        ),
      )
  stops West =
      let at = judged (place 0 0) some in
      let col = ap (λ (c : Cell). c.col) at.3.2 in
      (at.0, at.1, (omega (arith, col, at.2.cols_from), false_from_ne_true at.0.report.place.inner.west (λ is. omega (arith, at.3.1.west is, col, at.2.cols_from))))
  stops East =
      let at = judged (place 0 (b.size.cols - 1)) (record { row = some.row; col = omega (arith, some.col) }) in
      let col = ap (λ (c : Cell). c.col) at.3.2 in (
        at.0,
        at.1,
        (
          omega (arith, col, at.2.cols_to, at.3.1.inside.col, some.col),
          false_from_ne_true at.0.report.place.inner.east (λ is. omega (arith, at.3.1.east is, col, at.2.cols_to, some.col)),
        ),
      )

  outer : (s : Side) → is_inner_at s (whole_box b) ≡ false
  outer North = refl
  outer South = refl
  outer West = refl
  outer East = refl

  pub whole_is_smallest : (last : ℕ) → b ≡ box_within last ws → IsSmallestBox last ws (whole_box b)
  whole_is_smallest last is = record { bounds = is; sides = λ s. ((λ _. stops s), (λ _. outer s)) }
