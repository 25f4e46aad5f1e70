-- A window that was cut out of a grid: its judged cells are those of an area of the grid, with the same patches.
use Rattle.drain_window.proofs.Names.{◌≡◌, ℕ, ◌+◌, ◌-◌, ◌<◌, ◌≤◌, min, inl, inr, Bool, true, false, IsTrue, List, map, refl, sym, ◌∙◌, ap, subst, arith, flat_map, range_with_len, Cell, Rule, IsCellOf, IsEarlier, Grid, Products, HoldsAt, IsEarlierPair, IsPatchRule, unranked, NoDataNumbers, same_place, Sound, Faulty, Outlet, Place, SEAM_DEPTH, cut_grid, cut_products, window_at, Window, in_union, moved, IsFirstInside, IsJudgedIn, IsJudgedOutlet, IsPlaceIn, IsWindowOf, RulesHoldInside, IsOnSeam, IsAbove, CountsAmong, HasCell, IsFirstAmong, IsBefore, IsOutletAt, judged_area, ring_of, row_cells_of, WalkJudgesWindow, WalkListsSeams}
use Rattle.drain_union.proofs.Unions.{by_patch}
use Rattle.drain_union.proofs.WindowPatches.{patch_of_window, there}
use Rattle.drain_rules.specs.Rows.{place}

-- behind the ring of a first row, and before that of a last one
after_ring : (b : Bool) (first at : ℕ) → (IsTrue b → 0 < at) → first + ring_of b ≤ first + at
after_ring true first at some = let s = some refl in omega arith
after_ring false first at some = omega arith

before_ring : (b : Bool) (first at count : ℕ) → at < count → (IsTrue b → at + 1 < count) → first + at < first + count - ring_of b
before_ring true first at count less more = let m = more refl in omega arith
before_ring false first at count less more = omega arith

after_back : (b : Bool) (first at : ℕ) → first + ring_of b ≤ first + at → IsTrue b → 0 < at
after_back true first at behind is = omega arith
after_back false first at behind is = absurd (let no : ⊥ = cc in no)

before_back : (b : Bool) (first at count : ℕ) → first + at < first + count - ring_of b → (at < count) × (IsTrue b → at + 1 < count)
before_back true first at count less = (omega arith, λ is. omega arith)
before_back false first at count less = (omega arith, λ is. absurd (let no : ⊥ = cc in no))

-- the judged cells of a place are those of its judged area
judged_to : (p : Place) (c : Cell) → IsJudgedIn p c → HasCell (judged_area p) (in_union p c)
judged_to p c judged = record {
  top = after_ring p.inner.north p.top c.row judged.north;
  bottom = before_ring p.inner.south p.top c.row p.extent.rows judged.inside.row judged.south;
  left = after_ring p.inner.west p.left c.col judged.west;
  right = before_ring p.inner.east p.left c.col p.extent.cols judged.inside.col judged.east;
}

judged_back : (p : Place) (c : Cell) → HasCell (judged_area p) (in_union p c) → IsJudgedIn p c
judged_back p c has =
    let rows = before_back p.inner.south p.top c.row p.extent.rows has.bottom in
    let cols = before_back p.inner.east p.left c.col p.extent.cols has.right in
    record {
      inside = record { row = rows.0; col = cols.0 };
      north = after_back p.inner.north p.top c.row has.top;
      south = rows.1;
      west = after_back p.inner.west p.left c.col has.left;
      east = cols.1;
    }

back_is : (p : Place) (c : Cell) → HasCell (judged_area p) c → (x : Cell) × IsJudgedIn p x × (in_union p x ≡ c)
back_is p c has =
    let x : Cell = record { row = c.row - p.top; col = c.col - p.left } in
    let row : p.top + x.row ≡ c.row = omega (arith, has.top) in
    let col : p.left + x.col ≡ c.col = omega (arith, has.left) in
    let same : in_union p x ≡ c = same_place (in_union p x) c row col in
    (x, judged_back p x (subst (HasCell (judged_area p)) (sym same) has), same)

-- a place moved to the union judges the same cells
pub moved_judged : (origin : Cell) (p : Place) (c : Cell) → IsJudgedIn p c → IsJudgedIn (moved origin p) c
moved_judged origin p c judged =
    record { inside = judged.inside; north = judged.north; south = judged.south; west = judged.west; east = judged.east }

pub judged_moved : (origin : Cell) (p : Place) (c : Cell) → IsJudgedIn (moved origin p) c → IsJudgedIn p c
judged_moved origin p c judged =
    record { inside = judged.inside; north = judged.north; south = judged.south; west = judged.west; east = judged.east }

-- the union's cell, by the way of the grid
by_grid : (origin : Cell) (p : Place) (c : Cell) → record { row = origin.row + (p.top + c.row); col = origin.col + (p.left + c.col) } ≡ in_union (moved origin p) c
by_grid origin p c = same_place _ _ (omega arith) (omega arith)

module _ (nodata : NoDataNumbers) (origin : Cell) (p : Place) (g : Grid) (ps : Products) (placed : IsPlaceIn g.extent p) where
  abbrev here : Window
  here = window_at origin p g ps

  abbrev cut : Window
  cut = record { place = p; grid = cut_grid p g; products = cut_products p ps }

  is_window : IsWindowOf g ps cut
  is_window = record { placed = placed; extent = refl; values = λ c inside. refl; spacings = λ c inside. refl }

  -- at a judged cell a rule of a patch holds in both or in neither
  to_grid : (c : Cell) (r : Rule) → IsJudgedIn p c → IsPatchRule r → HoldsAt (unranked nodata) here.grid here.products c r → HoldsAt (unranked nodata) g ps (in_union p c) r
  to_grid c r judged own holds = by_patch (unranked nodata) here.grid g here.products ps c (in_union p c) r own (patch_of_window g ps cut is_window c judged) holds

  to_window : (c : Cell) (r : Rule) → IsJudgedIn p c → IsPatchRule r → HoldsAt (unranked nodata) g ps (in_union p c) r → HoldsAt (unranked nodata) here.grid here.products c r
  to_window c r judged own holds =
      by_patch (unranked nodata) g here.grid ps here.products (in_union p c) c r own (sym (patch_of_window g ps cut is_window c judged)) holds

  inside_grid : (c : Cell) → IsJudgedIn p c → IsCellOf g.extent (in_union p c)
  inside_grid c judged = there g.extent p placed c judged.inside

  above_all : (c : Cell) → IsJudgedIn p c → IsAbove (judged_area p) g g.extent.rows (in_union p c)
  above_all c judged = record { inside = judged_to p c judged; in_row = (inside_grid c judged).col; above = (inside_grid c judged).row }

  earlier_there : (b c : Cell) → IsEarlier b c → IsEarlier (in_union p b) (in_union p c)
  earlier_there b c (inl before) = inl (omega arith)
  earlier_there b c (inr beside) = inr (omega (arith, beside.0), omega (arith, beside.1))

  pair_there : (b : Cell) (q : Rule) (c : Cell) (r : Rule) → IsEarlierPair b q c r → IsEarlierPair (in_union p b) q (in_union p c) r
  pair_there b q c r (inl before) = inl (earlier_there b c before)
  pair_there b q c r (inr same) = inr (ap (in_union p) same.0, same.1)

  of_sound : (outlets : List Outlet) → ((c : Cell) (r : Rule) → IsAbove (judged_area p) g g.extent.rows c → IsPatchRule r → HoldsAt (unranked nodata) g ps c r) → RulesHoldInside nodata here
  of_sound outlets holds c r judged own =
      let at_place = judged_moved origin p c judged in
      to_window c r at_place own (holds (in_union p c) r (above_all c at_place) own)

  of_faulty : (cell : Cell) (rule : Rule) → IsFirstAmong (unranked nodata) IsPatchRule (judged_area p) g ps cell rule → (c : Cell) × (in_union p c ≡ cell) × IsFirstInside nodata here c rule
  of_faulty cell rule first =
      let found = back_is p cell first.inside in
      let same : in_union p found.0 ≡ cell = found.2 in (
        found.0,
        same,
        record {
          judged = moved_judged origin p found.0 found.1;
          is_own = first.is_own;
          fails = λ holds. first.fails (subst (λ x. HoldsAt (unranked nodata) g ps x rule) same (to_grid found.0 rule found.1 first.is_own holds));
          first = λ b q judged own before.
              (let at_place = judged_moved origin p b judged in
              to_window b q at_place own
              (first.first (in_union p b) q (judged_to p b at_place) (inside_grid b at_place) own
              (subst (λ x. IsEarlierPair (in_union p b) q x rule) same (pair_there b q found.0 rule before))));
        },
      )

  -- the outlets of the area are those that the window judges
  outlet_to : (x : Outlet) (c : Cell) → IsBefore (judged_area p) (place g.extent.rows 0) c → IsOutletAt g ps origin c x →
      (b : Cell) × IsJudgedOutlet here b × (here.products.bas b ≡ x.label) × (in_union here.place b ≡ x.cell)
  outlet_to x c before outlet =
      let found = back_is p c before.inside in
      let same : in_union p found.0 ≡ c = found.2 in
      let at_cell : IsOutletAt g ps origin (in_union p found.0) x = subst (λ b. IsOutletAt g ps origin b x) (sym same) outlet in (
        found.0,
        record {
          judged = moved_judged origin p found.0 found.1;
          has_data = record { inside = found.1.inside; is_data = at_cell.has_data.is_data };
          code = at_cell.code;
        },
        sym at_cell.label,
        sym (by_grid origin p found.0) ∙ sym at_cell.cell,
      )

  outlet_back : (c : Cell) → IsJudgedOutlet here c →
      (b : Cell) × IsBefore (judged_area p) (place g.extent.rows 0) b × IsOutletAt g ps origin b (record { label = here.products.bas c; cell = in_union here.place c })
  outlet_back c outlet =
      let at_place = judged_moved origin p c outlet.judged in (
        in_union p c,
        record { inside = judged_to p c at_place; earlier = inl (inside_grid c at_place).row },
        record {
          has_data = record { inside = inside_grid c at_place; is_data = outlet.has_data.is_data };
          code = outlet.code;
          label = refl;
          cell = sym (by_grid origin p c);
        },
      )

-- the last judged row is one of the grid
all_rows : (p : Place) (g : Grid) → IsPlaceIn g.extent p →
    min g.extent.rows (judged_area p).bottom - (judged_area p).top ≡ (judged_area p).bottom - (judged_area p).top
all_rows p g placed =
    let rows : p.top + p.extent.rows ≤ g.extent.rows = placed.rows in
    let last : min g.extent.rows (p.top + p.extent.rows - ring_of p.inner.south) ≡ p.top + p.extent.rows - ring_of p.inner.south = omega arith in
    ap (λ n. n - (judged_area p).top) last

-- and so is the last judged column
all_cols : (p : Place) (g : Grid) → IsPlaceIn g.extent p →
    min (judged_area p).right g.extent.cols - (judged_area p).left ≡ (judged_area p).right - (judged_area p).left
all_cols p g placed =
    let cols : p.left + p.extent.cols ≤ g.extent.cols = placed.cols in
    let last : min (p.left + p.extent.cols - ring_of p.inner.east) g.extent.cols ≡ p.left + p.extent.cols - ring_of p.inner.east = omega arith in
    ap (λ n. n - (judged_area p).left) last

pub walk_judges_window : WalkJudgesWindow
walk_judges_window nodata origin p g ps outlets (Sound tally) placed judged = (
  of_sound nodata origin p g ps placed outlets judged.holds,
  record {
    sound = λ x has.
        (let found = (judged.kept x).0 has in
        outlet_to nodata origin p g ps placed x found.0 found.1 found.2);
    complete = λ c outlet. (judged.kept (record { label = ps.bas (in_union p c); cell = in_union (moved origin p) c })).1 (outlet_back nodata origin p g ps placed c outlet);
  },
  subst (λ n. CountsAmong g ps (flat_map (row_cells_of (judged_area p)) (range_with_len (judged_area p).top n)) tally) (all_rows p g placed)
      (subst (λ n. CountsAmong g ps (flat_map (λ row. map (place row) (range_with_len (judged_area p).left n)) (range_with_len (judged_area p).top (min g.extent.rows (judged_area p).bottom - (judged_area p).top))) tally)
      (all_cols p g placed) judged.counted),
)
walk_judges_window nodata origin p g ps outlets (Faulty cell rule) placed first = of_faulty nodata origin p g ps placed cell rule first

seam_to : (origin : Cell) (p : Place) (c : Cell) → IsOnSeam SEAM_DEPTH p c → IsOnSeam SEAM_DEPTH (moved origin p) c
seam_to origin p c on = record { inside = on.inside; beside = on.beside }

seam_back : (origin : Cell) (p : Place) (c : Cell) → IsOnSeam SEAM_DEPTH (moved origin p) c → IsOnSeam SEAM_DEPTH p c
seam_back origin p c on = record { inside = on.inside; beside = on.beside }

pub walk_lists_seams : WalkListsSeams
walk_lists_seams origin p g ps xs placed lists = record {
  sound = λ x has.
      (let found = (lists x).0 has in
      (found.0, seam_to origin p found.0 found.1.on_seam, sym found.2.cell, sym found.2.values));
  complete = λ c on.
      (let at_place = seam_back origin p c on in
      (lists _).1
      (c, record { on_seam = at_place; above = (there g.extent p placed c at_place.inside).row }, record { cell = refl; values = refl }));
}
