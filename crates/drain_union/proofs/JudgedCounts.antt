-- The counts of windows that judge each cell of a box once, and no other, are the box's. Each judged cell is counted at
-- the box's cell that it is, so the counts are a sum over windows, their cells and the box's cells; in another order that
-- is a sum over the box's cells, where one window counts, and of it one cell. A union is a box that judges all its cells.
use Rattle.drain_union.proofs.Names.{◌≡◌, ◌+◌, ◌-◌, ◌*◌, ◌<◌, ◌≤◌, ap, arith, ◌≢◌, ℕ, zero, suc, inl, inr, pos, Bool, true, false, cond, ◌&&◌, is_some, int_lt, unwrap_or, IsTrue, List, [], ◌∷◌, map, length, slice_index_or, refl, sym, subst, ◌∙◌, Cell, place, same_place, Place, IsJudgedAlong, IsJudgedAt, BothJudgeOne, Window, in_union, IsJudgedIn, IsJudgedInSome, AreWindowsOf, JudgeAll, int_eq, AllPairs, Contains, count_by, sum_by, flat_map, range_with_len, false≢true, false_from_ne_true, cases_eq, cases_order, is_data, is_raised, data_count, raised_count, IsCellOf, same_cell, cells, Extent, Grid, Products, values_at, Values, same_cell_true, same_cell_self, sum_by_same, sum_by_swap, sum_by_zero, CountsAddUp}
use Rattle.std.proofs.lemmas.List.Concat.{length-flat_map}
use Rattle.std.proofs.lemmas.List.FromFn.{length-map-range_with_len, length-range_with_len}
use Rattle.std.proofs.lemmas.List.Sums.{count_by-le-length, sum_by-append, sum_by-cons, sum_by-le}
use Rattle.std.proofs.lemmas.Nat.{mul-le}
use Rattle.drain_rules.specs.Verdicts.{has_outlet_code, outlet_count}
use Rattle.drain_union.specs.JudgedCounts.{ring, judged_row, judged_cells, judged_data, judged_raised, judged_outlets}
use Rattle.drain_union.proofs.Unions.{in_grid}
use Rattle.drain_union.proofs.WindowPatches.{there}

-- A cell of the union is judged at a place where its row and its column are.

pub record IsJudgedBoth (p : Place) (c : Cell) : Type 0 where
  pub rows : IsJudgedAlong p.top p.extent.rows p.inner.north p.inner.south c.row
  pub cols : IsJudgedAlong p.left p.extent.cols p.inner.west p.inner.east c.col

pub judged_both : (p : Place) (c : Cell) → IsJudgedAt p c → IsJudgedBoth p c
judged_both p c at =
    let x = at.0 in
    let judged = at.1 in
    let row : p.top + x.row ≡ c.row = ap (λ (k : Cell). k.row) at.2 in
    let col : p.left + x.col ≡ c.col = ap (λ (k : Cell). k.col) at.2 in
    let in_rows : x.row < p.extent.rows = judged.inside.row in
    let in_cols : x.col < p.extent.cols = judged.inside.col in
    record {
      rows = record {
        from = omega arith;
        below = omega arith;
        before = λ is. (let some : 0 < x.row = judged.north is in omega arith);
        behind = λ is. (let more : x.row + 1 < p.extent.rows = judged.south is in omega arith);
      };
      cols = record {
        from = omega arith;
        below = omega arith;
        before = λ is. (let some : 0 < x.col = judged.west is in omega arith);
        behind = λ is. (let more : x.col + 1 < p.extent.cols = judged.east is in omega arith);
      };
    }

pub judged_at : (p : Place) (c : Cell) → IsJudgedBoth p c → IsJudgedAt p c
judged_at p c both =
    let from_row : p.top ≤ c.row = both.rows.from in
    let from_col : p.left ≤ c.col = both.cols.from in
    let below_row : c.row < p.top + p.extent.rows = both.rows.below in
    let below_col : c.col < p.left + p.extent.cols = both.cols.below in
    let row : p.top + (c.row - p.top) ≡ c.row = omega arith in
    let col : p.left + (c.col - p.left) ≡ c.col = omega arith in (
      place (c.row - p.top) (c.col - p.left),
      record {
        inside = record { row = omega arith; col = omega arith };
        north = λ is. (let some : p.top < c.row = both.rows.before is in omega arith);
        south = λ is. (let more : c.row + 1 < p.top + p.extent.rows = both.rows.behind is in omega arith);
        west = λ is. (let some : p.left < c.col = both.cols.before is in omega arith);
        east = λ is. (let more : c.col + 1 < p.left + p.extent.cols = both.cols.behind is in omega arith);
      },
      λ i. place (row i) (col i),
    )

pub sum_by_map : {X Y : Type 0} (f : Y → ℕ) (h : X → Y) (xs : List X) → sum_by f (map h xs) ≡ sum_by (λ x. f (h x)) xs
sum_by_map f h [] = refl
sum_by_map f h (x ∷ xs) = omega (arith, sum_by-cons f (h x) (map h xs), sum_by-cons (λ y. f (h y)) x xs, sum_by_map f h xs)

pub sum_by_flat_map : {X Y : Type 0} (f : Y → ℕ) (h : X → List Y) (xs : List X) → sum_by f (flat_map h xs) ≡ sum_by (λ x. sum_by f (h x)) xs
sum_by_flat_map f h [] = refl
sum_by_flat_map f h (x ∷ xs) =
    omega (arith, sum_by-append f (h x) (flat_map h xs), sum_by-cons (λ y. sum_by f (h y)) x xs, sum_by_flat_map f h xs)

range_same : (f h : ℕ → ℕ) (a n : ℕ) → ((k : ℕ) → a ≤ k → k < a + n → f k ≡ h k) → sum_by f (range_with_len a n) ≡ sum_by h (range_with_len a n)
range_same f h a zero same = refl
range_same f h a (suc n) same =
    let first : f a ≡ h a = same a (omega arith) (omega arith) in
    let rest = range_same f h (a + 1) n (λ k low high. same k (omega arith) (omega arith)) in
    omega (arith, sum_by-cons f a (range_with_len (a + 1) n), sum_by-cons h a (range_with_len (a + 1) n), first, rest)

-- a sum over a range of which only the term at j counts
range_one : (f : ℕ → ℕ) (a n j : ℕ) → a ≤ j → j < a + n → ((k : ℕ) → k ≢ j → f k ≡ 0) → sum_by f (range_with_len a n) ≡ f j
range_one f a zero j low high others = absurd (omega arith)
range_one f a (suc n) j low high others =
    let parts = sum_by-cons f a (range_with_len (a + 1) n) in
    elim (cases_eq a j) [
      | inl same ↦
          (let rest = range_same f (λ k. 0) (a + 1) n (λ k above below. others k (λ e. omega arith)) in
          let none = sum_by_zero (λ k. 0) (range_with_len (a + 1) n) (λ k. refl) in
          let here = ap f same in
          omega (arith, parts, rest, none, here))
      | inr differ ↦
          (let first = others a differ in
          let at_least : a + 1 ≤ j = omega arith in
          let rest = range_one f (a + 1) n j at_least (omega arith) others in
          omega (arith, parts, first, rest))
    ]

-- sums over a list of terms that are equal at each of its elements
pub listed_same : {X : Type 0} (f h : X → ℕ) (xs : List X) → ((x : X) → Contains xs x → f x ≡ h x) → sum_by f xs ≡ sum_by h xs
listed_same f h [] same = refl
listed_same f h (x ∷ xs) same =
    let first : f x ≡ h x = same x (0, omega arith, refl) in
    let rest = listed_same f h xs (λ y has. same y (suc has.0, omega (arith, has.1), has.2)) in
    omega (arith, sum_by-cons f x xs, sum_by-cons h x xs, first, rest)

-- a sum over a list of which only the term of the element at i counts
listed_one : {X : Type 0} (f : X → ℕ) (xs : List X) (i : ℕ) (d : X) → i < length xs →
    ((j : ℕ) → j < length xs → j ≢ i → f (slice_index_or xs j d) ≡ 0) → sum_by f xs ≡ f (slice_index_or xs i d)
listed_one f [] i d below others = absurd (omega arith)
listed_one f (x ∷ xs) zero d below others =
    let rest = all_zero xs (λ j less. others (suc j) (omega arith) (λ e. omega arith)) in
    omega (arith, sum_by-cons f x xs, rest)
  where
    all_zero : (ys : List _) → ((j : ℕ) → j < length ys → f (slice_index_or ys j d) ≡ 0) → sum_by f ys ≡ 0
    all_zero [] none = refl
    all_zero (y ∷ ys) none =
        let first : f y ≡ 0 = none 0 (omega arith) in
        let rest = all_zero ys (λ j less. none (suc j) (omega arith)) in
        omega (arith, sum_by-cons f y ys, first, rest)
listed_one f (x ∷ xs) (suc i) d below others =
    let first : f x ≡ 0 = others 0 (omega arith) (λ e. omega arith) in
    let rest = listed_one f xs i d (omega arith) (λ j less differ. others (suc j) (omega arith) (λ e. differ (omega arith))) in
    omega (arith, sum_by-cons f x xs, first, rest)

-- the judged rows, or columns, of a place
judged_along : (s f : Bool) (n at : ℕ) → ring s ≤ at → at < ring s + (n - ring s - ring f) → (at < n) × (IsTrue s → 0 < at) × (IsTrue f → at + 1 < n)
judged_along true true n at low high = (omega arith, λ _. omega arith, λ _. omega arith)
judged_along true false n at low high = (omega arith, λ _. omega arith, λ no. absurd (false≢true no))
judged_along false true n at low high = (omega arith, λ no. absurd (false≢true no), λ _. omega arith)
judged_along false false n at low high = (omega arith, λ no. absurd (false≢true no), λ no. absurd (false≢true no))

along_judged : (s f : Bool) (n at : ℕ) → at < n → (IsTrue s → 0 < at) → (IsTrue f → at + 1 < n) → (ring s ≤ at) × (at < ring s + (n - ring s - ring f))
along_judged true true n at below some more = let a = some refl in let b = more refl in (omega arith, omega arith)
along_judged true false n at below some more = let a = some refl in (omega arith, omega arith)
along_judged false true n at below some more = let b = more refl in (omega arith, omega arith)
along_judged false false n at below some more = (omega arith, omega arith)

-- sums over the judged cells of a place
module _ (p : Place) where
  abbrev top : ℕ
  top = ring p.inner.north

  abbrev left : ℕ
  left = ring p.inner.west

  abbrev rows : ℕ
  rows = p.extent.rows - ring p.inner.north - ring p.inner.south

  abbrev cols : ℕ
  cols = p.extent.cols - ring p.inner.west - ring p.inner.east

  pub by_rows : (f : Cell → ℕ) → sum_by f (judged_cells p) ≡ sum_by (λ r. sum_by (λ k. f (place r k)) (range_with_len left cols)) (range_with_len top rows)
  by_rows f =
      sum_by_flat_map f (judged_row p) (range_with_len top rows)
      ∙ sum_by_same (λ r. sum_by f (judged_row p r)) (λ r. sum_by (λ k. f (place r k)) (range_with_len left cols)) (range_with_len top rows)
      (λ r. sum_by_map f (place r) (range_with_len left cols))

  judged_same : (f h : Cell → ℕ) → ((c : Cell) → IsJudgedIn p c → f c ≡ h c) → sum_by f (judged_cells p) ≡ sum_by h (judged_cells p)
  judged_same f h same =
      by_rows f
      ∙ range_same (λ r. sum_by (λ k. f (place r k)) (range_with_len left cols)) (λ r. sum_by (λ k. h (place r k)) (range_with_len left cols)) top rows
      (λ r above below. range_same (λ k. f (place r k)) (λ k. h (place r k)) left cols (λ k after before. same (place r k) (judged r k above below after before)))
      ∙ sym (by_rows h)
    where
      judged : (r k : ℕ) → top ≤ r → r < top + rows → left ≤ k → k < left + cols → IsJudgedIn p (place r k)
      judged r k above below after before =
          let row = judged_along p.inner.north p.inner.south p.extent.rows r above below in
          let col = judged_along p.inner.west p.inner.east p.extent.cols k after before in
          record { inside = record { row = row.0; col = col.0 }; north = row.1; south = row.2; west = col.1; east = col.2 }

  judged_one : (f : Cell → ℕ) (c : Cell) → IsJudgedIn p c → ((x : Cell) → x ≢ c → f x ≡ 0) → sum_by f (judged_cells p) ≡ f c
  judged_one f c judged others =
      let row = along_judged p.inner.north p.inner.south p.extent.rows c.row judged.inside.row judged.north judged.south in
      let col = along_judged p.inner.west p.inner.east p.extent.cols c.col judged.inside.col judged.west judged.east in
      by_rows f
      ∙ range_one (λ r. sum_by (λ k. f (place r k)) (range_with_len left cols)) top rows c.row row.0 row.1
      (λ r other. sum_by_zero (λ k. f (place r k)) (range_with_len left cols) (λ k. others (place r k) (λ same. other (ap (λ (x : Cell). x.row) same))))
      ∙ range_one (λ k. f (place c.row k)) left cols c.col col.0 col.1 (λ k other. others (place c.row k) (λ same. other (ap (λ (x : Cell). x.col) same)))

-- no more cells are judged than the place has
pub judged_most : (p : Place) (counts : Cell → Bool) → count_by counts (judged_cells p) ≤ p.extent.rows * p.extent.cols
judged_most p counts =
    let in_row : (r : ℕ) → length (judged_row p r) ≤ cols p = λ r. omega (arith, length-map-range_with_len (place r) (left p) (cols p)) in
    let all = sum_by-le (λ r. length (judged_row p r)) (cols p) (range_with_len (top p) (rows p)) (λ i d below. in_row (slice_index_or (range_with_len (top p) (rows p)) i d)) in
    let many : length (range_with_len (top p) (rows p)) * cols p ≡ rows p * cols p = ap (λ n. n * cols p) (length-range_with_len (top p) (rows p)) in
    let most = mul-le (rows p) (cols p) p.extent.rows p.extent.cols (omega arith) (omega arith) in
    omega (arith, count_by-le-length counts (judged_cells p), length-flat_map (judged_row p) (range_with_len (top p) (rows p)), all, many, most)

-- a place puts two cells at one cell only where they are one
pub one_cell : (p : Place) (a b : Cell) → in_union p a ≡ in_union p b → a ≡ b
one_cell p a b same =
    let row : p.top + a.row ≡ p.top + b.row = ap (λ (c : Cell). c.row) same in
    let col : p.left + a.col ≡ p.left + b.col = ap (λ (c : Cell). c.col) same in
    same_place a b (omega (arith, row)) (omega (arith, col))

-- windows that judge the cells of a box, and no other, and each of them once
module _ (box : Place) (windows : List Window)
    (within : (w : Window) → Contains windows w → (x : Cell) → IsJudgedIn w.place x → IsJudgedAt box (in_union w.place x))
    (whole : (c : Cell) → IsJudgedIn box c → IsJudgedInSome windows (in_union box c))
    (apart : AllPairs (λ v w. ¬ BothJudgeOne v.place w.place) windows) where
  -- terms of the box's cells, and of the windows' cells that are these
  module _ (f : Cell → ℕ) (of : Window → Cell → ℕ)
      (alike : (w : Window) → Contains windows w → (x c : Cell) → IsJudgedIn w.place x → IsJudgedIn box c → in_union w.place x ≡ in_union box c →
      of w x ≡ f c) where
    -- what a window counts of a cell of the box
    abbrev term : Window → Cell → ℕ
    term w c = sum_by (λ x. cond (same_cell (in_union box c) (in_union w.place x)) (f c) 0) (judged_cells w.place)

    window_sum : (w : Window) → Contains windows w → sum_by (of w) (judged_cells w.place) ≡ sum_by (term w) (judged_cells box)
    window_sum w has =
        judged_same w.place (of w) (λ x. sum_by (λ c. cond (same_cell (in_union box c) (in_union w.place x)) (f c) 0) (judged_cells box)) at_one
        ∙ sum_by_swap (λ x c. cond (same_cell (in_union box c) (in_union w.place x)) (f c) 0) (judged_cells w.place) (judged_cells box)
      where
        at_one : (x : Cell) → IsJudgedIn w.place x →
            of w x ≡ sum_by (λ c. cond (same_cell (in_union box c) (in_union w.place x)) (f c) 0) (judged_cells box)
        at_one x judged =
            let at = within w has x judged in
            let here : same_cell (in_union box at.0) (in_union w.place x) ≡ true =
            subst (λ d. same_cell (in_union box at.0) d ≡ true) at.2 (same_cell_self (in_union box at.0)) in
            let one = judged_one box (λ c. cond (same_cell (in_union box c) (in_union w.place x)) (f c) 0) at.0 at.1
            (λ c differ. ap (λ b. cond b (f c) 0) (false_from_ne_true (same_cell (in_union box c) (in_union w.place x))
            (λ is. differ (one_cell box c at.0 (same_cell_true (in_union box c) (in_union w.place x) is ∙ sym at.2))))) in
            alike w has x at.0 judged at.1 (sym at.2) ∙ sym (one ∙ ap (λ b. cond b (f at.0) 0) here)

    -- nothing of a cell that it doesn't judge, and of another one all
    term_none : (w : Window) (c : Cell) → ¬ IsJudgedAt w.place (in_union box c) → term w c ≡ 0
    term_none w c not =
        judged_same w.place (λ x. cond (same_cell (in_union box c) (in_union w.place x)) (f c) 0) (λ _. 0)
        (λ x judged. ap (λ b. cond b (f c) 0)
        (false_from_ne_true (same_cell (in_union box c) (in_union w.place x))
        (λ is. not (x, judged, sym (same_cell_true (in_union box c) (in_union w.place x) is)))))
        ∙ sum_by_zero (λ _. 0) (judged_cells w.place) (λ _. refl)

    term_all : (w : Window) (c x : Cell) → IsJudgedIn w.place x → in_union w.place x ≡ in_union box c → term w c ≡ f c
    term_all w c x judged is =
        judged_one w.place (λ y. cond (same_cell (in_union box c) (in_union w.place y)) (f c) 0) x judged
        (λ y differ. ap (λ b. cond b (f c) 0)
        (false_from_ne_true (same_cell (in_union box c) (in_union w.place y))
        (λ same. differ (one_cell w.place y x (sym (same_cell_true (in_union box c) (in_union w.place y) same) ∙ sym is)))))
        ∙ ap (λ b. cond b (f c) 0) (subst (λ d. same_cell (in_union box c) d ≡ true) (sym is) (same_cell_self (in_union box c)))

    once : (c : Cell) → IsJudgedIn box c → sum_by (λ w. term w c) windows ≡ f c
    once c inside =
        let at = whole c inside in
        let w = at.0 in
        let i = at.1.0 in
        listed_one (λ v. term v c) windows i w at.1.1 (λ j below differ. term_none (slice_index_or windows j w) c (others j below differ))
        ∙ ap (λ (v : Window). term v c) at.1.2
        ∙ term_all w c at.2.0 at.2.1 at.2.2
      where
        others : (j : ℕ) → j < length windows → j ≢ (whole c inside).1.0 →
            ¬ IsJudgedAt (slice_index_or windows j (whole c inside).0).place (in_union box c)
        others j below differ judged =
            let at = whole c inside in
            let here : IsJudgedAt (slice_index_or windows at.1.0 at.0).place (in_union box c) =
            subst (λ (v : Window). IsJudgedAt v.place (in_union box c)) (sym at.1.2) at.2 in
            elim (cases_order j at.1.0) [
              | inl same ↦ absurd (differ same)
              | inr (inl before) ↦ apart j at.1.0 at.0 before at.1.1 (in_union box c, judged, here)
              | inr (inr after) ↦ apart at.1.0 j at.0 after below (in_union box c, here, judged)
            ]

    add_up : sum_by (λ w. sum_by (of w) (judged_cells w.place)) windows ≡ sum_by f (judged_cells box)
    add_up =
        listed_same (λ w. sum_by (of w) (judged_cells w.place)) (λ w. sum_by (term w) (judged_cells box)) windows window_sum
        ∙ sum_by_swap term windows (judged_cells box)
        ∙ judged_same box (λ c. sum_by (λ w. term w c) windows) f once

  -- so where windows show what a grid and its products show in the box, their counts add up to those of its cells
  module _ (g : Grid) (ps : Products)
      (shown : (w : Window) → Contains windows w → (x c : Cell) → IsJudgedIn w.place x → IsJudgedIn box c → in_union w.place x ≡ in_union box c →
      values_at w.grid w.products x ≡ values_at g ps c) where
    pub add_up_data : sum_by judged_data windows ≡ count_by (is_data g) (judged_cells box)
    add_up_data = add_up (λ c. cond (is_data g c) 1 0) (λ w x. cond (is_data w.grid x) 1 0)
        (λ w has x c at at_c same. ap (λ (v : Values). cond (is_some v.z) 1 0) (shown w has x c at at_c same))

    pub add_up_raised : sum_by judged_raised windows ≡ count_by (is_raised g ps) (judged_cells box)
    add_up_raised = add_up (λ c. cond (is_raised g ps c) 1 0) (λ w x. cond (is_raised w.grid w.products x) 1 0)
        (λ w has x c at at_c same. ap (λ (v : Values). cond (is_some v.z && int_lt (unwrap_or v.z (pos 0)) v.con) 1 0) (shown w has x c at at_c same))

    pub add_up_outlets : sum_by judged_outlets windows ≡ count_by (has_outlet_code g ps) (judged_cells box)
    add_up_outlets = add_up (λ c. cond (has_outlet_code g ps c) 1 0) (λ w x. cond (has_outlet_code w.grid w.products x) 1 0)
        (λ w has x c at at_c same. ap (λ (v : Values). cond (is_some v.z && int_eq v.dir (pos 0)) 1 0) (shown w has x c at at_c same))

-- the box that is all of a union
abbrev pub all_of : Extent → Place
all_of e = record { top = 0; left = 0; extent = e; inner = record { north = false; south = false; west = false; east = false } }

in_all : (e : Extent) (c : Cell) → in_union (all_of e) c ≡ c
in_all e c =
    let row : 0 + c.row ≡ c.row = omega arith in
    let col : 0 + c.col ≡ c.col = omega arith in
    λ i. place (row i) (col i)

all_cells : (e : Extent) → judged_cells (all_of e) ≡ cells e
all_cells e =
    let rows : e.rows - 0 - 0 ≡ e.rows = omega arith in
    let cols : e.cols - 0 - 0 ≡ e.cols = omega arith in
    λ i. flat_map (λ r. map (place r) (range_with_len 0 (cols i))) (range_with_len 0 (rows i))

all_judged : (e : Extent) (c : Cell) → IsCellOf e c → IsJudgedIn (all_of e) c
all_judged e c inside = record {
  inside = inside;
  north = λ no. absurd (false≢true no);
  south = λ no. absurd (false≢true no);
  west = λ no. absurd (false≢true no);
  east = λ no. absurd (false≢true no);
}

module _ (u : Grid) (ps : Products) (windows : List Window) (are : AreWindowsOf u ps windows) (whole : JudgeAll u.extent windows)
    (apart : AllPairs (λ v w. ¬ BothJudgeOne v.place w.place) windows) where
  within_all : (w : Window) → Contains windows w → (x : Cell) → IsJudgedIn w.place x → IsJudgedAt (all_of u.extent) (in_union w.place x)
  within_all w has x judged =
      let c = in_union w.place x in
      (c, all_judged u.extent c (there u.extent w.place (are w has).placed x judged.inside), in_all u.extent c)

  all_judged_there : (c : Cell) → IsJudgedIn (all_of u.extent) c → IsJudgedInSome windows (in_union (all_of u.extent) c)
  all_judged_there c judged = subst (IsJudgedInSome windows) (sym (in_all u.extent c)) (whole c judged.inside)

  shown_there : (w : Window) → Contains windows w → (x c : Cell) → IsJudgedIn w.place x → IsJudgedIn (all_of u.extent) c →
      in_union w.place x ≡ in_union (all_of u.extent) c → values_at w.grid w.products x ≡ values_at u ps c
  shown_there w has x c judged_x judged_c same =
      let is = are w has in
      is.values x (in_grid w is.extent x judged_x.inside) ∙ ap (values_at u ps) (same ∙ in_all u.extent c)

  add_up_all : (sum_by judged_data windows ≡ data_count u) × (sum_by judged_raised windows ≡ raised_count u ps)
      × (sum_by judged_outlets windows ≡ outlet_count u ps)
  add_up_all = (
    add_up_data (all_of u.extent) windows within_all all_judged_there apart u ps shown_there ∙ ap (count_by (is_data u)) (all_cells u.extent),
    add_up_raised (all_of u.extent) windows within_all all_judged_there apart u ps shown_there ∙ ap (count_by (is_raised u ps)) (all_cells u.extent),
    add_up_outlets (all_of u.extent) windows within_all all_judged_there apart u ps shown_there
        ∙ ap (count_by (has_outlet_code u ps)) (all_cells u.extent),
  )

pub counts_add_up : CountsAddUp
counts_add_up u ps windows are whole apart = add_up_all u ps windows are whole apart
