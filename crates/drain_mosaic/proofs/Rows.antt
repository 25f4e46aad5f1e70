-- One row more of the mosaic, and from its rows to the elevation.
use Rattle.drain_mosaic.proofs.Names.{◌≡◌, ℕ, ◌+◌, ◌-◌, ◌*◌, ◌<◌, ◌≤◌, ℤ, List, ◌++◌, length, take, drop, get_or, Some, true, false, int_eq, arith, refl, sym, ap, ◌∙◌, inl, inr, subst, slice_index_or, cases_lt, false≢true, Decides-int_eq, get_or_append_left, get_or-append-add, get_or-take, length-take-le, length-drop, mul-le-mul_right, VOID, Heights, height_from, elevation_at, written_over, Tiling, extent_of, Tile, HasTwoValues, TilesAgree, IsElevation, IsFirstSeam, first_value, IsSeamAlong, IsJoinedRow, AgreeAbove, AreJoinedRows}
use Rattle.std.proofs.Common.{None}
use Rattle.std.proofs.lemmas.List.{length-append}
use Rattle.drain_mosaic.proofs.Agreement.{agreement_gives_elevation}

-- a row lies within the rows
pub row_inside : (rows cols row w n : ℕ) → row < rows → w ≡ cols → n ≡ rows * cols → row * w + w ≤ n
row_inside rows cols row w n less p q =
    let h = mul-le-mul_right cols less in
    subst (λ w. row * w + w ≤ n) (sym p) (omega (arith, h))

-- the list with other items from place a on
abbrev pub spliced : ℕ → ℕ → List ℤ → List ℤ → List ℤ
spliced a k ys xs = take a xs ++ (ys ++ drop k (drop a xs))

length-spliced : (a k : ℕ) (ys xs : List ℤ) → k ≡ length ys → a + k ≤ length xs → length (spliced a k ys xs) ≡ length xs
length-spliced a k ys xs same within =
    let front = length-take-le a xs (omega arith) in
    let back = length-drop k (drop a xs) in
    let rest = length-drop a xs in
    omega (arith, front, back, rest, length-append (take a xs) (ys ++ drop k (drop a xs)), length-append ys (drop k (drop a xs)))

spliced_below : (a k : ℕ) (ys xs : List ℤ) (i : ℕ) (d : ℤ) → a ≤ length xs → i < a → get_or (spliced a k ys xs) i d ≡ get_or xs i d
spliced_below a k ys xs i d within below =
    let front = length-take-le a xs within in
    get_or_append_left (take a xs) (ys ++ drop k (drop a xs)) d i (omega arith) ∙ get_or-take a xs i d below

spliced_inside : (a k : ℕ) (ys xs : List ℤ) (j : ℕ) (d : ℤ) → a ≤ length xs → j < length ys → get_or (spliced a k ys xs) (a + j) d ≡ get_or ys j d
spliced_inside a k ys xs j d within below =
    let front = length-take-le a xs within in
    ap (λ n. get_or (spliced a k ys xs) (n + j) d) (sym front) ∙ get_or-append-add (take a xs) (ys ++ drop k (drop a xs)) j d ∙ get_or_append_left ys (drop k (drop a xs)) d j below

pub length_cut : (xs : List ℤ) (a e : ℕ) → e ≤ length xs → length (take (e - a) (drop a xs)) ≡ e - a
length_cut xs a e within = let rest = length-drop a xs in length-take-le (e - a) (drop a xs) (omega arith)

-- where P holds at none of the first places, nor at the next
pub none_so_far : (P : ℕ → Type 0) (n : ℕ) → ((k : ℕ) → k < n → ¬ P k) → ¬ P n → (k : ℕ) → k < n + 1 → ¬ P k
none_so_far P n before here k below = elim (cases_lt k n) [
  | inl less ↦ before k less
  | inr more ↦ (let e : k ≡ n = omega arith in subst (λ q. ¬ P q) (sym e) here)
]

-- where a row has no seam either, one row more agrees
pub agree_more : (t : Tiling) (ts : List Tile) (r : ℕ) → AgreeAbove t ts r → IsSeamAlong t ts r None → AgreeAbove t ts (r + 1)
agree_more t ts r above here row col below inside = elim (cases_lt row r) [
  | inl less ↦ above row col less inside
  | inr more ↦ (let e : row ≡ r = omega arith in subst (λ q. ¬ HasTwoValues t ts (record { row = q; col = col })) (sym e) (here col inside))
]

-- the rows with one row more
rows_more : (t : Tiling) (ts : List Tile) (r k : ℕ) (old out : List ℤ) → k ≡ length out → length out ≡ (extent_of t).cols → r * (extent_of t).cols + (extent_of t).cols ≤ length old → AreJoinedRows t ts r old → IsJoinedRow t ts r out None
    → AreJoinedRows t ts (r + 1) (spliced (r * (extent_of t).cols) k out old)
rows_more t ts r k old out same wide within above here = record { values = values; agree = agree }
  where
    cols : ℕ
    cols = (extent_of t).cols

    new : List ℤ
    new = spliced (r * cols) k out old

    values : (row col : ℕ) → row < r + 1 → col < cols → height_from (slice_index_or new (row * cols + col) VOID) ≡ first_value t ts (record { row = row; col = col })
    values row col below inside = elim (cases_lt row r) [
      | inl less ↦ (
          let h = mul-le-mul_right cols less in
          ap height_from (spliced_below (r * cols) k out old (row * cols + col) VOID (omega arith) (omega (arith, h))) ∙ above.values row col less inside)
      | inr more ↦ (
          let e : row ≡ r = omega arith in
          subst (λ q. height_from (slice_index_or new (q * cols + col) VOID) ≡ first_value t ts (record { row = q; col = col })) (sym e)
          (ap height_from (spliced_inside (r * cols) k out old col VOID (omega arith) (omega arith)) ∙ here.values col inside))
    ]

    agree : AgreeAbove t ts (r + 1)
    agree = agree_more t ts r above.agree here.first

-- what the code wrote is the rows with one row more
pub rows_step : (t : Tiling) (ts : List Tile) (r w n : ℕ) (xs old out : List ℤ) → xs ≡ old → w ≡ (extent_of t).cols → n ≡ length old → length out ≡ (r * w + w) - r * w → length old ≡ (extent_of t).rows * (extent_of t).cols → r < (extent_of t).rows
    → AreJoinedRows t ts r old → IsJoinedRow t ts r out None
    → (length (take n (spliced (r * w) ((r * w + w) - r * w) out xs ++ drop (length (spliced (r * w) ((r * w + w) - r * w) out xs)) old)) ≡ (extent_of t).rows * (extent_of t).cols)
    × AreJoinedRows t ts (r + 1) (take n (spliced (r * w) ((r * w + w) - r * w) out xs ++ drop (length (spliced (r * w) ((r * w + w) - r * w) out xs)) old))
rows_step t ts r w n xs old out same wide all long whole inside above here =
    let cols = (extent_of t).cols in
    let k = (r * w + w) - r * w in
    let within : r * w + w ≤ length old = row_inside (extent_of t).rows cols r w (length old) inside wide whole in
    let new = spliced (r * w) k out xs in
    let new_is : new ≡ spliced (r * cols) k out old = ap (spliced (r * w) k out) same ∙ ap (λ v. spliced (r * v) k out old) wide in
    let long_new : length new ≡ length old = length-spliced (r * w) k out xs (sym long) (omega (arith, ap length same)) ∙ ap length same in
    let kept : take n (new ++ drop (length new) old) ≡ new = written_over new old n long_new all in
    let width : length out ≡ cols = omega (arith, wide, long) in
    let within_cols : r * cols + cols ≤ length old = row_inside (extent_of t).rows cols r cols (length old) inside refl whole in
    let more = rows_more t ts r k old out (sym long) width within_cols above here in (
      ap length kept ∙ long_new ∙ whole,
      subst (AreJoinedRows t ts (r + 1)) (sym (kept ∙ new_is)) more,
    )

-- where no cell has two values the tiles agree
pub tiles_agree : (t : Tiling) (ts : List Tile) (rows : ℕ) → (extent_of t).rows ≤ rows → AgreeAbove t ts rows → TilesAgree t ts
tiles_agree t ts rows all agree c v w inside is_one is_other = elim (int_eq v w) as (λ b. int_eq v w ≡ b → v ≡ w) [
  | true ↦ λ e. (Decides-int_eq v w).0 e
  | false ↦ λ e. absurd (agree c.row c.col (omega (arith, inside.row)) inside.col
      (record { one = v; other = w; is_one = is_one; is_other = is_other; differ = λ p. false≢true (sym e ∙ (Decides-int_eq v w).1 p) }))
] refl

-- the samples of all rows are the elevation of the mosaic
pub is_elevation : (t : Tiling) (ts : List Tile) (rows : ℕ) (heights : Heights) → (extent_of t).rows ≤ rows → heights.extent ≡ extent_of t → AreJoinedRows t ts rows heights.samples → IsElevation t ts (elevation_at heights)
is_elevation t ts rows heights all shape joined c v inside =
    let same : elevation_at heights c ≡ first_value t ts c = ap (λ e. height_from (slice_index_or heights.samples (c.row * e.cols + c.col) VOID)) shape ∙ joined.values c.row c.col (omega (arith, inside.row)) inside.col in
    let law = agreement_gives_elevation t ts (tiles_agree t ts rows all joined.agree) c v inside in
    (λ e. law.0 (sym same ∙ e), λ is. same ∙ law.1 is)

-- the first cell with two values of the first row that has one is the first seam
pub first_seam : (t : Tiling) (ts : List Tile) (row col : ℕ) → row < (extent_of t).rows → AgreeAbove t ts row → IsSeamAlong t ts row (Some col) → IsFirstSeam t ts (record { row = row; col = col })
first_seam t ts row col inside above here = record {
  inside = record { row = inside; col = here.0 };
  differ = here.1;
  first = λ b in_grid earlier. elim earlier [
    | inl north ↦ above b.row b.col north in_grid.col
    | inr west ↦ subst (λ q. ¬ HasTwoValues t ts (record { row = q; col = b.col })) (sym west.0) (here.2 b.col west.1)
  ];
}
