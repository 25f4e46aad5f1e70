-- Bytes around a cell: the least of them is 0 where the cell is beside a gap.
use Rattle.drain_flood.proofs.Names.{HasFirstMarks, IsFirstMark, AreDataMarks, AreFirstMarks, AreGrounds, IsGround, IsMarkOf, least_around, AreInside, IsClosed, IsInnerPlace, NO_HEIGHT, OPEN, VOID, before_row, place, step_gives, step_lies, index_of-below, none_some, some_or_none, void_data, at_ends, col_beside, number_beside, number_in_row, place_in_row, row_beside, three_rows, cols_right, rows_down, Extent, IsCellOf, index_of, step, Grid, Heights, IsInside, IsSample, height_from, IsGap, is_listed, Distances, elevation_at, sample_at, sample_row, spaced_grid, Cell, Direction, East, North, NorthEast, NorthWest, South, SouthEast, SouthWest, West, SinkLine, Bool, IsNone, IsTrue, List, None, Option, Some, ap, arith, false, get_or, get_or-set_other, get_or-set_same, if◌then◌else◌, inl, inr, length, min, option_map, pos, refl, set, slice_index, slice_index_or, subst, sym, true, ℕ, ℤ, ◌*◌, ◌+◌, ◌-◌, ◌<◌, ◌↔◌, ◌∙◌, ◌≡◌, ◌≤◌, ◌⊎◌, cases_eq, cases_lt, false≢true, Decides-int_eq, All-get_or, All, int_eq}
use Rattle.std.proofs.lemmas.List.FromFn.{get_or-map-range_with_len, length-map-range_with_len}
use Rattle.drain_flood.proofs.Cells.{none_or_some}
use Rattle.drain_flood.proofs.Insides.{cell_there}

-- The least of eight numbers is 0 if one of them is.

one_of_two : (a b : ℕ) → min a b ≡ 0 → (a ≡ 0) ⊎ (b ≡ 0)
one_of_two a b least =
    elim (cases_eq a 0) [
      | inl zero ↦ inl zero
      | inr more ↦ inr (omega (arith, least, more))
    ]

from_left : (a b : ℕ) → a ≡ 0 → min a b ≡ 0
from_left a b zero = omega (arith, zero)

from_right : (a b : ℕ) → b ≡ 0 → min a b ≡ 0
from_right a b zero = omega (arith, zero)

module _ (p : Direction → ℕ) where
  abbrev along_row : ℕ
  along_row = min (p East) (p South)

  abbrev along_column : ℕ
  along_column = min (p West) (p North)

  abbrev across_south : ℕ
  across_south = min (p SouthEast) (p SouthWest)

  abbrev across_north : ℕ
  across_north = min (p NorthWest) (p NorthEast)

  abbrev along : ℕ
  along = min along_row along_column

  abbrev across : ℕ
  across = min across_south across_north

  one_of_eight : min along across ≡ 0 → (d : Direction) × (p d ≡ 0)
  one_of_eight least = elim (one_of_two along across least) [
    | inl first ↦ elim (one_of_two along_row along_column first) [
      | inl two ↦ elim (one_of_two (p East) (p South) two) [
        | inl zero ↦ (East, zero)
        | inr zero ↦ (South, zero)
      ]
      | inr two ↦ elim (one_of_two (p West) (p North) two) [
        | inl zero ↦ (West, zero)
        | inr zero ↦ (North, zero)
      ]
    ]
    | inr second ↦ elim (one_of_two across_south across_north second) [
      | inl two ↦ elim (one_of_two (p SouthEast) (p SouthWest) two) [
        | inl zero ↦ (SouthEast, zero)
        | inr zero ↦ (SouthWest, zero)
      ]
      | inr two ↦ elim (one_of_two (p NorthWest) (p NorthEast) two) [
        | inl zero ↦ (NorthWest, zero)
        | inr zero ↦ (NorthEast, zero)
      ]
    ]
  ]

  from_one : (d : Direction) → p d ≡ 0 → min along across ≡ 0
  from_one East zero = from_left along across (from_left along_row along_column (from_left (p East) (p South) zero))
  from_one South zero = from_left along across (from_left along_row along_column (from_right (p East) (p South) zero))
  from_one West zero = from_left along across (from_right along_row along_column (from_left (p West) (p North) zero))
  from_one North zero = from_left along across (from_right along_row along_column (from_right (p West) (p North) zero))
  from_one SouthEast zero = from_right along across (from_left across_south across_north (from_left (p SouthEast) (p SouthWest) zero))
  from_one SouthWest zero = from_right along across (from_left across_south across_north (from_right (p SouthEast) (p SouthWest) zero))
  from_one NorthWest zero = from_right along across (from_right across_south across_north (from_left (p NorthWest) (p NorthEast) zero))
  from_one NorthEast zero = from_right along across (from_right across_south across_north (from_right (p NorthWest) (p NorthEast) zero))

gap_of_none : (o : Option ℤ) → IsNone o → IsGap (Some o)
gap_of_none None none = tt
gap_of_none (Some z) none = absurd (false≢true (sym none))

none_of_gap : (o : Option ℤ) → IsGap (Some o) → IsNone o
none_of_gap None gap = refl
none_of_gap (Some z) gap = absurd gap

-- a byte beside a cell is 0 where there is a gap
module _ (h : Heights) (c : Cell) (inside : IsCellOf h.extent c) (above here below : List ℕ)
    (rows : (d : Direction) → AreDataMarks h (c.row + rows_down d) (row_beside above here below d)) where
  abbrev mark : Direction → ℕ
  mark d = number_beside above here below c.col d

  is_gap_at : (d : Direction) → (mark d ≡ 0 ↔ IsGap (option_map (elevation_at h) (step h.extent c d)))
  is_gap_at d =
      elim (some_or_none (step h.extent c d)) [
        | inl none ↦ (
          (λ zero. subst (λ o. IsGap (option_map (elevation_at h) o)) (sym none) tt),
          (λ gap. number_in_row above here below c.col d ∙ (rows d).gaps (c.col + cols_right d) (col_beside c.col h.extent.cols d inside.col)
              (λ n in_n row col. none_some n (sym none ∙ step_gives h.extent c n d in_n (row, col)))),
        )
        | inr (n, there) ↦
            (let lies = step_lies h.extent c n d there in
            let same : mark d ≡ slice_index (row_beside above here below d) (n.col + 1) =
            number_in_row above here below c.col d ∙ ap (slice_index (row_beside above here below d)) (sym lies.1.1) in
            let told = (rows d).cells n lies.0 lies.1.0 in (
              (λ zero. subst (λ o. IsGap (option_map (elevation_at h) o)) (sym there) (gap_of_none (elevation_at h n) (told.0 (sym same ∙ zero)))),
              (λ gap. same ∙ told.1 (none_of_gap (elevation_at h n) (subst (λ o. IsGap (option_map (elevation_at h) o)) there gap))),
            ))
      ]

  is_beside : (least_around above here below c.col ≡ 0 ↔ ((d : Direction) × IsGap (option_map (elevation_at h) (step h.extent c d))))
  is_beside = (
    (λ least. let found = one_of_eight mark least in (found.0, (is_gap_at found.0).0 found.1)),
    (λ gap. from_one mark gap.0 ((is_gap_at gap.0).1 gap.1)),
  )

-- so a mark from these bytes is the cell's first one
pub first_mark_is : (spacing : ℕ → Distances) (h : Heights) (sinks : List SinkLine) (c : Cell) (above here below : List ℕ) (listed : Bool) (put : ℕ) → IsCellOf h.extent c →
    AreDataMarks h c.row above → AreDataMarks h (c.row + 1) here → AreDataMarks h (c.row + 2) below → listed ≡ is_listed sinks c →
    IsMarkOf (slice_index here (c.col + 1)) listed (least_around above here below c.col) put → IsFirstMark (spaced_grid spacing h sinks) c put
first_mark_is spacing h sinks c above here below listed put inside in_above in_here in_below same is =
    let void = in_here.cells c inside refl in
    let beside = is_beside h c inside above here below (three_rows (AreDataMarks h) c.row c.row above here below refl in_above in_here in_below) in
    record {
      void = λ none. is.void (void.1 none);
      opened = λ is_open. is.opened (λ zero. void_data (elevation_at h c) (void.0 zero) is_open.1.0) (elim is_open.1.1 [
        | inl sink ↦ inl (subst IsTrue (sym same) sink)
        | inr gap ↦ inr (beside.1 gap)
      ]);
      closed = λ has shut. is.closed (λ zero. void_data (elevation_at h c) (void.0 zero) has.is_data) (λ one. shut (
        inside,
        (
          has.is_data,
          elim one [
            | inl sink ↦ inl (subst IsTrue same sink)
            | inr zero ↦ inr (beside.0 zero)
          ],
        ),
      ));
    }

-- Closed cells, which are beside no gap, aren't on the edge of the grid.

no_gap_inner : (g : Grid) (c : Cell) → (((d : Direction) × IsGap (option_map g.elevation (step g.extent c d))) → ⊥) → IsInnerPlace g.extent c
no_gap_inner g c away =
    let north_west = there NorthWest in
    let south_east = there SouthEast in
    let before = step_lies g.extent c north_west.0 NorthWest north_west.1 in
    let after = step_lies g.extent c south_east.0 SouthEast south_east.1 in
    let up = before.1.0 in
    let left = before.1.1 in
    let down = after.1.0 in
    let right = after.1.1 in
    let row = after.0.row in
    let col = after.0.col in
    record { north = omega (arith, up); west = omega (arith, left); south = omega (arith, down, row); east = omega (arith, right, col) }
  where
    there : (d : Direction) → (n : Cell) × (step g.extent c d ≡ Some n)
    there d =
        elim (some_or_none (step g.extent c d)) [
          | inl none ↦ absurd (away (d, subst (λ o. IsGap (option_map g.elevation o)) (sym none) tt))
          | inr found ↦ found
        ]

no_void : (mark : ℕ) → IsClosed mark → mark ≡ VOID → ⊥
no_void mark (inl reached) void = omega (arith, reached, void)
no_void mark (inr fresh) void = omega (arith, fresh, void)

no_open : (mark : ℕ) → IsClosed mark → mark ≡ OPEN → ⊥
no_open mark (inl reached) is_open = omega (arith, reached, is_open)
no_open mark (inr fresh) is_open = omega (arith, fresh, is_open)

pub marks_inside : (g : Grid) (e : Extent) (marks : List ℕ) → HasFirstMarks g e marks → AreInside e marks
marks_inside g e marks are =
    subst (λ x. AreInside x marks) are.extent (λ place less closed.
    (let at = cell_there g.extent place less in
    let first = are.each at.0 at.1 in
    let code : IsClosed (slice_index_or marks (index_of g.extent at.0) 0) = subst (λ k. IsClosed (slice_index_or marks k 0)) at.2 closed in (
      at.0,
      elim (none_or_some (g.elevation at.0)) [
        | inl none ↦ absurd (no_void _ code (first.void none))
        | inr some ↦ no_gap_inner g at.0 (λ gap. no_open _ code (first.opened (at.1, (some, inr gap))))
      ],
      at.2,
    )))

-- Rows of bytes as they are laid.

-- one number more was put, from a place on
pub put_more : {X : Type 0} (P : ℕ → X → Type 0) (xs : List X) (start k : ℕ) (x d : X) → start + k < length xs → P k x →
    ((i : ℕ) → i < k → P i (get_or xs (start + i) d)) → (i : ℕ) → i < k + 1 → P i (get_or (set xs (start + k) x) (start + i) d)
put_more P xs start k x d within here before i less =
    elim (cases_eq i k) [
      | inl same ↦ subst (λ j. P j (get_or (set xs (start + k) x) (start + j) d)) (sym same) (subst (P k) (sym (get_or-set_same xs (start + k) x d within)) here)
      | inr other ↦ subst (P i) (sym (get_or-set_other xs (start + k) (start + i) x d (λ same. other (omega (arith, same))))) (before i (omega (arith, less, other)))
    ]

-- and the numbers before that place stay
pub put_before : {X : Type 0} (old xs : List X) (start k : ℕ) (x d : X) → ((i : ℕ) → i < start → get_or xs i d ≡ get_or old i d) →
    (i : ℕ) → i < start → get_or (set xs (start + k) x) i d ≡ get_or old i d
put_before old xs start k x d same i less = get_or-set_other xs (start + k) i x d (λ at. absurd (omega (arith, at, less))) ∙ same i less

pub void_is_none : (z : ℤ) → (z ≡ NO_HEIGHT ↔ IsNone (height_from z))
void_is_none z = by_test (int_eq z NO_HEIGHT) (Decides-int_eq z NO_HEIGHT)
  where
    by_test : (r : Bool) → ((r ≡ true → z ≡ NO_HEIGHT) × (z ≡ NO_HEIGHT → r ≡ true)) → (z ≡ NO_HEIGHT ↔ IsNone (if r then None else Some z))
    by_test true decides = (λ void. refl, λ none. decides.0 refl)
    by_test false decides = (λ void. absurd (false≢true (decides.1 void)), λ none. absurd (false≢true (sym none)))

-- a row has as many samples as columns
pub row_long : (h : Heights) (row : ℕ) (samples : List ℤ) → samples ≡ sample_row h row → length samples ≡ h.extent.cols
row_long h row samples samples_are = ap (λ xs. length xs) samples_are ∙ length-map-range_with_len (λ col. sample_at h (place row col)) 0 h.extent.cols

-- the grounds of one row more
pub grounds_more : (h : Heights) (row start : ℕ) (samples old new : List ℤ) → start ≡ row * h.extent.cols → samples ≡ sample_row h row → All IsSample samples →
    ((k : ℕ) → k < length samples → slice_index_or new (start + k) (pos 0) ≡ slice_index_or samples k (pos 0)) →
    ((i : ℕ) → i < start → slice_index_or new i (pos 0) ≡ slice_index_or old i (pos 0)) →
    ((at : ℕ) → at < row * h.extent.cols → IsGround h at (slice_index_or old at (pos 0))) →
    (at : ℕ) → at < (row + 1) * h.extent.cols → IsGround h at (slice_index_or new at (pos 0))
grounds_more h row start samples old new start_is samples_are all here others earlier at less =
    elim (cases_lt at start) [
      | inl before ↦ subst (IsGround h at) (sym (others at before)) (earlier at (subst (λ n. at < n) start_is before))
      | inr most ↦
          (let long = row_long h row samples samples_are in
          let col : at - start < h.extent.cols = omega (arith, less, most, start_is) in
          let within : at - start < length samples = omega (arith, col, long) in
          let same : start + (at - start) ≡ at = omega (arith, most) in
          let place_is : row * h.extent.cols + (at - start) ≡ at = omega (arith, most, start_is) in
          let put : slice_index_or new at (pos 0) ≡ slice_index_or samples (at - start) (pos 0) =
          ap (λ i. slice_index_or new i (pos 0)) (sym same) ∙ here (at - start) within in
          let sample : slice_index_or samples (at - start) (pos 0) ≡ sample_at h (place row (at - start)) =
          ap (λ xs. slice_index_or xs (at - start) (pos 0)) samples_are
          ∙ get_or-map-range_with_len (λ k. sample_at h (place row k)) 0 h.extent.cols (at - start) (at - start) (pos 0) col (omega arith) in
          record {
            value = put ∙ (sample ∙ ap (λ i. slice_index_or h.samples i NO_HEIGHT) place_is);
            in_range = subst IsSample (sym put) (All-get_or IsSample samples (at - start) (pos 0) within all);
          })
    ]

-- the first marks of one row more
pub rows_more : (g : Grid) (row : ℕ) (old new : List ℕ) → AreFirstMarks g row old →
    ((c : Cell) → IsInside g c → c.row ≡ row → IsFirstMark g c (slice_index new (index_of g.extent c))) →
    ((i : ℕ) → i < row * g.extent.cols → slice_index new i ≡ slice_index old i) → AreFirstMarks g (row + 1) new
rows_more g row old new earlier here others c inside less =
    elim (cases_lt c.row row) [
      | inl before ↦
          subst (IsFirstMark g c) (sym (others (index_of g.extent c) (before_row c.row c.col row g.extent.cols before inside.col))) (earlier c inside before)
      | inr most ↦ here c inside (omega (arith, less, most))
    ]

-- the bytes of a row whose grounds are there from a place on
pub marks_of_grounds : (h : Heights) (con : List ℤ) (down start len : ℕ) (marks : List ℕ) → AreGrounds h con → 0 < down → down ≤ h.extent.rows →
    start ≡ (down - 1) * h.extent.cols → len ≡ h.extent.cols + 2 → length marks ≡ len → slice_index marks 0 ≡ 0 → ((k : ℕ) → k + 1 ≡ len → slice_index marks k ≡ 0) →
    ((k : ℕ) → k + 2 < len → (slice_index marks (k + 1) ≡ 0 ↔ slice_index_or con (start + k) (pos 0) ≡ NO_HEIGHT)) → AreDataMarks h down marks
marks_of_grounds h con down start len marks grounds some most start_is long counted first last each = record {
  counted = counted ∙ long;
  cells = λ n inside row.
      (let at : start + n.col ≡ index_of h.extent n = place_in_row n.row n.col down start h.extent.cols row start_is in
      let there : slice_index_or con (start + n.col) (pos 0) ≡ sample_at h n =
      ap (λ i. slice_index_or con i (pos 0)) at ∙ (grounds.each (index_of h.extent n) (index_of-below h.extent n inside)).value in
      let col = inside.col in
      let told = each n.col (omega (arith, long, col)) in
      let void = void_is_none (sample_at h n) in
      (λ zero. void.0 (sym there ∙ told.0 zero), λ none. told.1 (there ∙ void.1 none)));
  gaps = λ right. at_ends h.extent down len 0 right marks some most long first last;
}

no_row : (row down rows : ℕ) → (0 < down → down ≤ rows → ⊥) → row + 1 ≡ down → row < rows → ⊥
no_row row down rows outside next less = outside (omega (arith, next)) (omega (arith, next, less))

-- those of a row outside the grid
pub marks_outside : (h : Heights) (down : ℕ) (marks : List ℕ) → (0 < down → down ≤ h.extent.rows → ⊥) → length marks ≡ h.extent.cols + 2 →
    ((k : ℕ) → k < h.extent.cols + 2 → slice_index marks k ≡ 0) → AreDataMarks h down marks
marks_outside h down marks outside counted zero = record {
  counted = counted;
  cells = λ n inside row. absurd (no_row n.row down h.extent.rows outside row inside.row);
  gaps = λ right less none. zero right less;
}

-- above the grid there is no row
pub marks_above : (h : Heights) (marks : List ℕ) → length marks ≡ h.extent.cols + 2 → All (λ mark. mark ≡ 0) marks → AreDataMarks h 0 marks
marks_above h marks counted zero =
    marks_outside h 0 marks (λ some most. absurd (omega (arith, some))) counted
    (λ k less. All-get_or (λ mark. mark ≡ 0) marks k 0 (omega (arith, less, counted)) zero)
