-- The start of a flood: the open cells are reached, each at its ground.
use Rattle.drain_flood.proofs.Names.{Flooding, HasFirstMarks, IsBetween, IsFilledFrom, IsFirstMark, IsFloodOf, IsFlooded, IsReachedCell, IsReachedPair, IsReachedPlace, listed_at, mark_at, AreFirstMarks, AreGrounds, AreRowLanes, IsGround, IsLane, IsOpenPlace, fall_at, AreFirstCodes, IsCodeAt, GAP, NO_HEIGHT, OPEN, VOID, before_row, cases, place, open_cell, cell_at, index_of-below, none_some, at_ends, place_in_own_row, place_in_row, three_rows, Extent, IsCellOf, index_of, Grid, HasData, Heights, IsInside, IsOpenCell, IsSample, height_at, height_from, Distances, unit_spacing, sample_at, spaced_grid, Cell, SinkLine, Bool, Contains, IsSome, List, None, Some, [], ap, arith, false, if◌then◌else◌, inl, inr, length, pos, refl, slice_index, slice_index_or, subst, sym, true, unwrap_or, ℕ, ℤ, ◌*◌, ◌+◌, ◌-◌, ◌<ℤ◌, ◌<◌, ◌==◌, ◌∙◌, ◌≡◌, ◌≤ℤ◌, ◌≤◌, cases_eq, cases_lt, false≢true, Decides-int_eq, by_lt_z, ints, All-nil, All-weaker, div-add-mod', All, int_eq}
use Rattle.std.proofs.Math.Nat.{div-lt_iff_lt-mul, mod-lt}
use Rattle.drain_flood.proofs.Cells.{none_or_some}
use Rattle.drain_flood.proofs.Reaching.{open_reached}
use Rattle.drain_flood.proofs.GapMarks.{void_is_none}
use Rattle.drain_flood.proofs.SteepestWays.{code_from_lanes, fall_small}

-- A flooded grid stays flooded without the trail and the waiting cells.

-- the surface alone
abbrev pub surface_of : Extent → List ℤ → List ℕ → Flooding
surface_of e con mark = record { extent = e; con = con; mark = mark; ahead = []; waiting = [] }

pub still_flooded : (g : Grid) (f : Flooding) → IsFlooded g f → IsFlooded g (surface_of f.extent f.con f.mark)
still_flooded g f is = record {
  surface = record {
    counted = record { con = is.surface.counted.con; mark = is.surface.counted.mark };
    voids = is.surface.voids;
    opened = λ c opens. (let at = is.surface.opened c opens in record { con = at.con; mark = at.mark });
    closed = is.surface.closed;
    covers = is.surface.covers;
    drains = is.surface.drains;
    least = is.surface.least;
  };
  blank = is.blank;
  heights = is.heights;
}

-- Rows of lanes as they are laid, and the codes of whole rows.

-- what was laid between two gaps is the row
pub laid_row : (e : Extent) (f : Flooding) (down start len : ℕ) (lanes : List ℕ) → 0 < down → down ≤ e.rows → start ≡ (down - 1) * e.cols → len ≡ e.cols + 2 →
    slice_index lanes 0 ≡ GAP → ((k : ℕ) → k + 1 ≡ len → slice_index lanes k ≡ GAP) →
    ((k : ℕ) → k + 2 < len → IsLane (slice_index_or f.con (start + k) (pos 0)) (slice_index lanes (k + 1))) → AreRowLanes e f down lanes
laid_row e f down start len lanes some most start_is long first last each = record {
  heights = λ n inside row.
      (let col = inside.col in
      subst (λ i. IsLane (slice_index_or f.con i (pos 0)) (slice_index lanes (n.col + 1))) (place_in_row n.row n.col down start e.cols row start_is)
      (each n.col (omega (arith, col, long))));
  gaps = λ right. at_ends e down len GAP right lanes some most long first last;
}

-- the code of a cell of the row
pub row_code : (g : Grid) (f : Flooding) (c : Cell) (row start : ℕ) (a h b codes marks dirs : List ℕ) → IsFlooded g f → g.spacing row ≡ unit_spacing → IsInside g c → c.row ≡ row →
    AreRowLanes g.extent f row a → AreRowLanes g.extent f (row + 1) h → AreRowLanes g.extent f (row + 2) b → slice_index codes c.col ≡ fall_at a h b c.col →
    marks ≡ f.mark → start ≡ row * g.extent.cols →
    (slice_index codes c.col < 256 → slice_index dirs (start + c.col) ≡ (if slice_index codes c.col == 0 then slice_index marks (start + c.col) else slice_index codes c.col)) →
    IsCodeAt g f c (slice_index dirs (index_of g.extent c))
row_code g f c row start a h b codes marks dirs flooded unit inside at in_a in_h in_b code_is marks_are start_is put =
    let here : start + c.col ≡ index_of g.extent c = place_in_own_row c.row c.col row start g.extent.cols at start_is in
    code_from_lanes g f c a h b (slice_index codes c.col) (slice_index marks (start + c.col)) (slice_index dirs (index_of g.extent c)) flooded
    (subst (λ r. g.spacing r ≡ unit_spacing) (sym at) unit) inside
    (three_rows (AreRowLanes g.extent f) row c.row a h b at in_a in_h in_b) code_is (ap (slice_index marks) here ∙ ap (λ xs. slice_index xs (index_of g.extent c)) marks_are)
    (ap (slice_index dirs) (sym here) ∙ put (fall_small a h b c.col (slice_index codes c.col) code_is))

-- the codes of the rows before this one
abbrev pub AreRowCodes : Grid → Flooding → ℕ → List ℕ → Type 0
AreRowCodes g f row dirs = (c : Cell) → IsInside g c → c.row < row → IsCodeAt g f c (slice_index dirs (index_of g.extent c))

pub row_more : (g : Grid) (f : Flooding) (row : ℕ) (old new : List ℕ) → AreRowCodes g f row old →
    ((c : Cell) → IsInside g c → c.row ≡ row → IsCodeAt g f c (slice_index new (index_of g.extent c))) →
    ((i : ℕ) → i < row * g.extent.cols → slice_index new i ≡ slice_index old i) → AreRowCodes g f (row + 1) new
row_more g f row old new earlier here others c inside less =
    elim (cases_lt c.row row) [
      | inl before ↦
          subst (IsCodeAt g f c) (sym (others (index_of g.extent c) (before_row c.row c.col row g.extent.cols before inside.col))) (earlier c inside before)
      | inr most ↦ here c inside (omega (arith, less, most))
    ]

pub all_rows : (g : Grid) (f : Flooding) (row : ℕ) (dirs : List ℕ) → length dirs ≡ g.extent.rows * g.extent.cols → g.extent.rows ≤ row → AreRowCodes g f row dirs →
    AreFirstCodes g f dirs
all_rows g f row dirs counted most each = record {
  counted = counted;
  voids = λ c inside void. (each c inside (within c.row g.extent.rows row inside.row most)).void void;
  ways = λ c here. (each c here.inside (within c.row g.extent.rows row here.inside.row most)).way here;
}
  where
    within : (own rows row : ℕ) → own < rows → rows ≤ row → own < row
    within own rows row less most = omega (arith, less, most)

over : (con z : ℤ) → con ≡ z → z ≤ℤ con
over con z is = omega (arith, ints)

-- the height of a sample that isn't a void's is the sample, which is above a void's
height_of : (z : ℤ) → IsSample z → IsSome (height_from z) → (unwrap_or (height_from z) (pos 0) ≡ z) × (NO_HEIGHT <ℤ z)
height_of z sample some = by_test (int_eq z NO_HEIGHT) (Decides-int_eq z NO_HEIGHT) some
  where
    above : (z : ℤ) → NO_HEIGHT ≤ℤ z → (z ≡ NO_HEIGHT → ⊥) → NO_HEIGHT <ℤ z
    above z low differ = by_lt_z NO_HEIGHT z (λ less. less) (λ most. absurd (differ (same z low most)))
      where
        same : (z : ℤ) → NO_HEIGHT ≤ℤ z → z ≤ℤ NO_HEIGHT → z ≡ NO_HEIGHT
        same z low most = omega (arith, ints)

    by_test : (r : Bool) → ((r ≡ true → z ≡ NO_HEIGHT) × (z ≡ NO_HEIGHT → r ≡ true)) → IsSome (if r then None else Some z) →
        (unwrap_or (if r then None else Some z) (pos 0) ≡ z) × (NO_HEIGHT <ℤ z)
    by_test true decides some = absurd (false≢true some)
    by_test false decides some = (refl, above z sample.low (λ void. false≢true (decides.1 void)))

-- a place below the number of cells is that of one
cell_of_place : (e : Extent) (k : ℕ) → k < e.rows * e.cols → IsCellOf e (cell_at e k) × (k ≡ index_of e (cell_at e k))
cell_of_place e k less =
    elim (cases_eq e.cols 0) [
      | inl none ↦ absurd (no_cols e.rows e.cols k none less)
      | inr some ↦
          (let columns : 0 < e.cols = omega (arith, some) in (
            record { row = (div-lt_iff_lt-mul columns).1 less; col = mod-lt k columns },
            sym (div-add-mod' k e.cols),
          ))
    ]
  where
    no_cols : (rows cols k : ℕ) → cols ≡ 0 → k < rows * cols → ⊥
    no_cols rows cols k none less = let zero : k < rows * 0 = subst (λ n. k < rows * n) none less in absurd (omega (arith, zero))

-- with its first marks, with all open cells on the trail and with heights between the ground and the filled surface a flood
-- begins
module _ (g : Grid) (e : Extent) (f : Flooding) (marks : HasFirstMarks g e f.mark) (between : IsBetween g (listed_at e f.con))
    (con_long : length f.con ≡ e.rows * e.cols) (mark_long : length f.mark ≡ e.rows * e.cols) where
  cells : e.rows * e.cols ≡ g.extent.rows * g.extent.cols
  cells = ap (λ (x : Extent). x.rows * x.cols) (sym marks.extent)

  mark_of : (c : Cell) → IsInside g c → IsFirstMark g c (mark_at g.extent f c)
  mark_of c inside = marks.each c inside

  reached_open : (c : Cell) → IsReachedCell g f c → IsOpenCell g c
  reached_open c reached =
      elim (cases (open_cell g c)) [
        | inl is_open ↦ is_open
        | inr closed ↦ absurd (reached.code ((mark_of c reached.here.inside).closed reached.here closed))
      ]

  ahead : (place : ℕ) → IsOpenPlace f.mark place → IsReachedPlace g f place
  ahead place is =
      let there = cell_of_place g.extent place (subst (λ n. place < n) (mark_long ∙ cells) is.within) in
      let c : Cell = cell_at g.extent place in
      let code : mark_at g.extent f c ≡ OPEN = ap (λ k. slice_index f.mark k) (sym there.1) ∙ is.code in
      let here : HasData g c = record {
        inside = there.0;
        is_data = elim (none_or_some (g.elevation c)) [
          | inl void ↦ absurd (open_differs (mark_at g.extent f c) code ((mark_of c there.0).void void))
          | inr some ↦ some
        ];
      } in
      record {
        cell = c;
        reached = record { here = here; code = open_reached (mark_at g.extent f c) code };
        place_is = there.1;
      }
    where
      open_differs : (code : ℕ) → code ≡ OPEN → code ≡ VOID → ⊥
      open_differs code is void = absurd (omega arith)

  pub flood_begins : ((place : ℕ) → place < length f.mark → slice_index f.mark place ≡ OPEN → Contains f.ahead place) → All (IsOpenPlace f.mark) f.ahead → f.waiting ≡ [] →
      IsFloodOf g (listed_at e f.con) f None []
  flood_begins all open_alone no_waiting = record {
    counted = record { con = con_long ∙ cells; mark = mark_long ∙ cells };
    marks = record {
      voids = λ c inside void. (mark_of c inside).void void;
      opened = λ c is_open. (mark_of c is_open.0).opened is_open;
      closed = λ c reached shut. absurd (shut (reached_open c reached));
    };
    voids = λ c inside void. ap (λ (x : Extent). listed_at x f.con c) marks.extent;
    between = subst (λ (x : Extent). IsBetween g (listed_at x f.con)) (sym marks.extent) between;
    drains = λ c reached. record { rest = []; path = reached_open c reached; falls = tt; reached = tt };
    held = λ c n d at_c at_n leads.
        inr (inl (all (index_of g.extent c) (subst (λ n. index_of g.extent c < n) (sym (mark_long ∙ cells)) (index_of-below g.extent c at_c.here.inside))
        ((mark_of c at_c.here.inside).opened (reached_open c at_c))));
    floor = λ level is. absurd (none_some level is);
    busy_places = All-nil (IsReachedPlace g f);
    ahead = All-weaker (IsOpenPlace f.mark) (IsReachedPlace g f) ahead f.ahead open_alone;
    waiting = subst (All (IsReachedPair g f)) (sym no_waiting) (All-nil (IsReachedPair g f));
  }

-- The grounds of tiles, from which they are flooded.
module _ (spacing : ℕ → Distances) (h : Heights) (sinks : List SinkLine) (con : List ℤ) (grounds : AreGrounds h con) where
  abbrev g : Grid
  g = spaced_grid spacing h sinks

  ground_at : (c : Cell) → IsInside g c → IsGround h (index_of g.extent c) (listed_at h.extent con c)
  ground_at c inside = grounds.each (index_of g.extent c) (index_of-below g.extent c inside)

  height_is : (c : Cell) → HasData g c → (height_at g c ≡ sample_at h c) × (NO_HEIGHT <ℤ sample_at h c)
  height_is c here =
      let ground = ground_at c here.inside in
      height_of (sample_at h c) (subst IsSample ground.value ground.in_range) here.is_data

  at_ground : (c : Cell) → HasData g c → listed_at h.extent con c ≡ height_at g c
  at_ground c here = (ground_at c here.inside).value ∙ sym (height_is c here).0

  -- they are between themselves and the filled surface
  pub grounds_between : IsBetween g (listed_at h.extent con)
  grounds_between = record {
    covers = λ c here. over (listed_at h.extent con c) (height_at g c) (at_ground c here);
    low = λ t covers drains c here. subst (λ z. z ≤ℤ t c) (sym (at_ground c here)) (covers c here);
  }

  -- the filled surface has the height of a void at voids, which is below all ground
  pub grounds_flooded : (f : Flooding) → IsFilledFrom g (listed_at h.extent con) f → IsFlooded g f
  grounds_flooded f filled = record {
    surface = filled.surface;
    blank = λ c inside void. filled.voids c inside void ∙ (ground_at c inside).value ∙ (void_is_none (sample_at h c)).1 void;
    heights = λ c here. (let is = height_is c here in subst (λ z. NO_HEIGHT <ℤ z) (sym is.0) is.1);
  }

-- the first marks of all rows
pub marks_of_rows : (g : Grid) (marks : List ℕ) → AreFirstMarks g g.extent.rows marks → HasFirstMarks g g.extent marks
marks_of_rows g marks are = record { extent = refl; each = λ c inside. are c inside inside.row }
