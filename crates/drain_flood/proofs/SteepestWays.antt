-- The first steepest way down of a cell, from three rows of lanes.
use Rattle.drain_flood.proofs.Names.{◌≡◌, ◌≢◌, ◌∙◌, ℕ, ◌+◌, ◌-◌, ◌*◌, ◌<◌, ◌≤◌, ◌==◌, inl, inr, ℤ, pos, ◌+ℤ◌, ◌-ℤ◌, ◌≤ℤ◌, ◌<ℤ◌, List, Some, None, slice_index, if◌then◌else◌, refl, sym, ap, subst, arith, ne_eqb, ints, Cell, Direction, East, SouthEast, South, SouthWest, West, NorthWest, North, NorthEast, code_of, cols_right, is_straight, rows_down, step, Grid, HasData, IsInside, height_of, slope_key, Distances, unit_spacing, weight_of, cases, step_gives, step_lies, none_some, some_or_none, open_cell, row_beside, number_beside, number_in_row, col_beside, GAP, NO_HEIGHT, VOID, OPEN, REACHED, Flooding, con_at, mark_at, IsFlooded, IsSurfaceOf, AreRowLanes, IsLane, fall_at, level_of_lane, IsCodeAt, IsLowerNeighbor, IsWayDown, key_down}
use Rattle.drain_flood.proofs.Cells.{none_or_some}
use Rattle.drain_flood.proofs.FirstFalls.{IsFirstFall, MeansFall, fall_means, key_of, weight}

outlet_differs : (code : ℕ) → code ≡ OPEN → code ≡ VOID → ⊥
outlet_differs code outlet none = absurd (omega arith)

reached_differs : (code : ℕ) → code ≡ REACHED → code ≡ VOID → ⊥
reached_differs code reached none = absurd (omega arith)

-- a flooded grid has no void's code at a data cell
pub data_code : (g : Grid) (f : Flooding) (c : Cell) → IsSurfaceOf g f → HasData g c → mark_at g.extent f c ≢ VOID
data_code g f c flooded here code =
    elim (cases (open_cell g c)) [
      | inl is_open ↦ outlet_differs (mark_at g.extent f c) (flooded.opened c is_open).mark code
      | inr closed ↦ reached_differs (mark_at g.extent f c) (flooded.closed c here closed) code
    ]

abbrev pub level_in : List ℕ → ℕ → ℕ
level_in h col = slice_index h (col + 1)

-- what the code at a column means
pub fall_at_means : (a h b : List ℕ) (col : ℕ) → MeansFall (level_of_lane (level_in h col)) (number_beside a h b col) (fall_at a h b col)
fall_at_means a h b col = fall_means (level_in h col) (number_beside a h b col)

level_data : (lane : ℕ) → lane < GAP → level_of_lane lane ≡ lane
level_data lane less = ap (λ b. if b then 0 else lane) (ne_eqb lane GAP (λ same. absurd (omega (arith, same, less))))

level_void : (lane : ℕ) → lane ≡ GAP → level_of_lane lane ≡ 0
level_void lane gap = ap level_of_lane gap

once : (square : ℕ) → pos (1 * square) ≡ pos square
once square = ap pos (omega arith)

-- the key of a natural drop on unit spacing
unit_key : (d : Direction) (drop : ℕ) → slope_key (weight_of unit_spacing d) (pos drop) ≡ pos (weight (is_straight d) (drop * drop))
unit_key East drop = refl
unit_key SouthEast drop = once (drop * drop)
unit_key South drop = refl
unit_key SouthWest drop = once (drop * drop)
unit_key West drop = refl
unit_key NorthWest drop = once (drop * drop)
unit_key North drop = refl
unit_key NorthEast drop = once (drop * drop)

-- the drop of the heights is that of the lanes
key_is : (spacing : Distances) (d : Direction) (x y : ℤ) (level lane : ℕ) → spacing ≡ unit_spacing → pos level ≡ x +ℤ pos 32767 → pos lane ≡ y +ℤ pos 32767 → lane ≤ level →
    slope_key (weight_of spacing d) (height_of spacing.kind x -ℤ height_of spacing.kind y) ≡ pos (weight (is_straight d) ((level - lane) * (level - lane)))
key_is spacing d x y level lane unit level_is lane_is most =
    ap (λ (s : Distances). slope_key (weight_of s d) (height_of s.kind x -ℤ height_of s.kind y)) unit ∙ (ap (slope_key (weight_of unit_spacing d)) drop_is ∙ unit_key d (level - lane))
  where
    drop_is : x -ℤ y ≡ pos (level - lane)
    drop_is = omega (arith, ints)

less_lanes : (x y : ℤ) (p q : ℕ) → pos p ≡ x +ℤ pos 32767 → pos q ≡ y +ℤ pos 32767 → x <ℤ y → p < q
less_lanes x y p q p_is q_is less = omega (arith, ints)

less_heights : (x y : ℤ) (p q : ℕ) → pos p ≡ x +ℤ pos 32767 → pos q ≡ y +ℤ pos 32767 → p < q → x <ℤ y
less_heights x y p q p_is q_is less = omega (arith, ints)

above_ground : (a b c : ℤ) → a <ℤ b → b ≤ℤ c → a <ℤ c
above_ground a b c less most = omega (arith, ints)

le_of_keys : (a b : ℤ) (x y : ℕ) → a ≡ pos x → b ≡ pos y → x ≤ y → a ≤ℤ b
le_of_keys a b x y is_x is_y most = omega (arith, ints)

lt_of_keys : (a b : ℤ) (x y : ℕ) → a ≡ pos x → b ≡ pos y → x < y → a <ℤ b
lt_of_keys a b x y is_x is_y less = omega (arith, ints)

not_both : (p q : ℕ) → p < q → q ≤ p → ⊥
not_both p q less most = absurd (omega (arith, less, most))

no_gap : (lane : ℕ) → lane ≡ GAP → lane < GAP → ⊥
no_gap lane gap less = absurd (omega (arith, gap, less))

less_weak : (p q : ℕ) → p < q → p ≤ q
less_weak p q less = omega (arith, less)

below_gap : (p q : ℕ) → p < q → q < GAP → p < GAP
below_gap p q less most = omega (arith, less, most)

-- a data cell of a flooded grid in a row of unit spacing, and three rows of lanes round it
module _ (g : Grid) (f : Flooding) (flooded : IsFlooded g f) (c : Cell) (unit : g.spacing c.row ≡ unit_spacing) (inside : IsInside g c) (a h b : List ℕ)
    (rows : (d : Direction) → AreRowLanes g.extent f (c.row + rows_down d) (row_beside a h b d)) where
  abbrev L : Direction → ℕ
  L d = number_beside a h b c.col d

  abbrev level : ℕ
  level = level_in h c.col

  data_height : (n : Cell) → HasData g n → NO_HEIGHT <ℤ con_at g.extent f n
  data_height n here = above_ground _ _ _ (flooded.heights n here) (flooded.surface.covers n here)

  lane_there : (d : Direction) (n : Cell) → step g.extent c d ≡ Some n → IsLane (con_at g.extent f n) (L d)
  lane_there d n there =
      let lies = step_lies g.extent c n d there in
      subst (IsLane (con_at g.extent f n)) (sym (number_in_row a h b c.col d))
      (subst (λ k. IsLane (con_at g.extent f n) (slice_index (row_beside a h b d) k)) lies.1.1 ((rows d).heights n lies.0 lies.1.0))

  own : IsLane (con_at g.extent f c) level
  own = (rows East).heights c inside refl

  -- a lane that isn't a gap is that of a data cell
  data_there : (d : Direction) → L d < GAP → (n : Cell) × (step g.extent c d ≡ Some n) × HasData g n
  data_there d less =
      elim (some_or_none (step g.extent c d)) [
        | inl none ↦
            (let gap : L d ≡ GAP = number_in_row a h b c.col d ∙ (rows d).gaps (c.col + cols_right d) (col_beside c.col g.extent.cols d inside.col)
            (λ n in_n row col. none_some n (sym none ∙ step_gives g.extent c n d in_n (row, col))) in
            absurd (no_gap (L d) gap less))
        | inr (n, there) ↦
            elim (none_or_some (g.elevation n)) [
              | inl void ↦
                  (let con = flooded.blank n (step_lies g.extent c n d there).0 void in
                  absurd (no_gap (L d) ((lane_there d n there).none con) less))
              | inr some ↦ (n, there, record { inside = (step_lies g.extent c n d there).0; is_data = some })
            ]
      ]

  module _ (here : HasData g c) where
    level_is : pos level ≡ con_at g.extent f c +ℤ pos 32767
    level_is = own.some (data_height c here)

    lower_lane : (d : Direction) (n : Cell) → IsLowerNeighbor g f c d n → (pos (L d) ≡ con_at g.extent f n +ℤ pos 32767) × (L d < level)
    lower_lane d n lower =
        let is = (lane_there d n lower.there).some (data_height n lower.has_data) in
        (is, less_lanes _ _ _ _ is level_is lower.below)

    key_of_lane : (d : Direction) (n : Cell) → IsLowerNeighbor g f c d n → key_down g f c d n ≡ pos (key_of level L d)
    key_of_lane d n lower =
        let lane = lower_lane d n lower in
        key_is (g.spacing c.row) d (con_at g.extent f c) (con_at g.extent f n) level (L d) unit level_is lane.0 (less_weak _ _ lane.1)

    none_down : ((d : Direction) → level ≤ L d) → IsWayDown g f c None
    none_down most d n lower = not_both _ _ (lower_lane d n lower).1 (most d)

    first_down : (d : Direction) → IsFirstFall level L d → IsWayDown g f c (Some d)
    first_down d first =
        let found = data_there d (below_gap _ _ first.lower (own.below (data_height c here))) in
        let n = found.0 in
        let is = (lane_there d n found.1).some (data_height n found.2) in
        let lower : IsLowerNeighbor g f c d n =
        record { there = found.1; has_data = found.2; below = less_heights _ _ _ _ is level_is first.lower } in (
          n,
          record {
            lower = lower;
            greatest = λ e m low. le_of_keys _ _ _ _ (key_of_lane e m low) (key_of_lane d n lower) (first.greatest e);
            first = λ e m less low. lt_of_keys _ _ _ _ (key_of_lane e m low) (key_of_lane d n lower) (first.first e less);
          },
        )

-- a direction's code is put as it is
code_put : (d : Direction) (mark : ℕ) → (if code_of d == 0 then mark else code_of d) ≡ code_of d
code_put East mark = refl
code_put d mark = refl

code_small : (d : Direction) → code_of d < 256
code_small East = omega arith
code_small d = omega arith

pub fall_small : (a h b : List ℕ) (col code : ℕ) → code ≡ fall_at a h b col → code < 256
fall_small a h b col code is =
    elim (fall_at_means a h b col) [
      | inl (none, most) ↦ (let zero : code ≡ 0 = is ∙ none in omega (arith, zero))
      | inr (d, named, first) ↦ subst (λ k. k < 256) (sym (is ∙ named)) (code_small d)
    ]

-- so the code that is put is right
pub code_from_lanes : (g : Grid) (f : Flooding) (c : Cell) (a h b : List ℕ) (code mark put : ℕ) → IsFlooded g f → g.spacing c.row ≡ unit_spacing → IsInside g c →
    ((d : Direction) → AreRowLanes g.extent f (c.row + rows_down d) (row_beside a h b d)) → code ≡ fall_at a h b c.col → mark ≡ mark_at g.extent f c →
    put ≡ (if code == 0 then mark else code) → IsCodeAt g f c put
code_from_lanes g f c a h b code mark put flooded unit inside rows code_is mark_is put_is = record {
  void = λ void.
      (let gap = (own g f flooded c unit inside a h b rows).none (flooded.blank c inside void) in
      elim (fall_at_means a h b c.col) [
        | inl (none, most) ↦ put_mark (code_is ∙ none) ∙ flooded.surface.voids c inside void
        | inr (d, named, first) ↦ absurd (none_below _ _ (level_void _ gap) first.lower)
      ]);
  way = λ here.
      (let level_is : level_of_lane (level_in h c.col) ≡ level_in h c.col =
      level_data (level_in h c.col) ((own g f flooded c unit inside a h b rows).below (data_height g f flooded c unit inside a h b rows c here)) in
      elim (subst (λ z. MeansFall z (number_beside a h b c.col) (fall_at a h b c.col)) level_is (fall_at_means a h b c.col)) [
        | inl (none, most) ↦ record {
          way = None;
          down = none_down g f flooded c unit inside a h b rows here most;
          is = put_mark (code_is ∙ none);
        }
        | inr (d, named, first) ↦ record {
          way = Some d;
          down = first_down g f flooded c unit inside a h b rows here d first;
          is = put_is ∙ (ap (λ k. if k == 0 then mark else k) (code_is ∙ named) ∙ code_put d mark);
        }
      ]);
}
  where
    put_mark : code ≡ 0 → put ≡ mark_at g.extent f c
    put_mark none = put_is ∙ (ap (λ k. if k == 0 then mark else k) none ∙ mark_is)

    none_below : (lane top : ℕ) → top ≡ 0 → lane < top → ⊥
    none_below lane top none less = absurd (omega (arith, none, less))
