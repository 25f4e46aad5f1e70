-- The neighbours of a cell, direction by direction.
use Rattle.drain_flood.proofs.Names.{Flooding, IsReachedFrom, IsSurfaceOf, IsUnreached, con_at, mark_at, unreached, FloodIsFilled, IsAround, IsFreshAt, IsInnerPlace, IsLook, IsLookedAround, IsLookedBefore, IsPlaceBeside, PassesLook, IsLessWork, AreLevels, HasData-path, direction_between, of_each, place, reach, step_gives, same_some, cols_right, directions, rows_down, Extent, IsCellOf, index_of, Grid, Products, height_at, IsFilled, IsPath, NeverRises, Surface, Cell, Direction, East, North, NorthEast, NorthWest, South, SouthEast, SouthWest, West, Bool, IsTrue, List, Option, Some, [], ap, arith, false, get_or, inl, inr, length, pos, refl, subst, sym, true, ℕ, ℤ, ◌*◌, ◌+◌, ◌-◌, ◌<◌, ◌||◌, ◌↔◌, ◌∙◌, ◌∷◌, ◌≡◌, ◌≤ℤ◌, ◌≤◌, ◌⊎◌, cases_order, or_left, or_right, clamps, ints, length_push, int_max}
use Rattle.drain_grid.proofs.SpillPaths.{SpillPath, path_here, path_onward, IsFilled-paths}
use Rattle.drain_flood.proofs.Reaching.{from_kept, kept_by_reaching, outlet_reached, was_fresh}

-- Away from the edge of the grid the place of a neighbour is found by adding.

by_numbers : (row col rd cr cols r k index off width : ℕ) → (r + 1) * cols ≡ (row + rd) * cols → k + 1 ≡ col + cr → index ≡ row * cols + col →
    off ≡ rd * cols + cr → width ≡ cols → index + off - (width + 1) ≡ r * cols + k
by_numbers row col rd cr cols r k index off width rows columns at behind wide = omega (arith, rows, columns, at, behind, wide)

pub inner_beside : (e : Extent) (c : Cell) (d : Direction) (index off width : ℕ) → IsInnerPlace e c → index ≡ index_of e c → off ≡ rows_down d * e.cols + cols_right d →
    width ≡ e.cols → IsPlaceBeside e c d (index + off - (width + 1))
inner_beside e c d index off width inner at behind wide =
    let most = reach d in
    let north : 0 < c.row = inner.north in
    let west : 0 < c.col = inner.west in
    let south : c.row + 1 < e.rows = inner.south in
    let east : c.col + 1 < e.cols = inner.east in
    let down : rows_down d ≤ 2 = most.0 in
    let right : cols_right d ≤ 2 = most.1 in
    let r : ℕ = c.row + rows_down d - 1 in
    let k : ℕ = c.col + cols_right d - 1 in
    let row : r + 1 ≡ c.row + rows_down d = omega (arith, north) in
    let col : k + 1 ≡ c.col + cols_right d = omega (arith, west) in
    let inside : IsCellOf e (place r k) = record { row = omega (arith, south, down, row); col = omega (arith, east, right, col) } in (
      place r k,
      step_gives e c (place r k) d inside (row, col),
      by_numbers c.row c.col (rows_down d) (cols_right d) e.cols r k index off width (ap (λ n. n * e.cols) row) col at behind wide,
    )

-- what holds in some direction, and not in the first seven, holds in the last
pub last_direction : (P : Direction → Type 0) → (P East → ⊥) → (P SouthEast → ⊥) → (P South → ⊥) → (P SouthWest → ⊥) → (P West → ⊥) → (P NorthWest → ⊥) → (P North → ⊥) →
    (way : Direction) → P way → P NorthEast
last_direction P a b c d e f g East held = absurd (a held)
last_direction P a b c d e f g SouthEast held = absurd (b held)
last_direction P a b c d e f g South held = absurd (c held)
last_direction P a b c d e f g SouthWest held = absurd (d held)
last_direction P a b c d e f g West held = absurd (e held)
last_direction P a b c d e f g NorthWest held = absurd (f held)
last_direction P a b c d e f g North held = absurd (g held)
last_direction P a b c d e f g NorthEast held = held

-- A surface is the filled one.

-- the ground below it, the next cell of its path no higher, and no lower way out there: the greater of the two
both : (con z next : ℤ) → z ≤ℤ con → next ≤ℤ con → con ≤ℤ int_max z next → con ≡ int_max z next
both con z next over down least = omega (arith, ints, clamps)

module _ (g : Grid) (f : Flooding) (flooded : IsSurfaceOf g f) where
  abbrev ps : Products
  ps = record {
    con = con_at g.extent f;
    dir = λ c. pos 0;
    acc = λ c. pos 0;
    bas = λ c. pos 0;
    spl = λ c. pos 0;
    rnk = λ c. pos 0;
  }

  levels : AreLevels g ps
  levels = record {
    at_open = λ c is_open. (flooded.opened c is_open).con;
    beside = λ c n here there neighbors.
        (let way = direction_between c n neighbors in
        flooded.least c n way.0 here there (step_gives g.extent c n way.0 there.inside way.1));
  }

  -- a path along which the surface never rises has the cell's height as its crest
  spill_path : (c : Cell) (rest : List Cell) → IsPath g c rest → NeverRises (con_at g.extent f) c rest → SpillPath g ps c
  spill_path c [] path falls = path_here g ps c path (levels.at_open c path)
  spill_path c (n ∷ rest) path falls =
      path_onward g ps c n path.0 path.1
      (both (con_at g.extent f c) (height_at g c) (con_at g.extent f n) (flooded.covers c path.0) falls.0
      (levels.beside c n path.0 (HasData-path g n rest path.2) path.1))
      (spill_path n rest path.2 falls.1)

  pub is_filled : IsFilled g (con_at g.extent f)
  is_filled = IsFilled-paths g ps levels flooded.covers (λ c here. (let way = flooded.drains c here in spill_path c way.0 way.1 way.2))

pub flood_is_filled : FloodIsFilled
flood_is_filled g f flooded = is_filled g f flooded

-- The neighbours of a cell, direction by direction.

-- before the first direction
pub around_none : (g : Grid) (first : Surface) (f : Flooding) (stand : Option ℤ) (busy : List ℕ) (c : Cell) (level : ℤ) (raises : Bool) →
    IsLookedBefore g first f stand busy c level raises → IsAround g first f stand busy c level raises false 0
around_none g first f stand busy c level raises before = record { before = before; passed = λ i less. absurd (omega (arith, less)) }

-- what was passed stays passed if no more is unreached
passed_still : (g : Grid) (old new : Flooding) (c : Cell) (raises left more : Bool) (d : Direction) →
    ((n : Cell) → IsUnreached g new n → IsUnreached g old n) → PassesLook g old c raises left d → PassesLook g new c raises (left || more) d
passed_still g old new c raises left more d fewer passes n fresh there =
    let was = passes n (fewer n fresh) there in
    (or_left left more was.0, was.1)

-- one direction more
pub around_more : (g : Grid) (first : Surface) (old new : Flooding) (stand : Option ℤ) (busy : List ℕ) (c : Cell) (level : ℤ) (raises left more : Bool) (k : ℕ) →
    IsAround g first old stand busy c level raises left k → IsLook g.extent old new c (get_or directions k East) level raises more →
    IsAround g first new stand busy c level raises (left || more) (k + 1)
around_more g first old new stand busy c level raises left true k around (n, leaves) = record {
  before = subst (λ f. IsLookedBefore g first f stand busy c level raises) (sym leaves.same) around.before;
  passed = λ i less. elim (cases_order i k) [
    | inl here ↦ (λ m fresh there. (or_right left true refl, leaves.unraised))
    | inr (inl before) ↦ passed_still g old new c raises left true (get_or directions i East) (λ m fresh. subst (λ f. IsUnreached g f m) leaves.same fresh) (around.passed i before)
    | inr (inr after) ↦ absurd (omega (arith, less, after))
  ];
}
around_more g first old new stand busy c level raises left false k around (inl passes) = record {
  before = subst (λ f. IsLookedBefore g first f stand busy c level raises) (sym passes.same) around.before;
  passed = λ i less. elim (cases_order i k) [
    | inl here ↦ subst (λ j. PassesLook g new c raises (left || false) (get_or directions j East)) (sym here)
        (λ m fresh there.
        (let was : IsUnreached g old m = subst (λ f. IsUnreached g f m) passes.same fresh in
        absurd (passes.none m (record { there = there; fresh = was.code }))))
    | inr (inl before) ↦ passed_still g old new c raises left false (get_or directions i East) (λ m fresh. subst (λ f. IsUnreached g f m) passes.same fresh) (around.passed i before)
    | inr (inr after) ↦ absurd (omega (arith, less, after))
  ];
}
around_more g first old new stand busy c level raises left false k around (inr (n, takes)) =
    let before = around.before in
    let d = get_or directions k East in
    let con : ℤ = int_max (con_at g.extent old n) level in
    let from : IsReachedFrom g old stand c d n con = record {
      from = before.reached;
      there = takes.is.there;
      new = takes.is.fresh;
      con_is = ap (int_max (con_at g.extent old n)) (sym before.con);
      raises = elim takes.may [
        | inl down ↦ inl (subst (λ z. z ≤ℤ con_at g.extent old n) (sym before.con) down)
        | inr raised ↦ inr (subst (λ z. stand ≡ Some z) (sym before.con) (before.at_level raised))
      ];
    } in
    let reaches = takes.reaches in
    let kept = from_kept g first old new stand busy c n d con before.flood from reaches in
    let fewer : (m : Cell) → IsUnreached g new m → IsUnreached g old m = was_fresh g first old new stand busy c n d con before.flood from reaches in
    record {
      before = record {
        flood = kept_by_reaching g first old new stand busy c n d con before.flood from reaches;
        reached = kept.0;
        con = kept.1 ∙ before.con;
        at_level = before.at_level;
      };
      passed = λ i less. elim (cases_order i k) [
        | inl here ↦ subst (λ j. PassesLook g new c raises (left || false) (get_or directions j East)) (sym here)
            (λ m fresh there.
            (let one : m ≡ n = same_some m n (sym there ∙ takes.is.there) in
            absurd (outlet_reached (mark_at g.extent new n) reaches.mark_there (ap (mark_at g.extent new) (sym one) ∙ fresh.code))))
        | inr (inl earlier) ↦ passed_still g old new c raises left false (get_or directions i East) fewer (around.passed i earlier)
        | inr (inr later) ↦ absurd (omega (arith, less, later))
      ];
    }

-- one direction more, as the code does it
pub around_on : (g : Grid) (first : Surface) (e : Extent) (old new : Flooding) (stand : Option ℤ) (busy : List ℕ) (c : Cell) (level : ℤ) (raises left more after : Bool) (k : ℕ) →
    g.extent ≡ e → after ≡ (left || more) → IsAround g first old stand busy c level raises left k →
    IsLook e old new c (get_or directions k East) level raises more → IsAround g first new stand busy c level raises after (k + 1)
around_on g first e old new stand busy c level raises left more after k extent after_is around look =
    subst (λ b. IsAround g first new stand busy c level raises b (k + 1)) (sym after_is)
    (around_more g first old new stand busy c level raises left more k around
    (subst (λ x. IsLook x old new c (get_or directions k East) level raises more) (sym extent) look))

-- what is done in a direction leaves no more to do
pub less_more : (e : Extent) (first old new : Flooding) (c : Cell) (d : Direction) (level : ℤ) (raises more : Bool) →
    IsLessWork first old → IsLook e old new c d level raises more → IsLessWork first new
less_more e first old new c d level raises true less (n, leaves) = subst (IsLessWork first) (sym leaves.same) less
less_more e first old new c d level raises false less (inl passes) = subst (IsLessWork first) (sym passes.same) less
less_more e first old new c d level raises false less (inr (n, takes)) =
    let reaches = takes.reaches in
    let long : length new.ahead ≡ length old.ahead + 1 = ap (λ xs. length xs) reaches.ahead ∙ length_push old.ahead (index_of e n) in
    record {
      fewer = fall (unreached new) (unreached old) (unreached first) reaches.fewer less.fewer;
      same = balance (unreached new) (unreached old) (unreached first) (length new.ahead) (length old.ahead) (length first.ahead) reaches.fewer long less.same;
      waiting = reaches.waiting ∙ less.waiting;
    }
  where
    fall : (a b c : ℕ) → a + 1 ≡ b → b ≤ c → a ≤ c
    fall a b c one most = omega arith

    balance : (a b c x y z : ℕ) → a + 1 ≡ b → x ≡ y + 1 → b + y ≡ c + z → a + x ≡ c + z
    balance a b c x y z one more is = omega arith

-- after the last direction all neighbours were looked at
pub around_all : (g : Grid) (first : Surface) (f : Flooding) (stand : Option ℤ) (busy : List ℕ) (c : Cell) (level : ℤ) (raises left : Bool) (k : ℕ) → k ≡ 8 →
    IsAround g first f stand busy c level raises left k → IsLookedAround g first f stand busy c level raises left
around_all g first f stand busy c level raises left k last around = record {
  before = around.before;
  passed = λ d. of_each (PassesLook g f c raises left) k last around.passed d;
}

-- no neighbour is unreached
pub none_around : (g : Grid) (first : Surface) (f : Flooding) (stand : Option ℤ) (busy : List ℕ) (c : Cell) (level : ℤ) (raises : Bool) →
    ((d : Direction) (n : Cell) → IsFreshAt g.extent f c d n → ⊥) →
    IsLookedBefore g first f stand busy c level raises → IsLookedAround g first f stand busy c level raises false
none_around g first f stand busy c level raises none before = record {
  before = before;
  passed = λ d n fresh there. absurd (none d n (record { there = there; fresh = fresh.code }));
}

either : (a b : Bool) → IsTrue (a || b) → IsTrue a ⊎ IsTrue b
either true b is = inl refl
either false b is = inr is

-- eight tests tell of each direction, and together of some
pub some_of_eight : (P : Direction → Type 0) (a b c d e f g h : Bool) → (IsTrue a ↔ P East) → (IsTrue b ↔ P SouthEast) → (IsTrue c ↔ P South) → (IsTrue d ↔ P SouthWest) →
    (IsTrue e ↔ P West) → (IsTrue f ↔ P NorthWest) → (IsTrue g ↔ P North) → (IsTrue h ↔ P NorthEast) →
    (IsTrue (((((((a || b) || c) || d) || e) || f) || g) || h) ↔ ((way : Direction) × P way))
some_of_eight P a b c d e f g h is_a is_b is_c is_d is_e is_f is_g is_h = (to, λ some. back some.0 some.1)
  where
    to : IsTrue (((((((a || b) || c) || d) || e) || f) || g) || h) → (way : Direction) × P way
    to is = elim (either (((((((a || b) || c) || d) || e) || f) || g)) h is) [
      | inr held ↦ (NorthEast, is_h.0 held)
      | inl in_7 ↦ elim (either ((((((a || b) || c) || d) || e) || f)) g in_7) [
        | inr held ↦ (North, is_g.0 held)
        | inl in_6 ↦ elim (either (((((a || b) || c) || d) || e)) f in_6) [
          | inr held ↦ (NorthWest, is_f.0 held)
          | inl in_5 ↦ elim (either ((((a || b) || c) || d)) e in_5) [
            | inr held ↦ (West, is_e.0 held)
            | inl in_4 ↦ elim (either (((a || b) || c)) d in_4) [
              | inr held ↦ (SouthWest, is_d.0 held)
              | inl in_3 ↦ elim (either (a || b) c in_3) [
                | inr held ↦ (South, is_c.0 held)
                | inl in_2 ↦ elim (either a b in_2) [ inl held ↦ (East, is_a.0 held) | inr held ↦ (SouthEast, is_b.0 held) ]
              ]
            ]
          ]
        ]
      ]
    ]

    up : (p q : Bool) → IsTrue p → IsTrue (p || q)
    up p q is = or_left p q is

    back : (way : Direction) → P way → IsTrue (((((((a || b) || c) || d) || e) || f) || g) || h)
    back East held = up _ h (up _ g (up _ f (up _ e (up _ d (up _ c (up a b (is_a.1 held)))))))
    back SouthEast held = up _ h (up _ g (up _ f (up _ e (up _ d (up _ c (or_right a b (is_b.1 held)))))))
    back South held = up _ h (up _ g (up _ f (up _ e (up _ d (or_right _ c (is_c.1 held))))))
    back SouthWest held = up _ h (up _ g (up _ f (up _ e (or_right _ d (is_d.1 held)))))
    back West held = up _ h (up _ g (up _ f (or_right _ e (is_e.1 held))))
    back NorthWest held = up _ h (up _ g (or_right _ f (is_f.1 held)))
    back North held = up _ h (or_right _ g (is_g.1 held))
    back NorthEast held = or_right _ h (is_h.1 held)
