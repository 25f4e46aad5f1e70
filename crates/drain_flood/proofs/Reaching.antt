-- What holds of a flood still holds after one more cell is reached.
--
-- The heart of it is that a cell may be raised. Let no reached cell with an unreached neighbour be below a level. Take a surface
-- that covers the ground and drains, and from an unreached cell a path along which it never rises. The path ends at an open cell,
-- which is reached. Where it first comes to a reached cell, the surface is at least the level, so it is at the unreached cell.
use Rattle.drain_flood.proofs.Names.{Flooding, HasDescent, HasFloor, HasMarks, IsBetween, IsFloodOf, IsHeld, IsReachedCell, IsReachedFrom, IsReachedPair, IsReachedPlace, IsUnreached, Reaches, con_at, mark_at, KeptByReaching, OPEN, REACHED, UNREACHED, VOID, step_back, HasData-path, same_or_not, AreNeighbors-lies, direction_between, place, step_gives, step_lies, opposite, index_of, Grid, HasData, IsInside, height_at, CoversGround, Drains, IsPath, NeverRises, Surface, Cell, Direction, Contains, List, Option, Some, [], ap, arith, inl, inr, refl, subst, sym, ℕ, ℤ, ◌∙◌, ◌∷◌, ◌≡◌, ◌≢◌, ◌≤ℤ◌, cases_eq, clamps, ints, All-push, All-weaker, Contains-append_left, Contains-push, int_max, All, AllByRecursion}
use Rattle.drain_flood.proofs.Cells.{none_or_some}

-- the marks of voids, of open and of unreached cells differ
codes_differ : (code : ℕ) → code ≡ VOID → code ≡ UNREACHED → ⊥
codes_differ code void fresh = absurd (omega arith)

pub open_reached : (code : ℕ) → code ≡ OPEN → code ≡ UNREACHED → ⊥
open_reached code outlet fresh = absurd (omega arith)

pub outlet_reached : (code : ℕ) → code ≡ REACHED → code ≡ UNREACHED → ⊥
outlet_reached code outlet fresh = absurd (omega arith)

-- what isn't reached has data
pub fresh_data : (g : Grid) (f : Flooding) (n : Cell) → HasMarks g f → IsInside g n → mark_at g.extent f n ≡ UNREACHED → HasData g n
fresh_data g f n marks inside fresh =
    elim (none_or_some (g.elevation n)) [
      | inl void ↦ absurd (codes_differ _ (marks.voids n inside void) fresh)
      | inr some ↦ record { inside = inside; is_data = some }
    ]

-- what a surface that covers the ground and drains is at unreached cells
module _ (g : Grid) (f : Flooding) (level : ℤ) (marks : HasMarks g f)
    (between : IsBetween g (con_at g.extent f)) (floor : HasFloor g f level) (t : Surface) (covers : CoversGround g t) (drains : Drains g t) where
  over_path : (n : Cell) (rest : List Cell) → IsUnreached g f n → IsPath g n rest → NeverRises t n rest → level ≤ℤ t n
  over_path n [] fresh path never = absurd (open_reached (mark_at g.extent f n) (marks.opened n path) fresh.code)
  over_path n (m ∷ rest) fresh path never =
      let at_m = HasData-path g m rest path.2 in
      let down : t m ≤ℤ t n = never.0 in
      elim (cases_eq (mark_at g.extent f m) UNREACHED) [
        | inl code ↦ (let on = over_path m rest (record { here = at_m; code = code }) path.2 never.1 in omega (arith, ints, on, down))
        | inr code ↦
            (let way = direction_between n m path.1 in
            let leads = step_back g n m way.0 fresh.here.inside (step_gives g.extent n m way.0 at_m.inside way.1) in
            let base = floor m n (opposite way.0) (record { here = at_m; code = code }) fresh leads in
            let low = between.low t covers drains m at_m in
            omega (arith, ints, base, low, down))
      ]

  pub over_level : (n : Cell) → IsUnreached g f n → level ≤ℤ t n
  over_level n fresh = let way = drains n fresh.here in over_path n way.0 fresh way.1 way.2

not_above : (con own level other : ℤ) → con ≡ int_max own level → own ≤ℤ other → level ≤ℤ other → con ≤ℤ other
not_above con own level other is low base = omega (arith, ints, clamps)

as_it_was : (con own level other : ℤ) → con ≡ int_max own level → level ≤ℤ own → own ≤ℤ other → con ≤ℤ other
as_it_was con own level other is most low = omega (arith, ints, clamps)

over_own : (con own level ground : ℤ) → con ≡ int_max own level → ground ≤ℤ own → ground ≤ℤ con
over_own con own level ground is most = omega (arith, ints, clamps)

under : (con own from level : ℤ) → con ≡ int_max own from → level ≤ℤ from → level ≤ℤ con
under con own from level is low = omega (arith, ints, clamps)

over_from : (con own level : ℤ) → con ≡ int_max own level → level ≤ℤ con
over_from con own level is = omega (arith, ints, clamps)

module _ (g : Grid) (first : Surface) (old new : Flooding) (stand : Option ℤ) (busy : List ℕ) (c n : Cell) (d : Direction) (con : ℤ)
    (flood : IsFloodOf g first old stand busy) (from : IsReachedFrom g old stand c d n con) (reaches : Reaches g.extent old new n con) where
  fresh : IsUnreached g old n
  fresh = record { here = fresh_data g old n flood.marks reaches.inside from.new; code = from.new }

  -- a cell that was reached isn't the new one
  other : (b : Cell) → IsReachedCell g old b → b ≢ n
  other b reached same = reached.code (ap (mark_at g.extent old) same ∙ from.new)

  -- it has what it had
  con_kept : (b : Cell) → IsReachedCell g old b → con_at g.extent new b ≡ con_at g.extent old b
  con_kept b reached = reaches.con_same b reached.here.inside (other b reached)

  still_reached : (b : Cell) → IsReachedCell g old b → IsReachedCell g new b
  still_reached b reached = record {
    here = reached.here;
    code = λ h. reached.code (sym (reaches.mark_same b reached.here.inside (other b reached)) ∙ h);
  }

  -- one that is reached was reached, or is the new one
  was_reached : (b : Cell) → IsReachedCell g new b → b ≢ n → IsReachedCell g old b
  was_reached b reached differ = record {
    here = reached.here;
    code = λ h. reached.code (reaches.mark_same b reached.here.inside differ ∙ h);
  }

  -- one that isn't reached wasn't
  not_new : (b : Cell) → mark_at g.extent new b ≡ UNREACHED → b ≢ n
  not_new b code same = outlet_reached (mark_at g.extent new n) reaches.mark_there (ap (mark_at g.extent new) (sym same) ∙ code)

  pub was_fresh : (b : Cell) → IsUnreached g new b → IsUnreached g old b
  was_fresh b left = record { here = left.here; code = sym (reaches.mark_same b left.here.inside (not_new b left.code)) ∙ left.code }

  n_reached : IsReachedCell g new n
  n_reached = record { here = fresh.here; code = outlet_reached (mark_at g.extent new n) reaches.mark_there }

  new_between : IsBetween g (con_at g.extent new)
  new_between = record {
    covers = λ b here. elim (same_or_not b n) [
      | inl same ↦ subst (λ x. height_at g x ≤ℤ con_at g.extent new x) (sym same)
          (subst (λ z. height_at g n ≤ℤ z) (sym reaches.con_there)
          (over_own con (con_at g.extent old n) (con_at g.extent old c) (height_at g n) from.con_is (flood.between.covers n fresh.here)))
      | inr differ ↦ subst (λ z. height_at g b ≤ℤ z) (sym (reaches.con_same b here.inside differ)) (flood.between.covers b here)
    ];
    low = λ t covers drains b here. elim (same_or_not b n) [
      | inl same ↦ subst (λ x. con_at g.extent new x ≤ℤ t x) (sym same)
          (subst (λ z. z ≤ℤ t n) (sym reaches.con_there)
          (let own = flood.between.low t covers drains n fresh.here in
          elim from.raises [
            | inl down ↦ as_it_was con (con_at g.extent old n) (con_at g.extent old c) (t n) from.con_is down own
            | inr at ↦ not_above con (con_at g.extent old n) (con_at g.extent old c) (t n) from.con_is own
                (over_level g old (con_at g.extent old c) flood.marks flood.between (flood.floor (con_at g.extent old c) at) t covers drains n fresh)
          ]))
      | inr differ ↦ subst (λ z. z ≤ℤ t b) (sym (reaches.con_same b here.inside differ)) (flood.between.low t covers drains b here)
    ];
  }

  -- along a path of reached cells nothing changed
  still_falls : (b : Cell) (rest : List Cell) → IsReachedCell g old b → IsPath g b rest → AllByRecursion (λ x. mark_at g.extent old x ≢ UNREACHED) rest →
      NeverRises (con_at g.extent old) b rest →
      NeverRises (con_at g.extent new) b rest × AllByRecursion (λ x. mark_at g.extent new x ≢ UNREACHED) rest
  still_falls b [] at path reached falls = (tt, tt)
  still_falls b (m ∷ rest) at path reached falls =
      let at_m : IsReachedCell g old m = record { here = HasData-path g m rest path.2; code = reached.0 } in
      let onward = still_falls m rest at_m path.2 reached.1 falls.1 in (
        (
          subst (λ z. con_at g.extent new m ≤ℤ z) (sym (con_kept b at)) (subst (λ z. z ≤ℤ con_at g.extent old b) (sym (con_kept m at_m)) falls.0),
          onward.0,
        ),
        ((still_reached m at_m).code, onward.1),
      )

  kept_descent : (b : Cell) → IsReachedCell g old b → HasDescent g old b → HasDescent g new b
  kept_descent b at way =
      let still = still_falls b way.rest at way.path way.reached way.falls in
      record { rest = way.rest; path = way.path; falls = still.0; reached = still.1 }

  -- the new cell's path goes on from the cell from which it was reached
  descent_of_n : HasDescent g new n
  descent_of_n =
      let way = kept_descent c from.from (flood.drains c from.from) in
      let lies = step_lies g.extent n c (opposite d) (step_back g c n d from.from.here.inside from.there) in
      let down : con_at g.extent new c ≤ℤ con_at g.extent new n =
      subst (λ z. z ≤ℤ con_at g.extent new n) (sym (con_kept c from.from))
      (subst (λ z. con_at g.extent old c ≤ℤ z) (sym reaches.con_there) (over_from con (con_at g.extent old n) (con_at g.extent old c) from.con_is)) in
      record {
        rest = c ∷ way.rest;
        path = (fresh.here, AreNeighbors-lies n c (opposite d) lies.1, way.path);
        falls = (down, way.falls);
        reached = ((still_reached c from.from).code, way.reached);
      }

  -- the new cell is on the trail, and each that was held still is
  still_held : (b : Cell) → IsReachedCell g old b → IsHeld g.extent old busy b → IsHeld g.extent new busy b
  still_held b at (inl is_busy) = inl is_busy
  still_held b at (inr (inl on)) =
      inr (inl (subst (λ xs. Contains xs (index_of g.extent b)) (sym reaches.ahead) (Contains-append_left old.ahead (index_of g.extent n ∷ []) (index_of g.extent b) on)))
  still_held b at (inr (inr waits)) =
      inr (inr (subst (λ xs. Contains xs (con_at g.extent new b, index_of g.extent b)) (sym reaches.waiting)
      (subst (λ z. Contains old.waiting (z, index_of g.extent b)) (sym (con_kept b at)) waits)))

  still_place : (place : ℕ) → IsReachedPlace g old place → IsReachedPlace g new place
  still_place place is = record { cell = is.cell; reached = still_reached is.cell is.reached; place_is = is.place_is }

  still_pair : (pair : ℤ × ℕ) → IsReachedPair g old pair → IsReachedPair g new pair
  still_pair pair is = record {
    cell = is.cell;
    reached = still_reached is.cell is.reached;
    place_is = is.place_is;
    con = con_kept is.cell is.reached ∙ is.con;
  }

  -- the marks of the others stay
  new_marks : HasMarks g new
  new_marks = record {
    voids = λ b inside void.
        (let was = flood.marks.voids b inside void in
        reaches.mark_same b inside (λ same. codes_differ (mark_at g.extent old b) was (ap (mark_at g.extent old) same ∙ from.new)) ∙ was);
    opened = λ b is_open.
        (let was = flood.marks.opened b is_open in
        reaches.mark_same b is_open.0 (λ same. open_reached (mark_at g.extent old b) was (ap (mark_at g.extent old) same ∙ from.new)) ∙ was);
    closed = λ b reached shut. elim (same_or_not b n) [
      | inl same ↦ subst (λ x. mark_at g.extent new x ≡ REACHED) (sym same) reaches.mark_there
      | inr differ ↦ reaches.mark_same b reached.here.inside differ ∙ flood.marks.closed b (was_reached b reached differ) shut
    ];
  }

  -- a floor stays one
  new_floor : (level : ℤ) → stand ≡ Some level → HasFloor g new level
  new_floor level at a b way at_a at_b leads = elim (same_or_not a n) [
    | inl same ↦ subst (λ x. level ≤ℤ con_at g.extent new x) (sym same)
        (subst (λ z. level ≤ℤ z) (sym reaches.con_there)
        (under con (con_at g.extent old n) (con_at g.extent old c) level from.con_is (flood.floor level at c n d from.from fresh from.there)))
    | inr differ ↦ (let was = was_reached a at_a differ in
        subst (λ z. level ≤ℤ z) (sym (con_kept a was)) (flood.floor level at a b way was (was_fresh b at_b) leads))
  ]

  pub is_flood : IsFloodOf g first new stand busy
  is_flood = record {
    counted = record { con = reaches.con_long ∙ flood.counted.con; mark = reaches.mark_long ∙ flood.counted.mark };
    marks = new_marks;
    voids = λ b inside void.
        (let was = flood.marks.voids b inside void in
        reaches.con_same b inside (λ same. codes_differ (mark_at g.extent old b) was (ap (mark_at g.extent old) same ∙ from.new)) ∙ flood.voids b inside void);
    between = new_between;
    drains = λ b reached. elim (same_or_not b n) [
      | inl same ↦ subst (HasDescent g new) (sym same) descent_of_n
      | inr differ ↦ (let was = was_reached b reached differ in kept_descent b was (flood.drains b was))
    ];
    held = λ a b way at_a at_b leads. elim (same_or_not a n) [
      | inl same ↦ inr (inl (subst (λ x. Contains new.ahead (index_of g.extent x)) (sym same)
          (subst (λ xs. Contains xs (index_of g.extent n)) (sym reaches.ahead) (Contains-push old.ahead (index_of g.extent n)))))
      | inr differ ↦ (let was = was_reached a at_a differ in still_held a was (flood.held a b way was (was_fresh b at_b) leads))
    ];
    floor = new_floor;
    busy_places = All-weaker (IsReachedPlace g old) (IsReachedPlace g new) still_place busy flood.busy_places;
    ahead = subst (All (IsReachedPlace g new)) (sym reaches.ahead)
        (All-push (IsReachedPlace g new) old.ahead (index_of g.extent n)
        (All-weaker (IsReachedPlace g old) (IsReachedPlace g new) still_place old.ahead flood.ahead)
        (record { cell = n; reached = n_reached; place_is = refl }));
    waiting = subst (All (IsReachedPair g new)) (sym reaches.waiting)
        (All-weaker (IsReachedPair g old) (IsReachedPair g new) still_pair old.waiting flood.waiting);
  }

  -- the cell from which it was reached still is, and has its height
  pub from_kept : IsReachedCell g new c × (con_at g.extent new c ≡ con_at g.extent old c)
  from_kept = (still_reached c from.from, con_kept c from.from)

-- what holds of a flood still holds after one more cell is reached
pub kept_by_reaching : KeptByReaching
kept_by_reaching g first old new stand busy c n d con flood from reaches = is_flood g first old new stand busy c n d con flood from reaches
