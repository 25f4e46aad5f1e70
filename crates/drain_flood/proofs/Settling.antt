-- What holds while flats get their ways still holds after one more cell is settled.
use Rattle.drain_flood.proofs.Names.{AreLaid, AreWaysOnFlats, HasWay, IsBlankWay, IsFlat, IsLookedFor, IsSettled, IsSettledFrom, IsToLook, Laying, Settles, rank_at, way_at, wayless, Flooding, con_at, AllAreSettled, KeptBySettling, REACHED, VOID, step_back, HasData-path, same_or_not, direction_between, place, step_gives, index_of-below, code_of, opposite, index_of, step, Grid, HasData, IsInside, Drains, IsPath, NeverRises, Cell, Direction, East, Contains, IsNone, List, Some, [], ap, append_assoc, arith, inl, inr, refl, subst, sym, ℕ, ℤ, ◌*◌, ◌++◌, ◌+◌, ◌<◌, ◌∙◌, ◌∷◌, ◌≡◌, ◌≢◌, ◌≤ℤ◌, ◌≤◌, cases_eq, by_lt_z, ints, All-push, All-weaker, Contains-append_left, Contains-push, All}
use Rattle.drain_flood.proofs.AllReached.{none_in}
use Rattle.drain_flood.proofs.Cells.{none_or_some}

-- If every cell was looked at and the trail is empty, every data cell of a surface that drains has its way. By
-- induction along the path that never rises: its last cell is open, so it has its way. A cell before a settled one has
-- a lower neighbour, or a settled one of its height: so it would have been settled.

past : (i k cells : ℕ) → i < cells → cells ≤ k → k ≤ i → ⊥
past i k cells below most over = absurd (omega arith)

less_of_sum : (rank left cells : ℕ) → rank + left < cells → rank < cells
less_of_sum rank left cells h = omega arith

module _ (g : Grid) (f : Flooding) (w : Laying) (k : ℕ) (drains : Drains g (con_at g.extent f)) (laid : AreLaid g f w k [])
    (all : g.extent.rows * g.extent.cols ≤ k) (no_ahead : w.ahead ≡ []) where
  -- next to a settled cell of its height no cell is without a way
  none_beside : (c n : Cell) (d : Direction) → IsSettled g w c → IsFlat g w n → step g.extent c d ≡ Some n →
      con_at g.extent f n ≡ con_at g.extent f c → ⊥
  none_beside c n d settled flat leads level =
      elim (laid.frontier c n d settled flat leads level) [
        | inl held ↦ none_in w.ahead _ no_ahead held
        | inr later ↦ past (index_of g.extent n) k (g.extent.rows * g.extent.cols) (index_of-below g.extent n flat.here.inside) all later.1
      ]

  level_with : (here there : ℤ) → there ≤ℤ here → here ≤ℤ there → here ≡ there
  level_with here there down up = omega (arith, ints)

  along : (c : Cell) (rest : List Cell) → IsPath g c rest → NeverRises (con_at g.extent f) c rest → IsFlat g w c → ⊥
  along c [] path falls flat = (laid.flat c flat).shut path
  along c (n ∷ rest) path falls flat =
      let way = direction_between c n path.1 in
      let there : HasData g n = HasData-path g n rest path.2 in
      let leads : step g.extent c way.0 ≡ Some n = step_gives g.extent c n way.0 there.inside way.1 in
      elim (cases_eq (way_at g.extent w n) REACHED) [
        | inl without ↦ along n rest path.2 falls.1 (record { here = there; code = without })
        | inr coded ↦
            by_lt_z (con_at g.extent f n) (con_at g.extent f c)
            (λ less. (laid.flat c flat).lowest way.0 n (record { there = leads; has_data = there; below = less }))
            (λ most. none_beside n c (opposite way.0) (record { here = there; code = coded }) flat (step_back g c n way.0 flat.here.inside leads)
            (level_with (con_at g.extent f c) (con_at g.extent f n) falls.0 most))
      ]

  settled_at : (c : Cell) → HasData g c → IsSettled g w c
  settled_at c here = record { here = here; code = λ without. (let way = drains c here in along c way.0 way.1 way.2 (record { here = here; code = without })) }

  pub all_ways : AreWaysOnFlats g f w
  all_ways = record {
    counted = laid.counted;
    voids = laid.voids;
    ways = λ c here. laid.ways c (settled_at c here);
    ranked = λ c here. less_of_sum (rank_at g.extent w c) (wayless w) (g.extent.rows * g.extent.cols) (laid.ranked c (settled_at c here));
  }

pub all_are_settled : AllAreSettled
all_are_settled g f w k drains laid all no_ahead = all_ways g f w k drains laid all no_ahead

-- a direction's code isn't the mark of cells without a way
pub code_settles : (d : Direction) → code_of d ≢ REACHED
code_settles East h = absurd (omega arith)
code_settles d h = absurd (omega arith)

void_differs : (code : ℕ) → code ≡ VOID → code ≡ REACHED → ⊥
void_differs code void flat = absurd (omega arith)

ranks_on : (rank from left fewer cells : ℕ) → rank ≡ from + 1 → from + left < cells → fewer + 1 ≡ left → rank + fewer < cells
ranks_on rank from left fewer cells is below one = omega arith

ranks_stay : (rank old left fewer cells : ℕ) → rank ≡ old → old + left < cells → fewer + 1 ≡ left → rank + fewer < cells
ranks_stay rank old left fewer cells is below one = omega arith

-- what has no way yet has data
pub flat_data : (g : Grid) (f : Flooding) (w : Laying) (k : ℕ) (busy : List ℕ) (n : Cell) → AreLaid g f w k busy → IsInside g n →
    way_at g.extent w n ≡ REACHED → HasData g n
flat_data g f w k busy n laid inside flat =
    elim (none_or_some (g.elevation n)) [
      | inl void ↦ absurd (void_differs _ (laid.voids n inside void).way flat)
      | inr some ↦ record { inside = inside; is_data = some }
    ]

module _ (g : Grid) (f : Flooding) (old new : Laying) (k : ℕ) (busy : List ℕ) (c n : Cell) (d : Direction) (code rank : ℕ)
    (laid : AreLaid g f old k busy) (from : IsSettledFrom g f old c d n code rank) (settles : Settles g.extent old new n code rank) where
  inside_n : IsInside g n
  inside_n = settles.inside

  flat_n : IsFlat g old n
  flat_n = record { here = flat_data g f old k busy n laid inside_n from.new; code = from.new }

  -- a cell that was settled isn't the new one
  other : (b : Cell) → IsSettled g old b → b ≢ n
  other b settled same = settled.code (ap (way_at g.extent old) same ∙ from.new)

  way_kept : (b : Cell) → IsSettled g old b → way_at g.extent new b ≡ way_at g.extent old b
  way_kept b settled = settles.way_same b settled.here.inside (other b settled)

  rank_kept : (b : Cell) → IsSettled g old b → rank_at g.extent new b ≡ rank_at g.extent old b
  rank_kept b settled = settles.rank_same b settled.here.inside (other b settled)

  still_settled : (b : Cell) → IsSettled g old b → IsSettled g new b
  still_settled b settled = record { here = settled.here; code = λ h. settled.code (sym (way_kept b settled) ∙ h) }

  was_settled : (b : Cell) → IsSettled g new b → b ≢ n → IsSettled g old b
  was_settled b settled differ = record { here = settled.here; code = λ h. settled.code (settles.way_same b settled.here.inside differ ∙ h) }

  new_code : way_at g.extent new n ≡ code_of (opposite d)
  new_code = settles.way_there ∙ from.code_is

  n_settled : IsSettled g new n
  n_settled = record { here = flat_n.here; code = λ h. code_settles (opposite d) (sym new_code ∙ h) }

  was_flat : (b : Cell) → IsFlat g new b → IsFlat g old b
  was_flat b flat =
      let differ : b ≢ n = λ same. code_settles (opposite d) (sym new_code ∙ (ap (way_at g.extent new) (sym same) ∙ flat.code)) in
      record { here = flat.here; code = sym (settles.way_same b flat.here.inside differ) ∙ flat.code }

  new_voids : (b : Cell) → IsInside g b → IsNone (g.elevation b) → IsBlankWay g new b
  new_voids b inside void =
      let blank = laid.voids b inside void in
      let differ : b ≢ n = λ same. void_differs (way_at g.extent old b) blank.way (ap (way_at g.extent old) same ∙ from.new) in
      record { way = settles.way_same b inside differ ∙ blank.way; rank = settles.rank_same b inside differ ∙ blank.rank }

  kept_way : (b : Cell) → IsSettled g old b → HasWay g f old b → HasWay g f new b
  kept_way b settled (inl (way, m, is)) = inl (way, m, record { steepest = is.steepest; code = way_kept b settled ∙ is.code })
  kept_way b settled (inr (inl is)) = inr (inl (record { opens = is.opens; lowest = is.lowest; code = way_kept b settled ∙ is.code }))
  kept_way b settled (inr (inr (way, m, is))) = inr (inr (
    way,
    m,
    record {
      shut = is.shut;
      lowest = is.lowest;
      code = way_kept b settled ∙ is.code;
      there = is.there;
      settled = still_settled m is.settled;
      level = is.level;
      nearer = rank_kept b settled ∙ (is.nearer ∙ ap (λ r. r + 1) (sym (rank_kept m is.settled)));
    },
  ))

  way_of_n : HasWay g f new n
  way_of_n =
      let on_flat = laid.flat n flat_n in
      inr (inr (
        opposite d,
        c,
        record {
          shut = on_flat.shut;
          lowest = on_flat.lowest;
          code = new_code;
          there = step_back g c n d from.from.here.inside from.there;
          settled = still_settled c from.from;
          level = sym from.level;
          nearer = settles.rank_there ∙ (from.rank_is ∙ ap (λ r. r + 1) (sym (rank_kept c from.from)));
        },
      ))

  new_ways : (b : Cell) → IsSettled g new b → HasWay g f new b
  new_ways b settled =
      elim (same_or_not b n) [
        | inl same ↦ subst (HasWay g f new) (sym same) way_of_n
        | inr differ ↦ (let was = was_settled b settled differ in kept_way b was (laid.ways b was))
      ]

  ahead_more : busy ++ new.ahead ≡ (busy ++ old.ahead) ++ index_of g.extent n ∷ []
  ahead_more = ap (λ xs. busy ++ xs) settles.ahead ∙ sym (append_assoc busy old.ahead (index_of g.extent n ∷ []))

  still_ahead : (place : ℕ) → Contains (busy ++ old.ahead) place → Contains (busy ++ new.ahead) place
  still_ahead place held = subst (λ xs. Contains xs place) (sym ahead_more) (Contains-append_left (busy ++ old.ahead) (index_of g.extent n ∷ []) place held)

  kept_look : (a b : Cell) → IsSettled g old a → IsLookedFor g old k busy a b → IsLookedFor g new k busy a b
  kept_look a b was (inl held) = inl (still_ahead (index_of g.extent a) held)
  kept_look a b was (inr later) = inr (rank_kept a was ∙ later.0, later.1)

  new_frontier : (a b : Cell) (way : Direction) → IsSettled g new a → IsFlat g new b → step g.extent a way ≡ Some b →
      con_at g.extent f b ≡ con_at g.extent f a → IsLookedFor g new k busy a b
  new_frontier a b way at_a at_b leads level =
      elim (same_or_not a n) [
        | inl a_new ↦ inl (subst (λ x. Contains (busy ++ new.ahead) (index_of g.extent x)) (sym a_new)
            (subst (λ xs. Contains xs (index_of g.extent n)) (sym ahead_more) (Contains-push (busy ++ old.ahead) (index_of g.extent n))))
        | inr a_old ↦ (let was = was_settled a at_a a_old in kept_look a b was (laid.frontier a b way was (was_flat b at_b) leads level))
      ]

  still_among : (place : ℕ) → IsToLook g old place → IsToLook g new place
  still_among place is = record { cell = is.cell; settled = still_settled is.cell is.settled; place_is = is.place_is }

  new_ranked : (b : Cell) → IsSettled g new b → rank_at g.extent new b + wayless new < g.extent.rows * g.extent.cols
  new_ranked b settled =
      elim (same_or_not b n) [
        | inl same ↦ subst (λ x. rank_at g.extent new x + wayless new < g.extent.rows * g.extent.cols) (sym same)
            (ranks_on (rank_at g.extent new n) (rank_at g.extent old c) (wayless old) (wayless new) _ (settles.rank_there ∙ from.rank_is) (laid.ranked c from.from) settles.fewer)
        | inr differ ↦ (let was = was_settled b settled differ in
            ranks_stay (rank_at g.extent new b) (rank_at g.extent old b) (wayless old) (wayless new) _ (rank_kept b was) (laid.ranked b was) settles.fewer)
      ]

  pub are_laid : AreLaid g f new k busy
  are_laid = record {
    counted = record { way = settles.way_long ∙ laid.counted.way; rnk = settles.rank_long ∙ laid.counted.rnk };
    voids = new_voids;
    flat = λ b flat. laid.flat b (was_flat b flat);
    ways = new_ways;
    frontier = new_frontier;
    ahead = subst (All (IsToLook g new)) (sym ahead_more)
        (All-push (IsToLook g new) (busy ++ old.ahead) (index_of g.extent n)
        (All-weaker (IsToLook g old) (IsToLook g new) still_among (busy ++ old.ahead) laid.ahead)
        (record { cell = n; settled = n_settled; place_is = refl }));
    ranked = new_ranked;
  }

pub kept_by_settling : KeptBySettling
kept_by_settling g f old new k busy c n d code rank laid from settles = are_laid g f old new k busy c n d code rank laid from settles
