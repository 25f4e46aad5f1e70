-- One turn of a trace: a cell is taken from the trail, its neighbours are looked at, and it is left.
use Rattle.drain_flood.proofs.Names.{Flooding, IsFloodOf, IsReachedPair, IsReachedPlace, unreached, IsLookedAround, LooksAround, IsLeftWaiting, IsLessWork, IsNextTurn, IsOut, IsPopped, Rises, with_lists, level_of, pairs_at, pairs_from, place, index_of, Grid, IsInside, Surface, Cell, Bool, Contains, List, Option, Some, [], ap, arith, false, get_or, inl, inr, length, pos, refl, subst, suc, sym, true, zero, ℕ, ℤ, ◌++◌, ◌+◌, ◌-◌, ◌<ℤ◌, ◌<◌, ◌∙◌, ◌∷◌, ◌≡◌, cases_lt, false≢true, ints, length-append, All-cons, All-head, All-permutation, Contains-permutation, length_permutation, All}
use Rattle.std.proofs.Math.ListN.{get_or-append}
use Rattle.std.proofs.Math.Seq.{get_or-append_right}
use Rattle.drain_flood.specs.Ways.{items_at, pairs_of}
use Rattle.drain_flood.proofs.PairLemmas.{at_level, higher_from}
use Rattle.drain_flood.proofs.Turns.{taken, deferred, recalled, left, risen, head_in, tail_in}

-- The pairs of all levels, level by level, rise.

-- pairs of one level, and after them a rising list of higher ones
joined : (low : ℤ) (xs ys : List (ℤ × ℕ)) → All (λ q. q.0 ≡ low) xs → All (λ q. low <ℤ q.0) ys → Rises ys → Rises (xs ++ ys)
joined low xs ys level higher rise i j d ordered within =
    let total = length-append xs ys in
    elim (cases_lt j (length xs)) [
      | inl j_early ↦ (let i_early : i < length xs = omega (arith, j_early, ordered) in
          let at_i = level i d i_early in
          let at_j = level j d j_early in
          rw (get_or-append xs ys d i i_early, get_or-append xs ys d j j_early) (omega (arith, ints, at_i, at_j)))
      | inr j_late ↦ elim (cases_lt i (length xs)) [
        | inl i_early ↦ (let at_i = level i d i_early in
            let above = higher (j - length xs) d (omega (arith, total, within, j_late)) in
            rw (get_or-append xs ys d i i_early, get_or-append_right xs ys j d j_late) (omega (arith, ints, at_i, above)))
        | inr i_late ↦ rw (get_or-append_right xs ys i d i_late, get_or-append_right xs ys j d j_late)
            (rise (i - length xs) (j - length xs) d (omega (arith, ordered, i_late, j_late)) (omega (arith, total, within, j_late)))
      ]
    ]

rising_from : (items : ℕ → List ℕ) (n a : ℕ) → Rises (pairs_from items a n)
rising_from items zero a = λ i j d ordered within. absurd (omega (arith, within))
rising_from items (suc n) a =
    joined (level_of a) (pairs_at a (items a)) (pairs_from items (a + 1) n) (at_level (λ q. q.0 ≡ level_of a) a (items a) (λ x. refl))
    (higher_from items a n (a + 1) (omega arith)) (rising_from items n (a + 1))

-- the pairs that a queue shows rise
pub rising : (firsts behind : List ℕ) → Rises (pairs_of firsts behind)
unfolding pairs_of
rising firsts behind = rising_from (items_at firsts behind) (length firsts) 0

module _ (g : Grid) (first : Surface) (stand : Option ℤ) (level : ℤ) (later : List ℕ) (place : ℕ) (c : Cell) (inside : IsInside g c) (at : place ≡ index_of g.extent c) (raises : Bool) where
  -- nothing was left
  pub passed : (f : Flooding) (seen : Bool) → (seen ≡ true → raises ≡ false → ⊥) → IsLookedAround g first f stand (place ∷ later) c level raises seen →
      IsFloodOf g first f stand later
  passed f seen none around =
      left g first f stand later place c f.waiting inside at around.before.flood (λ p held. held) around.before.flood.waiting
      (λ n d fresh there. (let was = around.passed d n fresh there in absurd (none was.0 was.1)))

  -- a lower cell was left, and the cell waits
  pub waits : (old new : Flooding) (seen : Bool) → IsLookedAround g first old stand (place ∷ later) c level raises seen → IsLeftWaiting old new level place →
      IsFloodOf g first new stand later
  waits old new seen around waiting =
      subst (λ f. IsFloodOf g first f stand later) (sym waiting.rest)
      (left g first old stand later place c new.waiting inside at around.before.flood keeps all
      (λ n d fresh there. subst (λ z. Contains new.waiting (z, place)) (sym around.before.con) has))
    where
      this_waits : IsReachedPair g old (level, place)
      this_waits = record { cell = c; reached = around.before.reached; place_is = at; con = around.before.con }

      has : Contains new.waiting (level, place)
      has = Contains-permutation ((level, place) ∷ old.waiting) new.waiting _ waiting.put (head_in (level, place) old.waiting)

      keeps : (p : ℤ × ℕ) → Contains old.waiting p → Contains new.waiting p
      keeps p held = Contains-permutation ((level, place) ∷ old.waiting) new.waiting p waiting.put (tail_in (level, place) p old.waiting held)

      all : All (IsReachedPair g old) new.waiting
      all = All-permutation (IsReachedPair g old) ((level, place) ∷ old.waiting) new.waiting waiting.put
          (All-cons (IsReachedPair g old) (level, place) old.waiting this_waits around.before.flood.waiting)

-- the next place of the trail is busy
pub next_busy : (g : Grid) (first : Surface) (old new : Flooding) (stand : Option ℤ) (later : List ℕ) (place : ℕ) (c : Cell) → IsFloodOf g first old stand later →
    IsNextTurn old new c → place ≡ index_of old.extent c → IsFloodOf g first new stand (place ∷ later)
next_busy g first old new stand later place c flood next at =
    subst (λ f. IsFloodOf g first f stand (place ∷ later)) (sym next.rest)
    (taken g first old stand later place new.ahead (subst (λ k. IsOut k old.ahead new.ahead) (sym at) next.out) flood)

-- a busy place, around which a call looked
module _ (g : Grid) (first : Surface) (s1 s2 : Flooding) (stand : Option ℤ) (level : ℤ) (later : List ℕ) (place : ℕ) (raises seen : Bool) (e1 : g.extent ≡ s1.extent)
    (is : level ≡ get_or s1.con place (pos 0)) (at_level : raises ≡ true → stand ≡ Some level) (looks : LooksAround s1.extent s1 s2 place level raises seen)
    (flood : IsFloodOf g first s1 stand (place ∷ later)) where
  busy : IsReachedPlace g s1 place
  busy = All-head (IsReachedPlace g s1) place later flood.busy_places

  looked : IsLookedAround g first s2 stand (place ∷ later) busy.cell level raises seen
  looked = looks g first stand (place ∷ later) busy.cell e1 busy.place_is (record {
    flood = flood;
    reached = busy.reached;
    con = sym (is ∙ ap (λ k. get_or s1.con k (pos 0)) busy.place_is);
    at_level = at_level;
  })

  -- none of its neighbours was left
  pub busy_passed : (seen ≡ true → raises ≡ false → ⊥) → IsFloodOf g first s2 stand later
  busy_passed none = passed g first stand level later place busy.cell busy.reached.here.inside busy.place_is raises s2 seen none looked

  -- or a lower one was, and it waits
  pub busy_waits : (s3 : Flooding) → IsLeftWaiting s2 s3 level place → IsFloodOf g first s3 stand later
  busy_waits s3 waiting = waits g first stand level later place busy.cell busy.reached.here.inside busy.place_is raises s2 s3 seen looked waiting

  -- or it is for later
  pub busy_deferred : (after : List ℕ) → after ≡ later ++ place ∷ [] → IsFloodOf g first s2 stand after
  busy_deferred after grown = subst (IsFloodOf g first s2 stand) (sym grown) (deferred g first s2 stand later place looked.before.flood)

-- what isn't seen isn't
pub unseen : (seen raises : Bool) → seen ≡ false → seen ≡ true → raises ≡ false → ⊥
unseen seen raises none is unraised = false≢true (sym none ∙ is)

-- the last cell for later is busy
pub last_busy : (g : Grid) (first : Surface) (s : Flooding) (stand : Option ℤ) (later rest : List ℕ) (place : ℕ) → later ≡ rest ++ place ∷ [] →
    IsFloodOf g first s stand later → IsFloodOf g first s stand (place ∷ rest)
last_busy g first s stand later rest place is flood = recalled g first s stand rest place (subst (IsFloodOf g first s stand) is flood)

-- how much is left to do after a turn
next_work : (old new : Flooding) (c : Cell) → IsNextTurn old new c →
    (unreached new ≡ unreached old) × (length old.ahead ≡ length new.ahead + 1)
next_work old new c next = (ap unreached next.rest, one_less (index_of old.extent c) old.ahead new.ahead next.out)
  where
    one_less : (place : ℕ) (xs ys : List ℕ) → IsOut place xs ys → length xs ≡ length ys + 1
    one_less place xs ys out =
        let long_xs : length xs ≡ length out.before + suc (length out.after) = ap (λ zs. length zs) out.old_are ∙ length-append out.before (place ∷ out.after) in
        let long_ys : length ys ≡ length out.before + length out.after = ap (λ zs. length zs) out.new_are ∙ length-append out.before out.after in
        omega (arith, long_xs, long_ys)

pub turn_work : (s0 s1 s2 : Flooding) (c : Cell) → IsNextTurn s0 s1 c → IsLessWork s1 s2 →
    (unreached s2 + length s2.ahead + 1 ≡ unreached s0 + length s0.ahead) × (s2.waiting ≡ s0.waiting)
turn_work s0 s1 s2 c next less =
    let n = next_work s0 s1 c next in
    let fewer = n.0 in
    let one = n.1 in
    let same = less.same in
    (omega (arith, fewer, one, same), less.waiting ∙ ap (λ f. f.waiting) next.rest)

pub wait_work : (s1 s2 s3 : Flooding) (level : ℤ) (place : ℕ) → IsLessWork s1 s2 → IsLeftWaiting s2 s3 level place → length s3.waiting ≡ length s1.waiting + 1
wait_work s1 s2 s3 level place less waiting =
    let long = length_permutation ((level, place) ∷ s2.waiting) s3.waiting waiting.put in
    let same : length s2.waiting ≡ length s1.waiting = ap (λ (xs : List (ℤ × ℕ)). length xs) less.waiting in
    omega (arith, long, same)

pub pop_work : (s0 s1 : Flooding) (level : ℤ) (place : ℕ) → IsPopped s0 s1 level place →
    (unreached s1 + length s1.ahead ≡ unreached s0 + length s0.ahead) × (length s1.waiting + 1 ≡ length s0.waiting)
pop_work s0 s1 level place popped =
    let long = length_permutation s0.waiting ((level, place) ∷ s1.waiting) popped.out in
    (ap (λ (f : Flooding). unreached f + length f.ahead) popped.rest, omega (arith, long))

-- the flood rises to the level of a lowest waiting cell, and its unreached neighbours are raised
pub turn_rises : (g : Grid) (first : Surface) (s0 s1 s2 : Flooding) (stand : Option ℤ) (level : ℤ) (place : ℕ) (seen : Bool) → g.extent ≡ s1.extent → IsPopped s0 s1 level place →
    s0.ahead ≡ [] → LooksAround s1.extent s1 s2 place level true seen → IsFloodOf g first s0 stand [] → IsFloodOf g first s2 (Some level) []
turn_rises g first s0 s1 s2 stand level place seen e1 popped done looks flood =
    let is_new : with_lists s0 [] s1.waiting ≡ s1 = ap (λ xs. with_lists s0 xs s1.waiting) (sym done) ∙ sym popped.rest in
    let now : IsFloodOf g first s1 (Some level) (place ∷ []) = subst (λ f. IsFloodOf g first f (Some level) (place ∷ [])) is_new
    (risen g first s0 stand level place s1.waiting done popped.out popped.lowest flood) in
    let was = All-head (IsReachedPair g s0) (level, place) s1.waiting (All-permutation (IsReachedPair g s0) s0.waiting _ popped.out flood.waiting) in
    let con : get_or s0.con place (pos 0) ≡ level = ap (λ k. get_or s0.con k (pos 0)) was.place_is ∙ was.con in
    let is : level ≡ get_or s1.con place (pos 0) = sym con ∙ ap (λ f. get_or f.con place (pos 0)) is_new in
    busy_passed g first s1 s2 (Some level) level [] place true seen e1 is (λ h. refl) looks now (λ is_seen raises. false≢true (sym raises))
