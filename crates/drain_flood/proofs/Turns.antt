-- From one cell to the next: a cell whose neighbours were looked at is left, or waits, and a lowest waiting one is
-- taken.
use Rattle.drain_flood.proofs.Names.{Flooding, HasFloor, IsFloodOf, IsHeld, IsReachedCell, IsReachedPair, IsReachedPlace, IsUnreached, con_at, IsOut, with_lists, same_index, place, same_some, index_of, step, Grid, IsInside, Surface, Cell, Direction, Contains, Err, IfSome, List, MatchOption, None, Ok, OnErr, OnOk, Option, Result, Some, [], ap, arith, get_or, inl, inr, refl, subst, suc, sym, zero, ℕ, ℤ, ◌++◌, ◌<◌, ◌∙◌, ◌∷◌, ◌≡◌, ◌≤ℤ◌, ◌⊎◌, ints, All-append, All-cons, All-contains, All-head, All-nil, All-push, All-tail, All-weaker, Contains-append_cases, Contains-append_left, Contains-append_right, Contains-get_or, Contains-push, Contains-push_cases, All-permutation, Contains-permutation, All, IsPermutation}
use Rattle.drain_flood.proofs.AllReached.{none_in}

-- in a list with something in front, it is that or in the rest
pub cons_cases : {X : Type 0} (x : X) (xs : List X) (y : X) → Contains (x ∷ xs) y → (x ≡ y) ⊎ Contains xs y
cons_cases x xs y (zero, less, is) = inl is
cons_cases x xs y (suc k, less, is) = inr (k, omega (arith, less), is)

pub head_in : {X : Type 0} (x : X) (xs : List X) → Contains (x ∷ xs) x
head_in x xs = (0, omega arith, refl)

pub tail_in : {X : Type 0} (x y : X) (xs : List X) → Contains xs y → Contains (x ∷ xs) y
tail_in x y xs (k, less, is) = (suc k, omega (arith, less), is)

-- Other lists.

same_place : (g : Grid) (f : Flooding) (ahead : List ℕ) (waiting : List (ℤ × ℕ)) (place : ℕ) → IsReachedPlace g f place → IsReachedPlace g (with_lists f ahead waiting) place
same_place g f ahead waiting place is = record { cell = is.cell; reached = record { here = is.reached.here; code = is.reached.code }; place_is = is.place_is }

same_pair : (g : Grid) (f : Flooding) (ahead : List ℕ) (waiting : List (ℤ × ℕ)) (pair : ℤ × ℕ) → IsReachedPair g f pair → IsReachedPair g (with_lists f ahead waiting) pair
same_pair g f ahead waiting pair is = record {
  cell = is.cell;
  reached = record { here = is.reached.here; code = is.reached.code };
  place_is = is.place_is;
  con = is.con;
}

-- a flood goes on with other lists and stands at another level, if each reached cell with an unreached neighbour is still held and
-- isn't below the level
pub relisted : (g : Grid) (first : Surface) (f : Flooding) (stand higher : Option ℤ) (busy other ahead : List ℕ) (waiting : List (ℤ × ℕ)) →
    IsFloodOf g first f stand busy →
    ((c n : Cell) (d : Direction) → IsReachedCell g f c → IsUnreached g f n → step g.extent c d ≡ Some n → IsHeld g.extent f busy c → IsHeld g.extent (with_lists f ahead waiting) other c) →
    ((level : ℤ) → higher ≡ Some level → HasFloor g f level) →
    All (IsReachedPlace g f) other → All (IsReachedPlace g f) ahead → All (IsReachedPair g f) waiting →
    IsFloodOf g first (with_lists f ahead waiting) higher other
relisted g first f stand higher busy other ahead waiting flood held floor at_other at_ahead at_waiting = record {
  counted = record { con = flood.counted.con; mark = flood.counted.mark };
  marks = record {
    voids = flood.marks.voids;
    opened = flood.marks.opened;
    closed = λ c reached shut. flood.marks.closed c (record { here = reached.here; code = reached.code }) shut;
  };
  voids = flood.voids;
  between = record { covers = flood.between.covers; low = flood.between.low };
  drains = λ c reached.
      (let way = flood.drains c (record { here = reached.here; code = reached.code }) in
      record { rest = way.rest; path = way.path; falls = way.falls; reached = way.reached });
  held = λ c n d at_c at_n leads.
      (let was_c : IsReachedCell g f c = record { here = at_c.here; code = at_c.code } in
      let was_n : IsUnreached g f n = record { here = at_n.here; code = at_n.code } in
      held c n d was_c was_n leads (flood.held c n d was_c was_n leads));
  floor = λ level at c n d at_c at_n leads.
      floor level at c n d (record { here = at_c.here; code = at_c.code }) (record { here = at_n.here; code = at_n.code }) leads;
  busy_places = All-weaker (IsReachedPlace g f) (IsReachedPlace g (with_lists f ahead waiting)) (same_place g f ahead waiting) other at_other;
  ahead = All-weaker (IsReachedPlace g f) (IsReachedPlace g (with_lists f ahead waiting)) (same_place g f ahead waiting) ahead at_ahead;
  waiting = All-weaker (IsReachedPair g f) (IsReachedPair g (with_lists f ahead waiting)) (same_pair g f ahead waiting) waiting at_waiting;
}

-- what is taken out of a list was in it, next to all that is left
module _ (place : ℕ) (old new : List ℕ) (out : IsOut place old new) where
  pub out_has : (k : ℕ) → Contains old k → Contains (place ∷ new) k
  out_has k held =
      elim (Contains-append_cases out.before (place ∷ out.after) k (subst (λ xs. Contains xs k) out.old_are held)) [
        | inl early ↦ tail_in place k new (subst (λ xs. Contains xs k) (sym out.new_are) (Contains-append_left out.before out.after k early))
        | inr late ↦ elim (cons_cases place out.after k late) [
          | inl here ↦ subst (λ x. Contains (place ∷ new) x) here (head_in place new)
          | inr after ↦ tail_in place k new (subst (λ xs. Contains xs k) (sym out.new_are) (Contains-append_right out.before out.after k after))
        ]
      ]

  pub out_all : (P : ℕ → Type 0) → All P old → All P (place ∷ new)
  out_all P each =
      let split : All P (out.before ++ place ∷ out.after) = subst (All P) out.old_are each in
      let in_early : (k : ℕ) → Contains out.before k → P k = λ k held. All-contains P (out.before ++ place ∷ out.after) k split (Contains-append_left out.before (place ∷ out.after) k held) in
      let in_late : (k : ℕ) → Contains out.after k → P k = λ k held. All-contains P (out.before ++ place ∷ out.after) k split
      (Contains-append_right out.before (place ∷ out.after) k (tail_in place k out.after held)) in
      let here : P place = All-contains P (out.before ++ place ∷ out.after) place split (Contains-append_right out.before (place ∷ out.after) place (head_in place out.after)) in
      All-cons P place new here
      (subst (All P) (sym out.new_are)
      (All-append P out.before out.after (λ k d less. in_early (get_or out.before k d) (Contains-get_or out.before k d less))
      (λ k d less. in_late (get_or out.after k d) (Contains-get_or out.after k d less))))

-- what holds of each of a list holds of each of another with the same elements
all_moved : (P : ℕ → Type 0) (xs ys : List ℕ) → ((k : ℕ) → Contains ys k → Contains xs k) → All P xs → All P ys
all_moved P xs ys there each = λ k d less. All-contains P xs (get_or ys k d) each (there (get_or ys k d) (Contains-get_or ys k d less))

-- what holds of each of a list holds of each before its last
pub all_before : (P : ℕ → Type 0) (xs ys : List ℕ) (last : ℕ) → xs ≡ ys ++ last ∷ [] → All P xs → All P ys
all_before P xs ys last is each = all_moved P xs ys (λ k held. subst (λ zs. Contains zs k) (sym is) (Contains-append_left ys (last ∷ []) k held)) each

-- some cell of the trail is taken, and is busy
pub taken : (g : Grid) (first : Surface) (f : Flooding) (stand : Option ℤ) (later : List ℕ) (place : ℕ) (rest : List ℕ) → IsOut place f.ahead rest →
    IsFloodOf g first f stand later → IsFloodOf g first (with_lists f rest f.waiting) stand (place ∷ later)
taken g first f stand later place rest out flood =
    let all : All (IsReachedPlace g f) (place ∷ rest) = out_all place f.ahead rest out (IsReachedPlace g f) flood.ahead in
    relisted g first f stand stand later (place ∷ later) rest f.waiting flood
    (λ b n d at_b at_n leads held. elim held [
      | inl busy ↦ inl (tail_in place (index_of g.extent b) later busy)
      | inr (inl on) ↦ by_place (index_of g.extent b) (out_has place f.ahead rest out (index_of g.extent b) on)
      | inr (inr waits) ↦ inr (inr waits)
    ])
    flood.floor
    (All-cons (IsReachedPlace g f) place later (All-head (IsReachedPlace g f) place rest all) flood.busy_places)
    (All-tail (IsReachedPlace g f) place rest all) flood.waiting
  where
    by_place : {W : Type 0} (k : ℕ) → Contains (place ∷ rest) k → Contains (place ∷ later) k ⊎ (Contains rest k ⊎ W)
    by_place k held = elim (cons_cases place rest k held) [
      | inl same ↦ inl (subst (λ x. Contains (place ∷ later) x) same (head_in place later))
      | inr on ↦ inr (inl on)
    ]

-- other busy cells, if they are the same together
rebusied : (g : Grid) (first : Surface) (f : Flooding) (stand : Option ℤ) (busy other : List ℕ) → IsFloodOf g first f stand busy →
    ((k : ℕ) → Contains busy k → Contains other k) → All (IsReachedPlace g f) other → IsFloodOf g first f stand other
rebusied g first f stand busy other flood there all =
    relisted g first f stand stand busy other f.ahead f.waiting flood
    (λ b n d at_b at_n leads held. elim held [
      | inl was ↦ inl (there (index_of g.extent b) was)
      | inr listed ↦ inr listed
    ])
    flood.floor all flood.ahead flood.waiting

-- a busy cell is for later
pub deferred : (g : Grid) (first : Surface) (f : Flooding) (stand : Option ℤ) (later : List ℕ) (place : ℕ) → IsFloodOf g first f stand (place ∷ later) →
    IsFloodOf g first f stand (later ++ place ∷ [])
deferred g first f stand later place flood =
    rebusied g first f stand (place ∷ later) (later ++ place ∷ []) flood
    (λ k held. elim (cons_cases place later k held) [
      | inl same ↦ subst (Contains (later ++ place ∷ [])) same (Contains-push later place)
      | inr on ↦ Contains-append_left later (place ∷ []) k on
    ])
    (All-push (IsReachedPlace g f) later place (All-tail (IsReachedPlace g f) place later flood.busy_places) (All-head (IsReachedPlace g f) place later flood.busy_places))

-- the last cell for later is busy
pub recalled : (g : Grid) (first : Surface) (f : Flooding) (stand : Option ℤ) (later : List ℕ) (place : ℕ) → IsFloodOf g first f stand (later ++ place ∷ []) →
    IsFloodOf g first f stand (place ∷ later)
recalled g first f stand later place flood =
    rebusied g first f stand (later ++ place ∷ []) (place ∷ later) flood
    (λ k held. elim (Contains-push_cases later place k held) [
      | inl on ↦ tail_in place k later on
      | inr same ↦ subst (Contains (place ∷ later)) same (head_in place later)
    ])
    (All-cons (IsReachedPlace g f) place later
    (All-contains (IsReachedPlace g f) (later ++ place ∷ []) place flood.busy_places (Contains-push later place))
    (all_before (IsReachedPlace g f) (later ++ place ∷ []) later place refl flood.busy_places))

-- a busy cell is left if none of its neighbours is unreached, or if it waits
pub left : (g : Grid) (first : Surface) (f : Flooding) (stand : Option ℤ) (later : List ℕ) (place : ℕ) (c : Cell) (waiting : List (ℤ × ℕ)) → IsInside g c →
    place ≡ index_of g.extent c → IsFloodOf g first f stand (place ∷ later) → ((p : ℤ × ℕ) → Contains f.waiting p → Contains waiting p) →
    All (IsReachedPair g f) waiting →
    ((n : Cell) (d : Direction) → IsUnreached g f n → step g.extent c d ≡ Some n → Contains waiting (con_at g.extent f c, place)) →
    IsFloodOf g first (with_lists f f.ahead waiting) stand later
left g first f stand later place c waiting inside at flood more waits beside =
    relisted g first f stand stand (place ∷ later) later f.ahead waiting flood
    (λ b n d at_b at_n leads held. elim held [
      | inl busy ↦ elim (cons_cases place later (index_of g.extent b) busy) [
        | inl here ↦
            (let same : c ≡ b = same_index g.extent c b inside at_b.here.inside (sym at ∙ here) in
            inr (inr (subst (λ x. Contains waiting (con_at g.extent f x, index_of g.extent x)) same
            (subst (λ k. Contains waiting (con_at g.extent f c, k)) at (beside n d at_n (ap (λ x. step g.extent x d) same ∙ leads))))))
        | inr on ↦ inl on
      ]
      | inr (inl on) ↦ inr (inl on)
      | inr (inr waited) ↦ inr (inr (more _ waited))
    ])
    flood.floor (All-tail (IsReachedPlace g f) place later flood.busy_places) flood.ahead waits

-- if the trail is empty, a lowest waiting cell is taken: nothing else is held, so no reached cell with an unreached neighbour is
-- below it, and the flood stands at its level
pub risen : (g : Grid) (first : Surface) (f : Flooding) (stand : Option ℤ) (higher : ℤ) (place : ℕ) (rest : List (ℤ × ℕ)) → f.ahead ≡ [] →
    IsPermutation f.waiting ((higher, place) ∷ rest) → All (λ (p : ℤ × ℕ). higher ≤ℤ p.0) rest → IsFloodOf g first f stand [] →
    IsFloodOf g first (with_lists f [] rest) (Some higher) (place ∷ [])
risen g first f stand higher place rest no_ahead out behind flood =
    relisted g first f stand (Some higher) [] (place ∷ []) [] rest flood
    (λ b n d at_b at_n leads held. elim (cons_cases (higher, place) rest (con_at g.extent f b, index_of g.extent b) (waits b held)) [
      | inl here ↦ inl (subst (Contains (place ∷ [])) (ap (λ (p : ℤ × ℕ). p.1) here) (head_in place []))
      | inr on ↦ inr (inr on)
    ])
    (λ level is b n d at_b at_n leads.
    subst (λ z. z ≤ℤ con_at g.extent f b) (same_some higher level is) (floor_at (con_at g.extent f b, index_of g.extent b) (waits b (flood.held b n d at_b at_n leads))))
    (All-cons (IsReachedPlace g f) place [] (record { cell = taken_pair.cell; reached = taken_pair.reached; place_is = taken_pair.place_is }) (All-nil (IsReachedPlace g f)))
    (All-nil (IsReachedPlace g f)) (All-tail (IsReachedPair g f) (higher, place) rest all)
  where
    all : All (IsReachedPair g f) ((higher, place) ∷ rest)
    all = All-permutation (IsReachedPair g f) f.waiting ((higher, place) ∷ rest) out flood.waiting

    taken_pair : IsReachedPair g f (higher, place)
    taken_pair = All-head (IsReachedPair g f) (higher, place) rest all

    -- each that is held waits
    waits : (b : Cell) → IsHeld g.extent f [] b → Contains ((higher, place) ∷ rest) (con_at g.extent f b, index_of g.extent b)
    waits b (inl busy) = absurd (none_in [] (index_of g.extent b) refl busy)
    waits b (inr (inl on)) = absurd (none_in f.ahead (index_of g.extent b) no_ahead on)
    waits b (inr (inr waiting)) = Contains-permutation f.waiting ((higher, place) ∷ rest) _ out waiting

    floor_at : (pair : ℤ × ℕ) → Contains ((higher, place) ∷ rest) pair → higher ≤ℤ pair.0
    floor_at pair held = elim (cons_cases (higher, place) rest pair held) [
      | inl same ↦ subst (λ (p : ℤ × ℕ). higher ≤ℤ p.0) same (omega (arith, ints))
      | inr on ↦ All-contains (λ (p : ℤ × ℕ). higher ≤ℤ p.0) rest pair behind on
    ]

-- What waits are places of cells, whatever is put and taken out.

pub put_places : {E : Type 0} (r : Result (Unit {0}) E) (n : ℕ) (level : ℤ) (place : ℕ) (old new : List (ℤ × ℕ)) → place < n →
    All (λ (pair : ℤ × ℕ). pair.1 < n) old → OnOk r (IsPermutation ((level, place) ∷ old) new) → OnErr r (new ≡ old) → All (λ (pair : ℤ × ℕ). pair.1 < n) new
put_places (Ok x) n level place old new below all put kept =
    All-permutation (λ (pair : ℤ × ℕ). pair.1 < n) ((level, place) ∷ old) new put (All-cons (λ (pair : ℤ × ℕ). pair.1 < n) (level, place) old below all)
put_places (Err e) n level place old new below all put kept = subst (All (λ (pair : ℤ × ℕ). pair.1 < n)) (sym kept) all

pub out_below : (r : Option (ℤ × ℕ)) (n : ℕ) (old new : List (ℤ × ℕ)) → All (λ (pair : ℤ × ℕ). pair.1 < n) old →
    MatchOption r (old ≡ []) (λ pair. IsPermutation old (pair ∷ new)) → IfSome r (λ pair. pair.1 < n)
out_below None n old new all out = tt
out_below (Some pair) n old new all out =
    All-head (λ (pair : ℤ × ℕ). pair.1 < n) pair new (All-permutation (λ (pair : ℤ × ℕ). pair.1 < n) old (pair ∷ new) out all)

pub out_places : (r : Option (ℤ × ℕ)) (n : ℕ) (old new : List (ℤ × ℕ)) → All (λ (pair : ℤ × ℕ). pair.1 < n) old →
    MatchOption r (old ≡ []) (λ pair. IsPermutation old (pair ∷ new)) → MatchOption r (new ≡ []) (λ pair. Unit {0}) → All (λ (pair : ℤ × ℕ). pair.1 < n) new
out_places None n old new all was is = subst (All (λ (pair : ℤ × ℕ). pair.1 < n)) (was ∙ sym is) all
out_places (Some pair) n old new all out is =
    All-tail (λ (pair : ℤ × ℕ). pair.1 < n) pair new (All-permutation (λ (pair : ℤ × ℕ). pair.1 < n) old (pair ∷ new) out all)
