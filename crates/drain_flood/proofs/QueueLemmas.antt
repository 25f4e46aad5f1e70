-- What is linked by some items of each level is linked by those of its chains, and is seen as their pairs.
use Rattle.drain_flood.proofs.Names.{◌≡◌, ◌≢◌, ℕ, ◌<◌, ◌≤◌, cond, not, ◌==◌, nat_lt, IsTrue, ℤ, List, [], length, get_or, Contains, refl, sym, ap, ◌∙◌, subst, inl, inr, arith, All, cases_eq, cases_lt, ne_eqb, eqb-false, ltb-true, not-true, not_from_false, get_or_past, get_or_default, get_or_read, All-get_or, All-contains, ABSENT, END, LEVELS, MAX_CELLS, Waiting, Holds, level_of, pairs_from, AreLinked, IsLinked}
use Rattle.std.proofs.lemmas.Bool.{eq-eqb}
use Rattle.drain_flood.specs.Ways.{items_at, pairs_of}
use Rattle.drain_flood.proofs.PairLemmas.{no_pairs, pair_of_item, item_of_pair}
use Rattle.drain_flood.proofs.ChainLemmas.{items_are, in_chain}

-- the items of each level, those of one place changed
pub moved : (ℕ → List ℕ) → ℕ → List ℕ → ℕ → List ℕ
moved items p xs m = cond (m == p) xs (items m)

pub moved_here : (items : ℕ → List ℕ) (p : ℕ) (xs : List ℕ) → moved items p xs p ≡ xs
unfolding moved
moved_here items p xs = rw (eq-eqb p p refl) refl

pub moved_other : (items : ℕ → List ℕ) (p : ℕ) (xs : List ℕ) (m : ℕ) → m ≢ p → moved items p xs m ≡ items m
unfolding moved
moved_other items p xs m ne = rw (ne_eqb m p ne) refl

-- what is linked by some items is linked by those that its chains spell
pub relinked : (items : ℕ → List ℕ) (firsts lasts behind : List ℕ) (lowest : ℕ) → AreLinked items firsts lasts behind lowest → IsLinked firsts lasts behind lowest
relinked items firsts lasts behind lowest linked =
    let same : items ≡ items_at firsts behind = λ i m. sym (items_are firsts behind m (items m) linked.few (linked.linked m)) i in
    subst (λ q. AreLinked q firsts lasts behind lowest) same linked

-- an item of a level is held
pub has_link : (items : ℕ → List ℕ) (firsts lasts behind : List ℕ) (lowest m x : ℕ) → AreLinked items firsts lasts behind lowest → Contains (items m) x →
    (x < length behind) × (get_or behind x END ≢ ABSENT)
has_link items firsts lasts behind lowest m x linked among =
    All-contains (λ y. (y < length behind) × (get_or behind y END ≢ ABSENT)) (items m) x (in_chain behind (items m) (get_or firsts m END) (linked.linked m)) among

-- so is every one but some other item
pub all_differ : (xs : List ℕ) (i : ℕ) → (Contains xs i → ⊥) → All (λ y. y ≢ i) xs
all_differ xs i none k d less e = none (k, less, get_or_default xs k i d less ∙ e)

-- the pairs that are seen are those of the items
pub seen_as : (items : ℕ → List ℕ) (firsts lasts behind : List ℕ) (lowest : ℕ) → AreLinked items firsts lasts behind lowest → pairs_of firsts behind ≡ pairs_from items 0 LEVELS
unfolding pairs_of
seen_as items firsts lasts behind lowest linked =
    let same : items_at firsts behind ≡ items = λ i m. items_are firsts behind m (items m) linked.few (linked.linked m) i in
    ap (λ n. pairs_from (items_at firsts behind) 0 n) linked.firsts_are ∙ ap (λ q. pairs_from q 0 LEVELS) same

-- where every level is at its end and every item absent, nothing is held
module _ (firsts lasts behind : List ℕ) (firsts_long : length firsts ≡ LEVELS) (lasts_long : length lasts ≡ LEVELS) (few : length behind ≤ MAX_CELLS)
    (ended : All (λ x. x ≡ END) firsts) (absent : All (λ x. x ≡ ABSENT) behind) where
  first_is : (m : ℕ) → get_or firsts m END ≡ END
  first_is m = elim (cases_lt m (length firsts)) [
    | inl less ↦ All-get_or (λ x. x ≡ END) firsts m END less ended
    | inr past ↦ get_or_past firsts m END past
  ]

  none_linked : AreLinked (λ m. []) firsts lasts behind LEVELS
  none_linked = record {
    firsts_are = firsts_long;
    lasts_are = lasts_long;
    few = few;
    linked = first_is;
    ended = λ m. refl;
    apart = λ l m ne x at_l at_m. absurd (omega (arith, at_l.1));
    placed = λ item less some. absurd (some (All-get_or (λ x. x ≡ ABSENT) behind item END less absent));
    low = omega arith;
    none_below = λ m less. first_is m;
  }

  pub is_empty : IsLinked firsts lasts behind LEVELS
  is_empty = relinked (λ m. []) firsts lasts behind LEVELS none_linked

  pub sees_none : pairs_of firsts behind ≡ []
  sees_none = seen_as (λ m. []) firsts lasts behind LEVELS none_linked ∙ no_pairs (λ m. []) LEVELS 0 (λ m less. refl)

-- an item is held exactly where it isn't absent
module _ (firsts lasts behind : List ℕ) (lowest : ℕ) (linked : IsLinked firsts lasts behind lowest) where
  pub is_held : (item : ℕ) → item < length behind → get_or behind item END ≢ ABSENT → (level : ℤ) × Contains (pairs_of firsts behind) (level, item)
  is_held item less some =
      let was = linked.placed item less some in (
        level_of was.0,
        subst (λ ps. Contains ps (level_of was.0, item)) (sym (seen_as (items_at firsts behind) firsts lasts behind lowest linked))
            (pair_of_item (items_at firsts behind) was.0 item LEVELS 0 was.2 (omega arith) (omega (arith, was.1))),
      )

  pub was_held : (item : ℕ) (level : ℤ) → Contains (pairs_of firsts behind) (level, item) → (item < length behind) × (get_or behind item END ≢ ABSENT)
  was_held item level among =
      let there = item_of_pair (items_at firsts behind) (level, item) LEVELS 0 (subst (λ ps. Contains ps (level, item)) (seen_as (items_at firsts behind) firsts lasts behind lowest linked) among) in
      has_link (items_at firsts behind) firsts lasts behind lowest there.0 item linked there.1

  -- an item of which no pair is held is absent
  pub is_absent : (item : ℕ) → item < length behind → (((level : ℤ) × Contains (pairs_of firsts behind) (level, item)) → ⊥) → get_or behind item END ≡ ABSENT
  is_absent item less none = elim (cases_eq (get_or behind item END) ABSENT) [
    | inl e ↦ e
    | inr ne ↦ absurd (none (is_held item less ne))
  ]

-- what the test of a link says
link_test : (v : ℕ) (H : Type 0) → (v ≢ ABSENT → H) → (H → v ≢ ABSENT) → (IsTrue (not (v == ABSENT)) → H) × (H → IsTrue (not (v == ABSENT)))
link_test v H to from = ((λ t. to (eqb-false v ABSENT (not-true (v == ABSENT) t))), λ h. not_from_false (v == ABSENT) (ne_eqb v ABSENT (from h)))

-- what the two tests of `holds` say of the value that is seen
module _ (firsts lasts behind : List ℕ) (lowest item : ℕ) (w : Waiting) (linked : IsLinked firsts lasts behind lowest)
    (view_is : record { cells = length behind; pairs = pairs_of firsts behind } ≡ w) where
  pub holds_by_link : (v : ℕ) → item < length behind → v ≡ get_or behind item v → (IsTrue (not (v == ABSENT)) → Holds w item) × (Holds w item → IsTrue (not (v == ABSENT)))
  holds_by_link v less read =
      let same : v ≡ get_or behind item END = get_or_read behind item v less read END in
      link_test v (Holds w item)
      (λ some. subst (λ (u : Waiting). Holds u item) view_is (is_held firsts lasts behind lowest linked item less (λ e. some (same ∙ e))))
      (λ holds e. (was_held firsts lasts behind lowest linked item (subst (λ (u : Waiting). Holds u item) (sym view_is) holds).0 (subst (λ (u : Waiting). Holds u item) (sym view_is) holds).1).1 (sym same ∙ e))

  pub holds_past : (n : ℕ) → length behind ≡ n → n ≤ item → (IsTrue (nat_lt item n) → Holds w item) × (Holds w item → IsTrue (nat_lt item n))
  holds_past n long past = (
    (λ t. absurd (omega (arith, ltb-true item n t))),
    λ holds. absurd (omega (arith, long, (was_held firsts lasts behind lowest linked item (subst (λ (u : Waiting). Holds u item) (sym view_is) holds).0 (subst (λ (u : Waiting). Holds u item) (sym view_is) holds).1).0)),
  )
