-- What a pop leaves: the items of the lowest level are one less at the front, and all are linked again.
use Rattle.drain_flood.proofs.Names.{◌≡◌, ◌≢◌, ℕ, zero, suc, ◌<◌, ◌≤◌, List, [], ◌∷◌, length, set, get_or, Contains, refl, sym, ap, ◌∙◌, subst, inl, inr, arith, get_or-set_other, get_or-set_same, cases_eq, cases_lt, get_or_read, Contains-append_right, Contains-append_cases, ABSENT, END, LEVELS, Waiting, level_of, IsChain, last_or, AreLinked, IsLinked}
use Rattle.std.proofs.Common.{length-set}
use Rattle.drain_flood.specs.Ways.{items_at, pairs_of}
use Rattle.drain_flood.proofs.PairLemmas.{first_pair, no_pairs}
use Rattle.drain_flood.proofs.ChainLemmas.{IsChain-set, empty_from_end}
use Rattle.drain_flood.proofs.QueueLemmas.{moved, moved_here, moved_other, relinked, all_differ, seen_as}

-- an item of a list that isn't its first is one of the rest
in_rest : (x y : ℕ) (xs : List ℕ) → y ≢ x → Contains (x ∷ xs) y → Contains xs y
in_rest x y xs ne among = elim (Contains-append_cases (x ∷ []) xs y among) [
  | inl here ↦ absurd (ne (only x y here))
  | inr rest ↦ rest
] where
  only : (x y : ℕ) → Contains (x ∷ []) y → y ≡ x
  only x y (zero, less, is) = sym is
  only x y (suc k, less, is) = absurd (omega arith)

-- what a pop leaves, and what is seen of it
pub record ArePopped (firsts lasts behind : List ℕ) (p item : ℕ) : Type 0 where
  pub linked : IsLinked (set firsts p (get_or behind item END)) lasts (set behind item ABSENT) p
  pub pairs : pairs_of firsts behind ≡ (level_of p, item) ∷ pairs_of (set firsts p (get_or behind item END)) (set behind item ABSENT)

module _ (firsts lasts behind : List ℕ) (lowest p : ℕ) (linked : IsLinked firsts lasts behind lowest) (in_levels : p < LEVELS)
    (none_below : (m : ℕ) → m < p → get_or firsts m END ≡ END) where
  items : ℕ → List ℕ
  items = items_at firsts behind

  by : AreLinked items firsts lasts behind lowest
  unfolding items
  by = linked

  empty_below : (m : ℕ) → m < p → items m ≡ []
  empty_below m less = empty_from_end behind (items m) (get_or firsts m END) by.few (by.linked m) (none_below m less)

  module _ (x : ℕ) (xs : List ℕ) (items_here : items p ≡ x ∷ xs) where
    firsts' : List ℕ
    firsts' = set firsts p (get_or behind x END)

    behind' : List ℕ
    behind' = set behind x ABSENT

    chained : IsChain behind (get_or firsts p END) (x ∷ xs)
    chained = subst (λ ys. IsChain behind (get_or firsts p END) ys) items_here (by.linked p)

    among_here : Contains (items p) x
    among_here = subst (λ ys. Contains ys x) (sym items_here) (0, omega arith, refl)

    later : ℕ → List ℕ
    later = moved items p xs

    later_here : later p ≡ xs
    unfolding later
    later_here = moved_here items p xs

    later_other : (m : ℕ) → m ≢ p → later m ≡ items m
    unfolding later
    later_other m ne = moved_other items p xs m ne

    -- an item of a level afterwards was one before
    was_in : (m y : ℕ) → Contains (later m) y → Contains (items m) y
    was_in m y among = elim (cases_eq m p) [
      | inl e ↦
          let rest : Contains xs y = subst (λ ys. Contains ys y) (ap later e ∙ later_here) among in
          subst (λ ys. Contains ys y) (sym (ap items e ∙ items_here)) (Contains-append_right (x ∷ []) xs y rest)
      | inr ne ↦ subst (λ ys. Contains ys y) (later_other m ne) among
    ]

    is_in : (m y : ℕ) → y ≢ x → Contains (items m) y → Contains (later m) y
    is_in m y other among = elim (cases_eq m p) [
      | inl e ↦ subst (λ ys. Contains ys y) (sym (ap later e ∙ later_here)) (in_rest x y xs other (subst (λ ys. Contains ys y) (ap items e ∙ items_here) among))
      | inr ne ↦ subst (λ ys. Contains ys y) (sym (later_other m ne)) among
    ]

    first_here : get_or firsts' p END ≡ get_or behind x END
    unfolding firsts'
    first_here = get_or-set_same firsts p (get_or behind x END) END (omega (arith, by.firsts_are, in_levels))

    first_other : (m : ℕ) → m ≢ p → get_or firsts' m END ≡ get_or firsts m END
    unfolding firsts'
    first_other m ne = get_or-set_other firsts p m (get_or behind x END) END ne

    linked_later : (m : ℕ) → IsChain behind' (get_or firsts' m END) (later m)
    unfolding behind'
    linked_later m = elim (cases_eq m p) [
      | inl e ↦
          subst (λ q. IsChain behind' (get_or firsts' q END) (later q)) (sym e)
          (subst (λ at. IsChain behind' at (later p)) (sym first_here)
          (subst (λ ys. IsChain behind' (get_or behind x END) ys) (sym later_here)
          (IsChain-set behind x ABSENT xs (get_or behind x END) chained.4 chained.3)))
      | inr ne ↦
          subst (λ at. IsChain behind' at (later m)) (sym (first_other m ne))
          (subst (λ ys. IsChain behind' (get_or firsts m END) ys) (sym (later_other m ne))
          (IsChain-set behind x ABSENT (items m) (get_or firsts m END) (by.linked m) (all_differ (items m) x (λ among. by.apart m p ne x among among_here))))
    ]

    last_stays : (ys : List ℕ) (d : ℕ) → last_or x ys ≡ d → last_or d ys ≡ d
    last_stays [] d is = refl
    last_stays (y ∷ ys) d is = is

    ended_later : (m : ℕ) → last_or (get_or lasts m END) (later m) ≡ get_or lasts m END
    ended_later m = elim (cases_eq m p) [
      | inl e ↦
          subst (λ q. last_or (get_or lasts q END) (later q) ≡ get_or lasts q END) (sym e)
          (ap (λ ys. last_or (get_or lasts p END) ys) later_here
          ∙ last_stays xs (get_or lasts p END) (ap (λ ys. last_or (get_or lasts p END) ys) (sym items_here) ∙ by.ended p))
      | inr ne ↦ ap (λ ys. last_or (get_or lasts m END) ys) (later_other m ne) ∙ by.ended m
    ]

    placed_later : (y : ℕ) → y < length behind' → get_or behind' y END ≢ ABSENT → (m : ℕ) × (m < LEVELS) × Contains (later m) y
    unfolding behind'
    placed_later y less some =
        let same : length (set behind x ABSENT) ≡ length behind = length-set behind x ABSENT in
        let other : y ≢ x = λ e. some (ap (λ i. get_or (set behind x ABSENT) i END) e ∙ get_or-set_same behind x ABSENT END chained.1) in
        let was = by.placed y (omega (arith, less, same)) (λ gone. some (get_or-set_other behind x y ABSENT END other ∙ gone)) in
        (was.0, was.1, is_in was.0 y other was.2)

    none_later : (m : ℕ) → m < p → get_or firsts' m END ≡ END
    none_later m less = first_other m (λ e. absurd (omega arith)) ∙ none_below m less

    are_popped : AreLinked later firsts' lasts behind' p
    unfolding firsts' behind'
    are_popped = record {
      firsts_are = length-set firsts p (get_or behind x END) ∙ by.firsts_are;
      lasts_are = by.lasts_are;
      few = omega (arith, length-set behind x ABSENT, by.few);
      linked = linked_later;
      ended = ended_later;
      apart = λ l m ne y at_l at_m. by.apart l m ne y (was_in l y at_l) (was_in m y at_m);
      placed = placed_later;
      low = omega (arith, in_levels);
      none_below = none_later;
    }

    popped_item : ArePopped firsts lasts behind p x
    unfolding firsts' behind'
    popped_item = record {
      linked = relinked later firsts' lasts behind' p are_popped;
      pairs =
          seen_as items firsts lasts behind lowest by
          ∙ first_pair items later p x LEVELS 0 later_other empty_below (items_here ∙ ap (λ ys. x ∷ ys) (sym later_here)) (omega arith) (omega (arith, in_levels))
          ∙ ap (λ ps. (level_of p, x) ∷ ps) (sym (seen_as later firsts' lasts behind' p are_popped));
    }

  -- where the level has an item
  popped_from : (ys : List ℕ) → items p ≡ ys → IsChain behind (get_or firsts p END) ys → get_or firsts p END ≢ END → ArePopped firsts lasts behind p (get_or firsts p END)
  popped_from [] are chain some = absurd (some chain)
  popped_from (x ∷ xs) are chain some = subst (λ y. ArePopped firsts lasts behind p y) (sym chain.0) (popped_item x xs are)

  pub popped : get_or firsts p END ≢ END → ArePopped firsts lasts behind p (get_or firsts p END)
  popped some = popped_from (items p) refl (by.linked p) some

  -- the first of a level that has an item is one of the cells, and held
  first_from : (ys : List ℕ) → IsChain behind (get_or firsts p END) ys → get_or firsts p END ≢ END → get_or firsts p END < length behind
  first_from [] chain some = absurd (some chain)
  first_from (x ∷ xs) chain some = omega (arith, chain.0, chain.1)

  pub first_within : get_or firsts p END ≢ END → get_or firsts p END < length behind
  first_within some = first_from (items p) (by.linked p) some

-- where no level has an item, there is no pair
pub none_left : (firsts lasts behind : List ℕ) (lowest : ℕ) → IsLinked firsts lasts behind lowest → ((m : ℕ) → m < LEVELS → get_or firsts m END ≡ END) → pairs_of firsts behind ≡ []
none_left firsts lasts behind lowest linked none =
    seen_as (items_at firsts behind) firsts lasts behind lowest linked
    ∙ no_pairs (items_at firsts behind) LEVELS 0 (λ m less. empty_from_end behind (items_at firsts behind m) (get_or firsts m END) linked.few (linked.linked m) (none m (omega (arith, less))))

-- what the fields are after a pop from a queue that is seen as w
pub record IsAfterPop (w : Waiting) (lasts : List ℕ) (p item : ℕ) (firsts' behind' : List ℕ) : Type 0 where
  pub linked : IsLinked firsts' lasts behind' p
  pub cells : length behind' ≡ w.cells
  pub pairs : w.pairs ≡ (level_of p, item) ∷ pairs_of firsts' behind'

module _ (firsts lasts behind : List ℕ) (lowest p : ℕ) (w : Waiting) (linked : IsLinked firsts lasts behind lowest)
    (view_is : record { cells = length behind; pairs = pairs_of firsts behind } ≡ w)
    (none : (k : ℕ) → lowest ≤ k → k < p → get_or firsts k END ≡ END) where
  below : (m : ℕ) → m < p → get_or firsts m END ≡ END
  below m less = elim (cases_lt m lowest) [
    | inl lower ↦ linked.none_below m lower
    | inr passed ↦ none m passed less
  ]

  pub nothing_held : p ≡ LEVELS → pairs_of firsts behind ≡ []
  nothing_held all = none_left firsts lasts behind lowest linked (λ m less. below m (omega (arith, less, all)))

  pub nothing_seen : p ≡ LEVELS → w.pairs ≡ []
  nothing_seen all = ap (λ (u : Waiting). u.pairs) (sym view_is) ∙ nothing_held all

  module _ (most : p ≤ LEVELS) (not_all : p ≡ LEVELS → ⊥) (found : p < LEVELS → get_or firsts p END ≢ END) (item : ℕ) (read : item ≡ get_or firsts p item) where
    inside : p < LEVELS
    inside = elim (cases_lt p LEVELS) [ inl less ↦ less | inr past ↦ absurd (not_all (omega (arith, past, most))) ]

    is_first : item ≡ get_or firsts p END
    is_first = get_or_read firsts p item (omega (arith, linked.firsts_are, inside)) read END

    pub item_below : item < length behind
    item_below = subst (λ i. i < length behind) (sym is_first) (first_within firsts lasts behind lowest p linked inside below (found inside))

    pub after_pop : (next : ℕ) → next ≡ get_or behind item next → IsAfterPop w lasts p item (set firsts p next) (set behind item ABSENT)
    after_pop next read_next =
        let same : next ≡ get_or behind item END = get_or_read behind item next item_below read_next END in
        let out = subst (λ i. ArePopped firsts lasts behind p i) (sym is_first) (popped firsts lasts behind lowest p linked inside below (found inside)) in
        subst (λ n. IsAfterPop w lasts p item (set firsts p n) (set behind item ABSENT)) (sym same) (record {
          linked = out.linked;
          cells = length-set behind item ABSENT ∙ ap (λ (u : Waiting). u.cells) view_is;
          pairs = ap (λ (u : Waiting). u.pairs) (sym view_is) ∙ out.pairs;
        })
