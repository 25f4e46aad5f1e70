-- What a push leaves: the items of its level are one more at the end, and all are linked again.
use Rattle.drain_flood.proofs.Names.{◌≡◌, ◌≢◌, ℕ, ◌<◌, ◌≤◌, ℤ, List, [], ◌∷◌, ◌++◌, length, set, get_or, Contains, ◌⊎◌, refl, sym, ap, ◌∙◌, subst, inl, inr, arith, get_or-set_other, get_or-set_same, All, cases_eq, get_or_read, All-nil, Contains-push, Contains-push_cases, Contains-append_left, Contains-append_right, ABSENT, END, LEVELS, MAX_CELLS, Waiting, Holds, IsPut, level_of, pairs_from, IsChain, last_or, AreLinked, IsLinked}
use Rattle.std.proofs.Common.{length-set}
use Rattle.drain_flood.specs.Ways.{items_at, pairs_of}
use Rattle.drain_flood.proofs.PairLemmas.{put_pair}
use Rattle.drain_flood.proofs.ChainLemmas.{IsChain-set, IsChain-push, empty_from_end}
use Rattle.drain_flood.proofs.QueueLemmas.{moved, moved_here, moved_other, relinked, has_link, all_differ, seen_as, is_absent}

module _ (items : ℕ → List ℕ) (firsts lasts behind : List ℕ) (lowest : ℕ) (linked : AreLinked items firsts lasts behind lowest) (p : ℕ) (in_levels : p < LEVELS) where
  -- an item that is absent is none of a level's
  not_among : (item m : ℕ) → get_or behind item END ≡ ABSENT → All (λ y. y ≢ item) (items m)
  not_among item m absent = all_differ (items m) item (λ among. (has_link items firsts lasts behind lowest m item linked among).1 absent)

  -- where the items of p get one more at the end, and links of others stay, all are linked
  module _ (item : ℕ) (within : item < length behind) (absent : get_or behind item END ≡ ABSENT) (firsts' behind' : List ℕ) (lowest' : ℕ)
      (firsts_long : length firsts' ≡ LEVELS) (behind_long : length behind' ≡ length behind) (low : lowest' ≤ p) (lower : lowest' ≤ lowest)
      (firsts_other : (m : ℕ) → m ≢ p → get_or firsts' m END ≡ get_or firsts m END)
      (chain_here : IsChain behind' (get_or firsts' p END) (items p ++ item ∷ []))
      (chain_other : (m : ℕ) → m ≢ p → IsChain behind' (get_or firsts m END) (items m))
      (absent_stay : (x : ℕ) → x ≢ item → get_or behind' x END ≢ ABSENT → get_or behind x END ≢ ABSENT) where
    pub later : ℕ → List ℕ
    later = moved items p (items p ++ item ∷ [])

    later_here : later p ≡ items p ++ item ∷ []
    unfolding later
    later_here = moved_here items p (items p ++ item ∷ [])

    later_other : (m : ℕ) → m ≢ p → later m ≡ items m
    unfolding later
    later_other m ne = moved_other items p (items p ++ item ∷ []) m ne

    last_pushed : (xs : List ℕ) (d : ℕ) → last_or d (xs ++ item ∷ []) ≡ item
    last_pushed [] d = refl
    last_pushed (x ∷ xs) d = last_pushed xs x

    linked_later : (m : ℕ) → IsChain behind' (get_or firsts' m END) (later m)
    linked_later m = elim (cases_eq m p) [
      | inl e ↦ subst (λ q. IsChain behind' (get_or firsts' q END) (later q)) (sym e) (subst (λ xs. IsChain behind' (get_or firsts' p END) xs) (sym later_here) chain_here)
      | inr ne ↦ subst (λ at. IsChain behind' at (later m)) (sym (firsts_other m ne)) (subst (λ xs. IsChain behind' (get_or firsts m END) xs) (sym (later_other m ne)) (chain_other m ne))
    ]

    lasts_here : get_or (set lasts p item) p END ≡ item
    lasts_here = get_or-set_same lasts p item END (omega (arith, linked.lasts_are, in_levels))

    ended_later : (m : ℕ) → last_or (get_or (set lasts p item) m END) (later m) ≡ get_or (set lasts p item) m END
    ended_later m = elim (cases_eq m p) [
      | inl e ↦ subst (λ q. last_or (get_or (set lasts p item) q END) (later q) ≡ get_or (set lasts p item) q END) (sym e)
          (ap (λ xs. last_or (get_or (set lasts p item) p END) xs) later_here ∙ last_pushed (items p) (get_or (set lasts p item) p END) ∙ sym lasts_here)
      | inr ne ↦
          let same : get_or (set lasts p item) m END ≡ get_or lasts m END = get_or-set_other lasts p m item END ne in
          rw (same, later_other m ne) (linked.ended m)
    ]

    -- an item of a level afterwards was one before, or is the new one at p
    came_from : (m x : ℕ) → Contains (later m) x → Contains (items m) x ⊎ ((m ≡ p) × (x ≡ item))
    came_from m x among = elim (cases_eq m p) [
      | inl e ↦
          let here : Contains (items p ++ item ∷ []) x = subst (λ xs. Contains xs x) (ap later e ∙ later_here) among in
          elim (Contains-push_cases (items p) item x here) [
            | inl old ↦ inl (subst (λ q. Contains (items q) x) (sym e) old)
            | inr is ↦ inr (e, sym is)
          ]
      | inr ne ↦ inl (subst (λ xs. Contains xs x) (later_other m ne) among)
    ]

    fresh : (m : ℕ) → Contains (items m) item → ⊥
    fresh m among = (has_link items firsts lasts behind lowest m item linked among).1 absent

    apart_later : (l m : ℕ) → l ≢ m → (x : ℕ) → Contains (later l) x → Contains (later m) x → ⊥
    apart_later l m ne x at_l at_m = elim (came_from l x at_l) [
      | inl old_l ↦ elim (came_from m x at_m) [
        | inl old_m ↦ linked.apart l m ne x old_l old_m
        | inr new_m ↦ fresh l (subst (λ y. Contains (items l) y) new_m.1 old_l)
      ]
      | inr new_l ↦ elim (came_from m x at_m) [
        | inl old_m ↦ fresh m (subst (λ y. Contains (items m) y) new_l.1 old_m)
        | inr new_m ↦ ne (new_l.0 ∙ sym new_m.0)
      ]
    ]

    -- items stay where they were
    stays : (m x : ℕ) → Contains (items m) x → Contains (later m) x
    stays m x among = elim (cases_eq m p) [
      | inl e ↦ subst (λ xs. Contains xs x) (sym (ap later e ∙ later_here)) (Contains-append_left (items p) (item ∷ []) x (subst (λ q. Contains (items q) x) e among))
      | inr ne ↦ subst (λ xs. Contains xs x) (sym (later_other m ne)) among
    ]

    placed_later : (x : ℕ) → x < length behind' → get_or behind' x END ≢ ABSENT → (m : ℕ) × (m < LEVELS) × Contains (later m) x
    placed_later x less some = elim (cases_eq x item) [
      | inl e ↦ (p, in_levels, subst (λ y. Contains (later p) y) (sym e) (subst (λ xs. Contains xs item) (sym later_here) (Contains-push (items p) item)))
      | inr ne ↦
          let was = linked.placed x (omega (arith, less, behind_long)) (absent_stay x ne some) in
          (was.0, was.1, stays was.0 x was.2)
    ]

    none_later : (m : ℕ) → m < lowest' → get_or firsts' m END ≡ END
    none_later m less = firsts_other m (λ e. absurd (omega (arith, less, e, low))) ∙ linked.none_below m (omega (arith, less, lower))

    pub are_pushed : AreLinked later firsts' (set lasts p item) behind' lowest'
    are_pushed = record {
      firsts_are = firsts_long;
      lasts_are = length-set lasts p item ∙ linked.lasts_are;
      few = omega (arith, behind_long, linked.few);
      linked = linked_later;
      ended = ended_later;
      apart = apart_later;
      placed = placed_later;
      low = omega (arith, low, in_levels);
      none_below = none_later;
    }

    pub is_pushed : IsLinked firsts' (set lasts p item) behind' lowest'
    is_pushed = relinked later firsts' (set lasts p item) behind' lowest' are_pushed

    pub pairs_pushed : IsPut (level_of p) item (pairs_of firsts behind) (pairs_of firsts' behind')
    pairs_pushed =
        subst (λ new. IsPut (level_of p) item (pairs_of firsts behind) new) (sym (seen_as later firsts' (set lasts p item) behind' lowest' are_pushed))
        (subst (λ old. IsPut (level_of p) item old (pairs_from later 0 LEVELS)) (sym (seen_as items firsts lasts behind lowest linked))
        (put_pair items later p LEVELS item later_other later_here in_levels))

-- the last of a list is one of it
contains_last : (x : ℕ) (xs : List ℕ) → Contains (x ∷ xs) (last_or x xs)
contains_last x [] = (0, omega arith, refl)
contains_last x (y ∷ ys) = Contains-append_right (x ∷ []) (y ∷ ys) (last_or y ys) (contains_last y ys)

-- what a push leaves, and what is seen of it
pub record ArePushed (firsts lasts behind : List ℕ) (p item : ℕ) (firsts' behind' : List ℕ) (lowest' : ℕ) : Type 0 where
  pub linked : IsLinked firsts' (set lasts p item) behind' lowest'
  pub pairs : IsPut (level_of p) item (pairs_of firsts behind) (pairs_of firsts' behind')

module _ (firsts lasts behind : List ℕ) (lowest p item lowest' : ℕ) (linked : IsLinked firsts lasts behind lowest) (in_levels : p < LEVELS)
    (within : item < length behind) (absent : get_or behind item END ≡ ABSENT) (low : lowest' ≤ p) (lower : lowest' ≤ lowest) where
  items : ℕ → List ℕ
  items = items_at firsts behind

  by : AreLinked items firsts lasts behind lowest
  unfolding items
  by = linked

  -- onto a level that has none
  pub pushed_first : get_or firsts p END ≡ END → ArePushed firsts lasts behind p item (set firsts p item) (set behind item END) lowest'
  pushed_first none =
      let firsts' = set firsts p item in
      let behind' = set behind item END in
      let long : length firsts' ≡ LEVELS = length-set firsts p item ∙ by.firsts_are in
      let same : length behind' ≡ length behind = length-set behind item END in
      let empty : items p ≡ [] = empty_from_end behind (items p) (get_or firsts p END) by.few (by.linked p) none in
      let first_here : get_or firsts' p END ≡ item = get_or-set_same firsts p item END (omega (arith, by.firsts_are, in_levels)) in
      let ends : get_or behind' item END ≡ END = get_or-set_same behind item END END within in
      let alone : IsChain behind' (get_or firsts' p END) (item ∷ []) =
      (first_here, omega (arith, same, within), (λ e. absurd (omega (arith, ends, e))), All-nil (λ y. y ≢ item), ends) in
      let here : IsChain behind' (get_or firsts' p END) (items p ++ item ∷ []) = subst (λ xs. IsChain behind' (get_or firsts' p END) (xs ++ item ∷ [])) (sym empty) alone in
      let firsts_other : (m : ℕ) → m ≢ p → get_or firsts' m END ≡ get_or firsts m END = λ m ne. get_or-set_other firsts p m item END ne in
      let other : (m : ℕ) → m ≢ p → IsChain behind' (get_or firsts m END) (items m) =
      λ m ne. IsChain-set behind item END (items m) (get_or firsts m END) (by.linked m) (not_among items firsts lasts behind lowest by p in_levels item m absent) in
      let stay : (x : ℕ) → x ≢ item → get_or behind' x END ≢ ABSENT → get_or behind x END ≢ ABSENT = λ x ne some e. some (get_or-set_other behind item x END END ne ∙ e) in
      record {
        linked = is_pushed items firsts lasts behind lowest by p in_levels item within absent firsts' behind' lowest' long same low lower firsts_other here other stay;
        pairs = pairs_pushed items firsts lasts behind lowest by p in_levels item within absent firsts' behind' lowest' long same low lower firsts_other here other stay;
      }

  -- a list that ends as it does where nothing comes has nothing, else its last item
  behind_last : (xs : List ℕ) (at last : ℕ) → IsChain behind at xs → at ≢ END → last_or last xs ≡ last → length behind ≤ MAX_CELLS →
      IsChain (set (set behind last item) item END) at (xs ++ item ∷ [])
  behind_last [] at last chained some ended few = absurd (some chained)
  behind_last (x ∷ xs) at last chained some ended few = IsChain-push behind last item within few absent x xs at chained ended

  last_held : (xs : List ℕ) (at last : ℕ) → IsChain behind at xs → at ≢ END → last_or last xs ≡ last → Contains xs last
  last_held [] at last chained some ended = absurd (some chained)
  last_held (x ∷ xs) at last chained some ended = subst (λ y. Contains (x ∷ xs) y) ended (contains_last x xs)

  -- the last of a level that has one is one of the cells
  pub last_within : get_or firsts p END ≢ END → get_or lasts p END < length behind
  last_within some = (has_link items firsts lasts behind lowest p (get_or lasts p END) by (last_held (items p) (get_or firsts p END) (get_or lasts p END) (by.linked p) some (by.ended p))).0

  -- after the last of a level
  pub pushed_behind : get_or firsts p END ≢ END → ArePushed firsts lasts behind p item firsts (set (set behind (get_or lasts p END) item) item END) lowest'
  pushed_behind some =
      let last = get_or lasts p END in
      let behind' = set (set behind last item) item END in
      let same : length behind' ≡ length behind = length-set (set behind last item) item END ∙ length-set behind last item in
      let here : IsChain behind' (get_or firsts p END) (items p ++ item ∷ []) = behind_last (items p) (get_or firsts p END) last (by.linked p) some (by.ended p) by.few in
      let is_held : Contains (items p) last = last_held (items p) (get_or firsts p END) last (by.linked p) some (by.ended p) in
      let firsts_other : (m : ℕ) → m ≢ p → get_or firsts m END ≡ get_or firsts m END = λ m ne. refl in
      let other : (m : ℕ) → m ≢ p → IsChain behind' (get_or firsts m END) (items m) =
      λ m ne. IsChain-set (set behind last item) item END (items m) (get_or firsts m END)
      (IsChain-set behind last item (items m) (get_or firsts m END) (by.linked m) (all_differ (items m) last (λ among. by.apart m p ne last among is_held)))
      (not_among items firsts lasts behind lowest by p in_levels item m absent) in
      let link : get_or behind last END ≢ ABSENT = (has_link items firsts lasts behind lowest p last by is_held).1 in
      let stay : (x : ℕ) → x ≢ item → get_or behind' x END ≢ ABSENT → get_or behind x END ≢ ABSENT =
      λ x ne still. elim (cases_eq x last) [
        | inl e ↦ subst (λ y. get_or behind y END ≢ ABSENT) (sym e) link
        | inr other' ↦ λ gone. still (get_or-set_other (set behind last item) item x END END ne ∙ get_or-set_other behind last x item END other' ∙ gone)
      ] in
      record {
        linked = is_pushed items firsts lasts behind lowest by p in_levels item within absent firsts behind' lowest' by.firsts_are same low lower firsts_other here other stay;
        pairs = pairs_pushed items firsts lasts behind lowest by p in_levels item within absent firsts behind' lowest' by.firsts_are same low lower firsts_other here other stay;
      }

-- what the fields are after a push onto a queue that is seen as w
pub record IsAfterPush (w : Waiting) (level : ℤ) (lasts : List ℕ) (lowest' p item : ℕ) (firsts' behind' : List ℕ) : Type 0 where
  pub linked : IsLinked firsts' (set lasts p item) behind' lowest'
  pub cells : length behind' ≡ w.cells
  pub pairs : IsPut level item w.pairs (pairs_of firsts' behind')

module _ (firsts lasts behind : List ℕ) (lowest p item lowest' : ℕ) (w : Waiting) (level : ℤ) (linked : IsLinked firsts lasts behind lowest) (in_levels : p < LEVELS)
    (view_is : record { cells = length behind; pairs = pairs_of firsts behind } ≡ w) (is_cell : item < w.cells) (not_held : Holds w item → ⊥)
    (level_is : level_of p ≡ level) (low : lowest' ≤ p) (lower : lowest' ≤ lowest) where
  below : item < length behind
  below = subst (λ (u : Waiting). item < u.cells) (sym view_is) is_cell

  gone : get_or behind item END ≡ ABSENT
  gone = is_absent firsts lasts behind lowest linked item below (λ held. not_held (subst (λ (u : Waiting). Holds u item) view_is held))

  pub after_first : (first : ℕ) → first ≡ get_or firsts p first → first ≡ END → IsAfterPush w level lasts lowest' p item (set firsts p item) (set behind item END)
  after_first first read is =
      let none : get_or firsts p END ≡ END = sym (get_or_read firsts p first (omega (arith, linked.firsts_are, in_levels)) read END) ∙ is in
      let pushed = pushed_first firsts lasts behind lowest p item lowest' linked in_levels below gone low lower none in
      record {
        linked = pushed.linked;
        cells = length-set behind item END ∙ ap (λ (u : Waiting). u.cells) view_is;
        pairs = subst (λ l. IsPut l item w.pairs (pairs_of (set firsts p item) (set behind item END))) level_is
            (subst (λ (u : Waiting). IsPut (level_of p) item u.pairs (pairs_of (set firsts p item) (set behind item END))) view_is pushed.pairs);
      }

  pub after_behind : (first last : ℕ) → first ≡ get_or firsts p first → (first ≡ END → ⊥) → last ≡ get_or lasts p last → IsAfterPush w level lasts lowest' p item firsts (set (set behind last item) item END)
  after_behind first last read some read_last =
      let there : get_or firsts p END ≢ END = λ e. some (get_or_read firsts p first (omega (arith, linked.firsts_are, in_levels)) read END ∙ e) in
      let same : last ≡ get_or lasts p END = get_or_read lasts p last (omega (arith, linked.lasts_are, in_levels)) read_last END in
      let pushed = pushed_behind firsts lasts behind lowest p item lowest' linked in_levels below gone low lower there in
      subst (λ l. IsAfterPush w level lasts lowest' p item firsts (set (set behind l item) item END)) (sym same) (record {
        linked = pushed.linked;
        cells = length-set (set behind (get_or lasts p END) item) item END ∙ length-set behind (get_or lasts p END) item ∙ ap (λ (u : Waiting). u.cells) view_is;
        pairs = subst (λ l. IsPut l item w.pairs (pairs_of firsts (set (set behind (get_or lasts p END) item) item END))) level_is
            (subst (λ (u : Waiting). IsPut (level_of p) item u.pairs (pairs_of firsts (set (set behind (get_or lasts p END) item) item END))) view_is pushed.pairs);
      })

  -- the link of the last item of a level that has one can be written
  pub last_below : (first last : ℕ) → first ≡ get_or firsts p first → (first ≡ END → ⊥) → last ≡ get_or lasts p last → last < length behind
  last_below first last read some read_last =
      let there : get_or firsts p END ≢ END = λ e. some (get_or_read firsts p first (omega (arith, linked.firsts_are, in_levels)) read END ∙ e) in
      let same : last ≡ get_or lasts p END = get_or_read lasts p last (omega (arith, linked.lasts_are, in_levels)) read_last END in
      subst (λ l. l < length behind) (sym same) (last_within firsts lasts behind lowest p item lowest' linked in_levels below gone low lower there)
