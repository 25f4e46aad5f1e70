-- What a push and a pop leave of the stacks of all levels.
use Rattle.drain_flood.proofs.Names.{◌≡◌, ◌≢◌, ℕ, zero, suc, ◌<◌, ◌≤◌, ◌+◌, ℤ, ◌≤ℤ◌, List, [], ◌∷◌, ◌++◌, map, length, set, get_or, Result, Ok, Err, OnErr, refl, sym, ap, ◌∙◌, subst, inl, inr, arith, get_or-set_other, get_or-set_same, Vec, Global, All, IsPermutation, cases_eq, cases_lt, ints, map-set, length-map, get_or-map, All-nil, All-append, All-get_or, All-map, IsPermutation-middle, IsPermutation-sym, LEVELS, IsPut, level_of, pairs_at, pairs_from, stack_at, AreStacks}
use Rattle.std.proofs.Common.{length-set}
use Rattle.drain_flood.specs.Stacks.{stacked}
use Rattle.drain_flood.proofs.PairLemmas.{at_level, no_pairs, put_pair}

-- the stack at a place is the one that was read there
pub stack_read : (stacks : List (Vec ℕ Global)) (p : ℕ) (v : Vec ℕ Global) → p < length stacks → v ≡ get_or stacks p v → stack_at stacks p ≡ v.items
stack_read stacks p v within is =
    let items = λ (x : Vec ℕ Global). x.items in
    get_or-map items stacks p v [] within ∙ sym (ap items is)

no_item : (xs : List ℕ) → length xs ≡ 0 → xs ≡ []
no_item [] none = refl
no_item (x ∷ xs) none = absurd (omega (arith, none))

-- new stacks have no item
pub no_items : (stacks : List (Vec ℕ Global)) → length stacks ≡ LEVELS → All (λ (v : Vec ℕ Global). v.items ≡ []) stacks → AreStacks stacks LEVELS
no_items stacks counted empty =
    let items = λ (x : Vec ℕ Global). x.items in
    let all : All (λ (xs : List ℕ). xs ≡ []) (map items stacks) = All-map (λ (xs : List ℕ). xs ≡ []) items stacks empty in
    record {
      counted = counted;
      low = omega arith;
      none_below = λ m less. All-get_or (λ (xs : List ℕ). xs ≡ []) (map items stacks) m [] (omega (arith, length-map stacks items, counted, less)) all;
    }

-- what is kept on a failure, of whatever result it is
pub on_err : {X E : Type 0} (r : Result X E) (P : Type 0) → P → OnErr r P
on_err (Ok x) P holds = tt
on_err (Err e) P holds = holds

-- no pair is lower than a place below which no level has an item
none_lower : (items : ℕ → List ℕ) (p n a : ℕ) → ((m : ℕ) → m < p → items m ≡ []) → All (λ (q : ℤ × ℕ). level_of p ≤ℤ q.0) (pairs_from items a n)
none_lower items p zero a none = All-nil (λ (q : ℤ × ℕ). level_of p ≤ℤ q.0)
none_lower items p (suc n) a none =
    All-append (λ (q : ℤ × ℕ). level_of p ≤ℤ q.0) (pairs_at a (items a)) (pairs_from items (a + 1) n)
    (elim (cases_lt a p) [
      | inl low ↦ subst (λ xs. All (λ (q : ℤ × ℕ). level_of p ≤ℤ q.0) (pairs_at a xs)) (sym (none a low)) (All-nil (λ (q : ℤ × ℕ). level_of p ≤ℤ q.0))
      | inr high ↦ at_level (λ q. level_of p ≤ℤ q.0) a (items a) (λ x. omega (arith, ints, high))
    ])
    (none_lower items p n (a + 1) none)

-- what was put into a list may stand in front of it
in_front : (level : ℤ) (item : ℕ) (old new : List (ℤ × ℕ)) → IsPut level item old new → IsPermutation new ((level, item) ∷ old)
in_front level item old new put =
    subst (λ xs. IsPermutation xs ((level, item) ∷ old)) (sym put.new_are)
    (subst (λ xs. IsPermutation (put.before ++ (level, item) ∷ put.after) ((level, item) ∷ xs)) (sym put.old_are) (IsPermutation-middle put.before (level, item) put.after))

module _ (stacks : List (Vec ℕ Global)) (lowest : ℕ) (are : AreStacks stacks lowest) where
  -- the lowest level may be passed if it has no item
  pub passed : (p : ℕ) → p ≤ LEVELS → ((m : ℕ) → lowest ≤ m → m < p → length (stack_at stacks m) ≡ 0) → AreStacks stacks p
  passed p most none = record {
    counted = are.counted;
    low = most;
    none_below = λ m less. elim (cases_lt m lowest) [
      | inl below ↦ are.none_below m below
      | inr above ↦ no_item (stack_at stacks m) (none m above less)
    ];
  }

  -- if no level has an item, there is no pair
  pub none_stacked : lowest ≡ LEVELS → stacked stacks ≡ []
  unfolding stacked
  none_stacked at_end = no_pairs (stack_at stacks) LEVELS 0 (λ m less. are.none_below m (omega (arith, at_end, less)))

  -- one stack is another now
  module _ (p : ℕ) (within : p < LEVELS) (v : Vec ℕ Global) where
    here : stack_at (set stacks p v) p ≡ v.items
    here =
        let items = λ (x : Vec ℕ Global). x.items in
        ap (λ (xs : List (List ℕ)). get_or xs p []) (map-set items stacks p v)
        ∙ get_or-set_same (map items stacks) p v.items [] (omega (arith, length-map stacks items, are.counted, within))

    other : (m : ℕ) → m ≢ p → stack_at (set stacks p v) m ≡ stack_at stacks m
    other m ne =
        let items = λ (x : Vec ℕ Global). x.items in
        ap (λ (xs : List (List ℕ)). get_or xs m []) (map-set items stacks p v) ∙ get_or-set_other (map items stacks) p m v.items [] ne

    -- the lowest level with an item may be lower, down to the one whose stack changed
    pub are_stacks : (low : ℕ) → low ≤ p → low ≤ lowest → AreStacks (set stacks p v) low
    are_stacks low not_above lower = record {
      counted = length-set stacks p v ∙ are.counted;
      low = omega (arith, not_above, within);
      none_below = λ m less. other m (λ e. absurd (omega (arith, e, less, not_above))) ∙ are.none_below m (omega (arith, less, lower));
    }

    -- the same items, in memory that may have moved
    pub same_stacked : stack_at stacks p ≡ v.items → stacked (set stacks p v) ≡ stacked stacks
    unfolding stacked
    same_stacked same = ap (λ items. pairs_from items 0 LEVELS) (λ i m. each m i)
      where
        each : (m : ℕ) → stack_at (set stacks p v) m ≡ stack_at stacks m
        each m = elim (cases_eq m p) [
          | inl e ↦ subst (λ q. stack_at (set stacks p v) q ≡ stack_at stacks q) (sym e) (here ∙ sym same)
          | inr ne ↦ other m ne
        ]

    pub same_stacks : stack_at stacks p ≡ v.items → AreStacks (set stacks p v) lowest
    same_stacks same = record {
      counted = length-set stacks p v ∙ are.counted;
      low = are.low;
      none_below = λ m less. elim (cases_eq m p) [
        | inl e ↦ subst (λ q. stack_at (set stacks p v) q ≡ []) (sym e) (here ∙ sym same ∙ are.none_below p (subst (λ q. q < lowest) e less))
        | inr ne ↦ other m ne ∙ are.none_below m less
      ];
    }

    pub pushed : (item : ℕ) → v.items ≡ stack_at stacks p ++ item ∷ [] → IsPermutation ((level_of p, item) ∷ stacked stacks) (stacked (set stacks p v))
    unfolding stacked
    pushed item more =
        IsPermutation-sym (pairs_from (stack_at (set stacks p v)) 0 LEVELS) ((level_of p, item) ∷ pairs_from (stack_at stacks) 0 LEVELS)
        (in_front (level_of p) item _ _ (put_pair (stack_at stacks) (stack_at (set stacks p v)) p LEVELS item other (here ∙ more) within))

    pub popped : (item : ℕ) → stack_at stacks p ≡ v.items ++ item ∷ [] → IsPermutation (stacked stacks) ((level_of p, item) ∷ stacked (set stacks p v))
    unfolding stacked
    popped item less =
        in_front (level_of p) item _ _
        (put_pair (stack_at (set stacks p v)) (stack_at stacks) p LEVELS item (λ m ne. sym (other m ne)) (less ∙ ap (λ xs. xs ++ item ∷ []) (sym here)) within)

    -- no pair that is left is lower than the lowest level
    pub none_left : lowest ≡ p → All (λ (q : ℤ × ℕ). level_of p ≤ℤ q.0) (stacked (set stacks p v))
    unfolding stacked
    none_left is = none_lower (stack_at (set stacks p v)) p LEVELS 0 (λ m less. other m (λ e. absurd (omega (arith, e, less))) ∙ are.none_below m (omega (arith, is, less)))
