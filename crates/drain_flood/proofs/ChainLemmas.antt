-- Chains of items, and what a write to one item's link does to them.
use Rattle.drain_flood.proofs.Names.{◌≡◌, ◌≢◌, ℕ, zero, suc, ◌<◌, ◌≤◌, true, false, cond, ◌==◌, List, [], ◌∷◌, ◌++◌, length, set, get_or, refl, sym, ap, ◌∙◌, subst, arith, get_or-set_other, get_or-set_same, All, sum_by, le-ltb, lt-ltb, ne_eqb, All-nil, All-cons, All-head, All-tail, All-push, sum_by-set, sum_by-le, ABSENT, END, MAX_CELLS, chain, IsChain, last_or}
use Rattle.std.proofs.Common.{length-set}
use Rattle.drain_flood.specs.Ways.{items_at}

-- a chain is what its first item spells
chain_is : (behind xs : List ℕ) (n at : ℕ) → IsChain behind at xs → length behind ≤ MAX_CELLS → length xs ≤ n → chain behind n at ≡ xs
chain_is behind [] zero at linked few fits = refl
chain_is behind [] (suc n) at linked few fits = rw (le-ltb at (length behind) (omega arith)) refl
chain_is behind (x ∷ xs) zero at linked few fits = absurd (omega arith)
chain_is behind (x ∷ xs) (suc n) at linked few fits =
    rw (linked.0, lt-ltb x (length behind) linked.1) (ap (λ rest. x ∷ rest) (chain_is behind xs n (get_or behind x END) linked.4 few (omega arith)))

-- a write to an item that is none of the chain's leaves it
pub IsChain-set : (behind : List ℕ) (i v : ℕ) (xs : List ℕ) (at : ℕ) → IsChain behind at xs → All (λ y. y ≢ i) xs → IsChain (set behind i v) at xs
IsChain-set behind i v [] at linked away = linked
IsChain-set behind i v (x ∷ xs) at linked away =
    let other : x ≢ i = All-head (λ y. y ≢ i) x xs away in
    let same : get_or (set behind i v) x END ≡ get_or behind x END = get_or-set_other behind i x v END other in
    let rest = IsChain-set behind i v xs (get_or behind x END) linked.4 (All-tail (λ y. y ≢ i) x xs away) in
    let within : x < length (set behind i v) = omega (arith, linked.1, length-set behind i v) in
    (linked.0, within, (λ e. linked.2 (sym same ∙ e)), linked.3, subst (λ at'. IsChain (set behind i v) at' xs) (sym same) rest)

-- 1 for an item that is held
held : ℕ → ℕ
held v = cond (v == ABSENT) 0 1

held_some : (v : ℕ) → v ≢ ABSENT → held v ≡ 1
unfolding held
held_some v some = rw (ne_eqb v ABSENT some) refl

held_none : held ABSENT ≡ 0
unfolding held
held_none = refl

held_few : (v : ℕ) → held v ≤ 1
unfolding held
held_few v = elim (v == ABSENT) as (λ b. cond b 0 1 ≤ 1) [ true ↦ omega arith | false ↦ omega arith ]

-- a chain has at most as many items as are held
counted : (behind xs : List ℕ) (at : ℕ) → IsChain behind at xs → length xs ≤ sum_by held behind
counted behind [] at linked = omega arith
counted behind (x ∷ xs) at linked =
    let rest = counted (set behind x ABSENT) xs (get_or behind x END) (IsChain-set behind x ABSENT xs (get_or behind x END) linked.4 linked.3) in
    let less = sum_by-set held behind x ABSENT END linked.1 in
    let one = held_some (get_or behind x END) linked.2 in
    omega (arith, rest, less, one, held_none)

fits : (behind xs : List ℕ) (at : ℕ) → IsChain behind at xs → length xs ≤ length behind
fits behind xs at linked =
    let few = sum_by-le held 1 behind (λ k d less. held_few (get_or behind k d)) in
    omega (arith, counted behind xs at linked, few)

-- so the items of a level are those that its chain has
pub items_are : (firsts behind : List ℕ) (place : ℕ) (xs : List ℕ) → length behind ≤ MAX_CELLS → IsChain behind (get_or firsts place END) xs → items_at firsts behind place ≡ xs
unfolding items_at
items_are firsts behind place xs few linked = chain_is behind xs (length behind) (get_or firsts place END) linked few (fits behind xs (get_or firsts place END) linked)

-- every item of a chain is below the cells and held
pub in_chain : (behind xs : List ℕ) (at : ℕ) → IsChain behind at xs → All (λ x. (x < length behind) × (get_or behind x END ≢ ABSENT)) xs
in_chain behind [] at linked = All-nil (λ x. (x < length behind) × (get_or behind x END ≢ ABSENT))
in_chain behind (x ∷ xs) at linked =
    All-cons (λ x. (x < length behind) × (get_or behind x END ≢ ABSENT)) x xs (linked.1, linked.2) (in_chain behind xs (get_or behind x END) linked.4)

-- a chain from the end is empty, and an empty chain is from the end
pub empty_from_end : (behind xs : List ℕ) (at : ℕ) → length behind ≤ MAX_CELLS → IsChain behind at xs → at ≡ END → xs ≡ []
empty_from_end behind [] at few linked is = refl
empty_from_end behind (x ∷ xs) at few linked is = let h = linked.1 in let k = linked.0 in absurd (omega arith)

-- what holds of all holds of the last
last_of_all : (P : ℕ → Type 0) (x : ℕ) (xs : List ℕ) → All P (x ∷ xs) → P (last_or x xs)
last_of_all P x [] each = All-head P x [] each
last_of_all P x (y ∷ ys) each = last_of_all P y ys (All-tail P x (y ∷ ys) each)

-- both writes of a push leave other links
elsewhere : (behind : List ℕ) (last item x : ℕ) → x ≢ last → x ≢ item → get_or (set (set behind last item) item END) x END ≡ get_or behind x END
elsewhere behind last item x not_last not_item =
    get_or-set_other (set behind last item) item x END END not_item ∙ get_or-set_other behind last x item END not_last

module _ (behind : List ℕ) (last item : ℕ) (within : item < length behind) (few : length behind ≤ MAX_CELLS) (absent : get_or behind item END ≡ ABSENT) where
  -- the list after both writes
  lengths : length (set (set behind last item) item END) ≡ length behind
  lengths = length-set (set behind last item) item END ∙ length-set behind last item

  item_ends : get_or (set (set behind last item) item END) item END ≡ END
  item_ends = get_or-set_same (set behind last item) item END END (omega (arith, within, length-set behind last item))

  not_absent : (x : ℕ) → get_or behind x END ≢ ABSENT → x ≢ item
  not_absent x some e = some (ap (λ i. get_or behind i END) e ∙ absent)

  -- an item that was absent, put after the last one
  pub IsChain-push : (x : ℕ) (xs : List ℕ) (at : ℕ) → IsChain behind at (x ∷ xs) → last_or x xs ≡ last → IsChain (set (set behind last item) item END) at (x ∷ (xs ++ item ∷ []))
  IsChain-push x [] at linked is =
      let other : x ≢ item = not_absent x linked.2 in
      let length_last : x < length (set behind last item) = omega (arith, linked.1, length-set behind last item) in
      let here : get_or (set (set behind last item) item END) x END ≡ item =
      get_or-set_other (set behind last item) item x END END other
      ∙ ap (λ i. get_or (set behind i item) x END) (sym is)
      ∙ get_or-set_same behind x item END linked.1 in (
        linked.0,
        omega (arith, linked.1, lengths),
        (λ e. absurd (omega (arith, here, e, within, few))),
        All-cons (λ y. y ≢ x) item [] (λ e. other (sym e)) (All-nil (λ y. y ≢ x)),
        (here, omega (arith, within, lengths), (λ e. absurd (omega (arith, item_ends, e))), All-nil (λ y. y ≢ item), item_ends),
      )
  IsChain-push x (y ∷ ys) at linked is =
      let other : x ≢ item = not_absent x linked.2 in
      let not_last : x ≢ last = λ e. last_of_all (λ z. z ≢ x) y ys linked.3 (is ∙ sym e) in
      let same = elsewhere behind last item x not_last other in
      let rest = IsChain-push y ys (get_or behind x END) linked.4 is in (
        linked.0,
        omega (arith, linked.1, lengths),
        (λ e. linked.2 (sym same ∙ e)),
        All-push (λ z. z ≢ x) (y ∷ ys) item linked.3 (λ e. other (sym e)),
        subst (λ at'. IsChain (set (set behind last item) item END) at' (y ∷ (ys ++ item ∷ []))) (sym same) rest,
      )
