-- What the pairs of all levels are when the items of one level change.
use Rattle.drain_flood.proofs.Names.{◌≡◌, ◌≢◌, ℕ, zero, suc, ◌+◌, ◌<◌, ◌≤◌, ℤ, ◌≤ℤ◌, ◌<ℤ◌, List, [], ◌∷◌, ◌++◌, length, get_or, Contains, refl, sym, ap, ◌∙◌, subst, inl, inr, arith, append_assoc, All, cases_eq, ints, map_push, get_or-map, length-map, All-nil, All-append, All-map, All-weaker, Contains-append_left, Contains-append_right, Contains-append_cases, IsPut, level_of, pairs_at, pairs_from}

-- a level at a lower place is lower
rises : (l m : ℕ) → l < m → level_of l <ℤ level_of m
rises l m less = omega (arith, ints)

-- what doesn't change from a place on
same_from : (items later : ℕ → List ℕ) (n a : ℕ) → ((m : ℕ) → a ≤ m → later m ≡ items m) → pairs_from later a n ≡ pairs_from items a n
same_from items later zero a same = refl
same_from items later (suc n) a same =
    rw (same a (omega arith)) (ap (λ rest. pairs_at a (items a) ++ rest) (same_from items later n (a + 1) (λ m above. same m (omega arith))))

-- pairs of one place have its level
pub at_level : (P : ℤ × ℕ → Type 0) (a : ℕ) (xs : List ℕ) → ((x : ℕ) → P (level_of a, x)) → All P (pairs_at a xs)
at_level P a xs each = All-map P (λ item. (level_of a, item)) xs (λ k d less. each (get_or xs k d))

-- pairs of higher places are higher
pub higher_from : (items : ℕ → List ℕ) (p n a : ℕ) → p < a → All (λ q. level_of p <ℤ q.0) (pairs_from items a n)
higher_from items p zero a above = All-nil (λ q. level_of p <ℤ q.0)
higher_from items p (suc n) a above =
    All-append (λ q. level_of p <ℤ q.0) (pairs_at a (items a)) (pairs_from items (a + 1) n)
    (at_level (λ q. level_of p <ℤ q.0) a (items a) (λ x. rises p a above))
    (higher_from items p n (a + 1) (omega arith))

-- the pairs before and after those of one place, which alone changes
pub record AreParted (items later : ℕ → List ℕ) (p a n : ℕ) : Type 0 where
  pub before : List (ℤ × ℕ)
  pub after : List (ℤ × ℕ)
  pub old_are : pairs_from items a n ≡ before ++ (pairs_at p (items p) ++ after)
  pub new_are : pairs_from later a n ≡ before ++ (pairs_at p (later p) ++ after)
  pub lower : All (λ q. q.0 <ℤ level_of p) before
  pub higher : All (λ q. level_of p <ℤ q.0) after

parted_here : (items later : ℕ → List ℕ) (n a : ℕ) → ((m : ℕ) → m ≢ a → later m ≡ items m) → AreParted items later a a (suc n)
parted_here items later n a same = record {
  before = [];
  after = pairs_from items (a + 1) n;
  old_are = refl;
  new_are = ap (λ rest. pairs_at a (later a) ++ rest) (same_from items later n (a + 1) (λ m above. same m (λ e. absurd (omega arith))));
  lower = All-nil (λ q. q.0 <ℤ level_of a);
  higher = higher_from items a n (a + 1) (omega arith);
}

pub parted : (items later : ℕ → List ℕ) (p n a : ℕ) → ((m : ℕ) → m ≢ p → later m ≡ items m) → a ≤ p → p < a + n → AreParted items later p a n
parted items later p zero a same low high = absurd (omega arith)
parted items later p (suc n) a same low high = elim (cases_eq a p) [
  | inl e ↦ subst (λ q. AreParted items later q a (suc n)) e (parted_here items later n a (λ m ne. same m (λ e'. ne (e' ∙ sym e))))
  | inr ne ↦
      let rest = parted items later p n (a + 1) same (omega arith) (omega arith) in
      record {
        before = pairs_at a (items a) ++ rest.before;
        after = rest.after;
        old_are = ap (λ r. pairs_at a (items a) ++ r) rest.old_are ∙ sym (append_assoc (pairs_at a (items a)) rest.before (pairs_at p (items p) ++ rest.after));
        new_are =
            ap (λ xs. pairs_at a xs ++ pairs_from later (a + 1) n) (same a ne)
            ∙ ap (λ r. pairs_at a (items a) ++ r) rest.new_are
            ∙ sym (append_assoc (pairs_at a (items a)) rest.before (pairs_at p (later p) ++ rest.after));
        lower = All-append (λ q. q.0 <ℤ level_of p) (pairs_at a (items a)) rest.before (at_level (λ q. q.0 <ℤ level_of p) a (items a) (λ x. rises a p (omega arith))) rest.lower;
        higher = rest.higher;
      }
]

less_or_equal : (x y : ℤ) → x <ℤ y → x ≤ℤ y
less_or_equal x y less = omega (arith, ints)

-- one more item at the end of a level is one more pair after the last of its level or a lower one
pub put_pair : (items later : ℕ → List ℕ) (p n item : ℕ) → ((m : ℕ) → m ≢ p → later m ≡ items m) → later p ≡ items p ++ item ∷ [] → p < n →
    IsPut (level_of p) item (pairs_from items 0 n) (pairs_from later 0 n)
put_pair items later p n item same more within =
    let parts = parted items later p n 0 same (omega arith) (omega arith) in
    record {
      before = parts.before ++ pairs_at p (items p);
      after = parts.after;
      old_are = parts.old_are ∙ sym (append_assoc parts.before (pairs_at p (items p)) parts.after);
      new_are =
          parts.new_are
          ∙ ap (λ xs. parts.before ++ (pairs_at p xs ++ parts.after)) more
          ∙ ap (λ xs. parts.before ++ (xs ++ parts.after)) (map_push (λ i. (level_of p, i)) (items p) item)
          ∙ ap (λ xs. parts.before ++ xs) (append_assoc (pairs_at p (items p)) ((level_of p, item) ∷ []) parts.after)
          ∙ sym (append_assoc parts.before (pairs_at p (items p)) ((level_of p, item) ∷ parts.after));
      not_higher =
          All-append (λ q. q.0 ≤ℤ level_of p) parts.before (pairs_at p (items p))
          (All-weaker (λ q. q.0 <ℤ level_of p) (λ q. q.0 ≤ℤ level_of p) (λ q less. less_or_equal q.0 (level_of p) less) parts.before parts.lower)
          (at_level (λ q. q.0 ≤ℤ level_of p) p (items p) (λ x. omega (arith, ints)));
      higher = parts.higher;
    }

-- one item less at the front of the lowest level that has one is the first pair less
pub first_pair : (items later : ℕ → List ℕ) (p x n a : ℕ) → ((m : ℕ) → m ≢ p → later m ≡ items m) → ((m : ℕ) → m < p → items m ≡ []) → items p ≡ x ∷ later p →
    a ≤ p → p < a + n → pairs_from items a n ≡ (level_of p, x) ∷ pairs_from later a n
first_pair items later p x zero a same none one low high = absurd (omega arith)
first_pair items later p x (suc n) a same none one low high = elim (cases_eq a p) [
  | inl e ↦
      let first : items a ≡ x ∷ later a = ap items e ∙ one ∙ ap (λ m. x ∷ later m) (sym e) in
      let rest : pairs_from later (a + 1) n ≡ pairs_from items (a + 1) n = same_from items later n (a + 1) (λ m above. same m (λ e'. absurd (omega arith))) in
      ap (λ xs. pairs_at a xs ++ pairs_from items (a + 1) n) first
      ∙ ap (λ r. (level_of a, x) ∷ (pairs_at a (later a) ++ r)) (sym rest)
      ∙ ap (λ m. (level_of m, x) ∷ (pairs_at a (later a) ++ pairs_from later (a + 1) n)) e
  | inr ne ↦
      let rest = first_pair items later p x n (a + 1) same none one (omega arith) (omega arith) in
      let empty : items a ≡ [] = none a (omega arith) in
      ap (λ xs. pairs_at a xs ++ pairs_from items (a + 1) n) empty
      ∙ rest
      ∙ ap (λ xs. (level_of p, x) ∷ (pairs_at a xs ++ pairs_from later (a + 1) n)) (sym (same a ne ∙ empty))
]

-- no items, no pairs
pub no_pairs : (items : ℕ → List ℕ) (n a : ℕ) → ((m : ℕ) → m < a + n → items m ≡ []) → pairs_from items a n ≡ []
no_pairs items zero a none = refl
no_pairs items (suc n) a none =
    ap (λ xs. pairs_at a xs ++ pairs_from items (a + 1) n) (none a (omega arith)) ∙ no_pairs items n (a + 1) (λ m less. none m (omega arith))

-- an item of a level is in a pair of it
among_pairs : (a x : ℕ) (xs : List ℕ) → Contains xs x → Contains (pairs_at a xs) (level_of a, x)
among_pairs a x xs (k, less, is) =
    let long : length (pairs_at a xs) ≡ length xs = length-map {B = ℤ × ℕ} xs (λ item. (level_of a, item)) in
    (k, omega (arith, long, less), get_or-map (λ item. (level_of a, item)) xs k x (level_of a, x) less ∙ ap (λ item. (level_of a, item)) is)

pub pair_of_item : (items : ℕ → List ℕ) (p x n a : ℕ) → Contains (items p) x → a ≤ p → p < a + n → Contains (pairs_from items a n) (level_of p, x)
pair_of_item items p x zero a among low high = absurd (omega arith)
pair_of_item items p x (suc n) a among low high = elim (cases_eq a p) [
  | inl e ↦
      Contains-append_left (pairs_at a (items a)) (pairs_from items (a + 1) n) (level_of p, x)
      (subst (λ m. Contains (pairs_at m (items m)) (level_of p, x)) (sym e) (among_pairs p x (items p) among))
  | inr ne ↦
      Contains-append_right (pairs_at a (items a)) (pairs_from items (a + 1) n) (level_of p, x)
      (pair_of_item items p x n (a + 1) among (omega arith) (omega arith))
]

-- the item of a pair is one of its level
item_among : (a : ℕ) (q : ℤ × ℕ) (xs : List ℕ) → Contains (pairs_at a xs) q → Contains xs q.1
item_among a q xs (k, less, is) =
    let long : length (pairs_at a xs) ≡ length xs = length-map {B = ℤ × ℕ} xs (λ item. (level_of a, item)) in
    let within : k < length xs = omega (arith, long, less) in
    (k, within, ap (λ r. r.1) (sym (get_or-map (λ item. (level_of a, item)) xs k q.1 q within) ∙ is))

pub item_of_pair : (items : ℕ → List ℕ) (q : ℤ × ℕ) (n a : ℕ) → Contains (pairs_from items a n) q → (p : ℕ) × Contains (items p) q.1
item_of_pair items q zero a (k, less, is) = absurd (omega arith)
item_of_pair items q (suc n) a among = elim (Contains-append_cases (pairs_at a (items a)) (pairs_from items (a + 1) n) q among) [
  | inl here ↦ (a, item_among a q (items a) here)
  | inr later ↦ item_of_pair items q n (a + 1) later
]
