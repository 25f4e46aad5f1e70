-- What the test of surface and direction in 16 bits gives: of minima that are at most con, and squares of near drops.
use Rattle.drain_kernel.proofs.Names.{◌≡◌, ℕ, ◌+◌, ◌-◌, ◌*◌, ◌%◌, ◌^◌, ◌≤◌, ◌<◌, Bool, true, not, ◌&&◌, ◌||◌, ◌==◌, nat_le, min, max, List, slice_index, inl, inr, refl, sym, ◌∙◌, ap, subst, arith, both_true, and_parts, cases_lt, le-leb, leb-true, or_cases, or_left, or_right, Decides-eqb, Decides-ltb, mul-le, LeadsAcross, LeadsStraight, least_across_in, least_straight_in, named_in}
use Rattle.drain_kernel.specs.Tests.{falls_steepest, keeps_direction, keeps_surface, steps_along}

-- the square of a near drop fits 16 bits
pub near_square : (drop : ℕ) → drop ≤ 255 → (drop * drop) % 2 ^ 16 ≡ drop * drop
near_square drop near =
    let fits : drop * drop ≤ 255 * 255 = mul-le drop drop 255 255 near near in
    omega (arith, fits)

-- one of four codes, with its number
one_of_four : (code number i j k l a b c d : ℕ) (P : ℕ → Type 0) →
    (((((code == i) && (a == number)) || ((code == j) && (b == number))) || ((code == k) && (c == number))) || ((code == l) && (d == number))) ≡ true →
    (a ≡ number → P i) → (b ≡ number → P j) → (c ≡ number → P k) → (d ≡ number → P l) → P code
one_of_four code number i j k l a b c d P h at_i at_j at_k at_l =
    elim (or_cases _ _ h) [
      | inl three ↦ (elim (or_cases _ _ three) [
        | inl two ↦ (elim (or_cases _ _ two) [ inl is ↦ at i a at_i is | inr is ↦ at j b at_j is ])
        | inr is ↦ at k c at_k is
      ])
      | inr is ↦ at l d at_l is
    ]
  where
    at : (i a : ℕ) → (a ≡ number → P i) → ((code == i) && (a == number)) ≡ true → P code
    at i a gives is =
        let parts = and_parts _ _ is in
        subst P (sym ((Decides-eqb code i).0 parts.0)) (gives ((Decides-eqb a number).0 parts.1))

pub leads_straight : (code number : ℕ) (xs : List ℕ) →
    (((((code == 1) && (slice_index xs 0 == number)) || ((code == 4) && (slice_index xs 2 == number))) ||
    ((code == 16) && (slice_index xs 4 == number))) || ((code == 64) && (slice_index xs 6 == number))) ≡ true → LeadsStraight code xs number
leads_straight code number xs h = one_of_four code number 1 4 16 64 _ _ _ _ (λ c. LeadsStraight c xs number) h
    (λ is. record { straight = refl; named = is }) (λ is. record { straight = refl; named = is }) (λ is. record { straight = refl; named = is })
    (λ is. record { straight = refl; named = is })

pub leads_across : (code number : ℕ) (xs : List ℕ) →
    (((((code == 2) && (slice_index xs 1 == number)) || ((code == 8) && (slice_index xs 3 == number))) ||
    ((code == 32) && (slice_index xs 5 == number))) || ((code == 128) && (slice_index xs 7 == number))) ≡ true → LeadsAcross code xs number
leads_across code number xs h = one_of_four code number 2 8 32 128 _ _ _ _ (λ c. LeadsAcross c xs number) h
    (λ is. record { direction = refl; not_straight = refl; named = is }) (λ is. record { direction = refl; not_straight = refl; named = is })
    (λ is. record { direction = refl; not_straight = refl; named = is }) (λ is. record { direction = refl; not_straight = refl; named = is })

-- where the greater of the ground and the least number, at most con, is con
pub lies : (height con : ℕ) (cons : List ℕ) → max height (min (min (least_straight_in cons) con) (min (least_across_in cons) con)) ≡ con →
    keeps_surface height con cons ≡ true
unfolding keeps_surface
lies height con cons is = both_true (le-leb height con (not_below height con _ is)) (le-leb con _ (no_higher height con _ _ is))
  where
    not_below : (height con least : ℕ) → max height least ≡ con → height ≤ con
    not_below height con least is = omega (arith, is)

    no_higher : (height con s a : ℕ) → max height (min (min s con) (min a con)) ≡ con → con ≤ max height (min s a)
    no_higher height con s a is = omega (arith, is)

-- a minimum at most con, and the square of the drop to it
square_is : (con low : ℕ) → (con - low) * (con - low) ≡ (con - min low con) * (con - min low con)
square_is con low =
    let is : con - low ≡ con - min low con = omega arith in
    ap (λ d. d * d) is

no_drop : (d : ℕ) → d * d ≤ 0 → d ≡ 0
no_drop d h = elim (cases_lt 0 d) [
  | inl some ↦ (
      let less : 1 * 1 ≤ d * d = mul-le 1 1 d d some some in
      absurd (omega (arith, less, h)))
  | inr none ↦ omega (arith, none)
]

no_more : (d : ℕ) → d ≡ 0 → d * d ≡ 0
no_more d is = ap (λ e. e * e) is

is_least : (con low : ℕ) → con - min low con ≡ 0 → con ≤ low
is_least con low h = omega (arith, h)

no_fall : (con low : ℕ) → con ≤ low → con - min low con ≡ 0
no_fall con low h = omega (arith, h)

flat : (con code s a : ℕ) (cons : List ℕ) → s ≡ least_straight_in cons → a ≡ least_across_in cons → named_in code cons ≡ con → con ≤ s → con ≤ a →
    steps_along con code cons ≡ true
unfolding steps_along
flat con code s a cons s_is a_is level low_s low_a =
    both_true ((Decides-eqb _ _).1 level) (le-leb con _ (subst (λ x. con ≤ min x (least_across_in cons)) s_is
    (subst (λ y. con ≤ min s y) a_is (at_most_both con s a low_s low_a))))
  where
    at_most_both : (con s a : ℕ) → con ≤ s → con ≤ a → con ≤ min s a
    at_most_both con s a h k = omega (arith, h, k)

-- the way along a row or a column is the steepest, or leads along a flat
pub straight_way : (con code : ℕ) (cons : List ℕ) → LeadsStraight code cons (min (least_straight_in cons) con) →
    (con - min (least_across_in cons) con) * (con - min (least_across_in cons) con) ≤
    (con - min (least_straight_in cons) con) * (con - min (least_straight_in cons) con) +
    (con - min (least_straight_in cons) con) * (con - min (least_straight_in cons) con) →
    keeps_direction con code cons ≡ true
unfolding keeps_direction falls_steepest
straight_way con code cons leads least =
    let s = least_straight_in cons in
    let a = least_across_in cons in
    let along = square_is con s in
    let aslant = square_is con a in
    both_true (or_left _ _ leads.straight) (elim (cases_lt s con) [
      | inl falls ↦ (
          let next : named_in code cons ≡ s = leads.named ∙ low_is s con falls in
          or_left _ _ (both_true ((Decides-ltb _ _).1 (subst (λ x. x < con) (sym next) falls))
          (or_left _ _ (both_true (both_true leads.straight ((Decides-eqb _ _).1 next)) (le-leb _ _ (at_most _ _ _ _ along aslant least))))))
      | inr level ↦ (
          let none = no_fall con s level in
          let zero = no_drop (con - min a con) (omega (arith, least, no_more (con - min s con) none)) in
          or_right _ _ (flat con code s a cons refl refl (leads.named ∙ high_is s con level) level (is_least con a zero)))
    ])
  where
    low_is : (s con : ℕ) → s < con → min s con ≡ s
    low_is s con h = omega (arith, h)

    high_is : (s con : ℕ) → con ≤ s → min s con ≡ con
    high_is s con h = omega (arith, h)

    at_most : (x y p q : ℕ) → x ≡ p → y ≡ q → q ≤ p + p → y ≤ 2 * x
    at_most x y p q is_x is_y h = omega (arith, is_x, is_y, h)

-- so is the way across a corner
pub across_way : (con code : ℕ) (cons : List ℕ) → LeadsAcross code cons (min (least_across_in cons) con) →
    (con - min (least_straight_in cons) con) * (con - min (least_straight_in cons) con) +
    (con - min (least_straight_in cons) con) * (con - min (least_straight_in cons) con) ≤
    (con - min (least_across_in cons) con) * (con - min (least_across_in cons) con) →
    keeps_direction con code cons ≡ true
unfolding keeps_direction falls_steepest
across_way con code cons leads least =
    let s = least_straight_in cons in
    let a = least_across_in cons in
    let along = square_is con s in
    let aslant = square_is con a in
    both_true leads.direction (elim (cases_lt a con) [
      | inl falls ↦ (
          let next : named_in code cons ≡ a = leads.named ∙ low_is a con falls in
          or_left _ _ (both_true ((Decides-ltb _ _).1 (subst (λ x. x < con) (sym next) falls))
          (or_right _ _ (both_true (both_true (ap not leads.not_straight) ((Decides-eqb _ _).1 next)) (le-leb _ _ (at_most _ _ _ _ along aslant least))))))
      | inr level ↦ (
          let none = no_fall con a level in
          let zero = no_drop (con - min s con) (omega (arith, least, no_more (con - min a con) none)) in
          or_right _ _ (flat con code s a cons refl refl (leads.named ∙ high_is a con level) (is_least con s zero) level))
    ])
  where
    low_is : (s con : ℕ) → s < con → min s con ≡ s
    low_is s con h = omega (arith, h)

    high_is : (s con : ℕ) → con ≤ s → min s con ≡ con
    high_is s con h = omega (arith, h)

    at_most : (x y p q : ℕ) → x ≡ p → y ≡ q → p + p ≤ q → 2 * x ≤ y
    at_most x y p q is_x is_y h = omega (arith, is_x, is_y, h)

-- the same of numbers that are these
pub lies_with : (height con straight s across a low top : ℕ) (cons : List ℕ) → straight ≡ least_straight_in cons → s ≡ min straight con →
    across ≡ least_across_in cons → a ≡ min across con → low ≡ min s a → top ≡ max height low → top ≡ con → keeps_surface height con cons ≡ true
lies_with height con straight s across a low top cons straight_is s_is across_is a_is low_is top_is h =
    lies height con cons (cc)

pub way_with : (con code straight s across a p q twice most : ℕ) (cons : List ℕ) (goes_straight goes_across : Bool) →
    straight ≡ least_straight_in cons → s ≡ min straight con → across ≡ least_across_in cons → a ≡ min across con →
    (con - s ≤ 255 → p ≡ (con - s) * (con - s)) → (con - a ≤ 255 → q ≡ (con - a) * (con - a)) → twice ≡ min (p + p) 65535 →
    most ≡ max (con - s) (con - a) → most ≤ 255 → (goes_straight ≡ true → LeadsStraight code cons s) →
    (goes_across ≡ true → LeadsAcross code cons a) → ((goes_straight && nat_le q twice) || (goes_across && nat_le twice q)) ≡ true →
    keeps_direction con code cons ≡ true
way_with con code straight s across a p q twice most cons goes_straight goes_across straight_is s_is across_is a_is p_is q_is twice_is most_is near leads_s leads_a h =
    let s_least : s ≡ min (least_straight_in cons) con = s_is ∙ ap (λ x. min x con) straight_is in
    let a_least : a ≡ min (least_across_in cons) con = a_is ∙ ap (λ x. min x con) across_is in
    let near_s : con - s ≤ 255 = omega (arith, most_is, near) in
    let near_a : con - a ≤ 255 = omega (arith, most_is, near) in
    let p_square = p_is near_s ∙ ap (λ x. (con - x) * (con - x)) s_least in
    let q_square = q_is near_a ∙ ap (λ x. (con - x) * (con - x)) a_least in
    let q_most : (con - a) * (con - a) ≤ 255 * 255 = mul-le (con - a) (con - a) 255 255 near_a near_a in
    elim (or_cases _ _ h) [
      | inl straight_goes ↦ (
          let parts = and_parts _ _ straight_goes in
          straight_way con code cons (subst (LeadsStraight code cons) s_least (leads_s parts.0))
          (at_most_twice p q twice _ _ p_square q_square twice_is (leb-true q twice parts.1)))
      | inr across_goes ↦ (
          let parts = and_parts _ _ across_goes in
          across_way con code cons (subst (LeadsAcross code cons) a_least (leads_a parts.0))
          (twice_at_most p q twice _ _ _ p_square q_square (q_is near_a) q_most twice_is (leb-true twice q parts.1)))
    ]
  where
    at_most_twice : (p q twice x y : ℕ) → p ≡ x → q ≡ y → twice ≡ min (p + p) 65535 → q ≤ twice → y ≤ x + x
    at_most_twice p q twice x y is_x is_y twice_is h = omega (arith, is_x, is_y, twice_is, h)

    twice_at_most : (p q twice x y z : ℕ) → p ≡ x → q ≡ y → q ≡ z → z ≤ 255 * 255 → twice ≡ min (p + p) 65535 → twice ≤ q → x + x ≤ y
    twice_at_most p q twice x y z is_x is_y is_z most twice_is h = omega (arith, is_x, is_y, is_z, most, twice_is, h)
