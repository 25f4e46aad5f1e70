-- Sums of capped numbers: below the cap they are those of the numbers.
use Rattle.drain_kernel.proofs.Names.{◌≡◌, ℕ, ◌≤◌, ◌<◌, true, ◌&&◌, ◌||◌, nat_lt, min, List, IsTrue, inl, inr, sym, subst, arith, ◌==◌, ◌∙◌, ap, ◌+◌, Bool, false, slice_index, refl, if◌then◌else◌, and_parts, leb-true, or_cases, or_left, or_right, cases_lt, Decides-ltb, Decides-eqb, EachHasImage, at_most, lower, upper, is_direction_code, least_across_in, least_straight_in, named_in, Slopes, falls_by_fractions, falls_by_heights, falls_down, is_no_steeper_by_fraction, is_no_steeper_by_key, is_unit, is_whole, keeps_way_down, Direction, passed_on, both_true}
use Rattle.drain_kernel.specs.Slopes.{falls_by}
use Rattle.drain_kernel.specs.Tests.{falls_steepest, is_ranked, steps_along, is_ranked_by_halves, adds_up}
use Rattle.drain_kernel.proofs.VouchedNumbers.{named_image}
use Rattle.std.proofs.Math.Bool.{or_assoc}
use Rattle.drain_kernel.proofs.Keys.{same_tests}

-- Ranks that are compared by their capped numbers.

-- a lower capped rank is that of a lower rank
lower_rank : (n rank n2 rank2 : ℕ) → n2 ≡ min n 65535 → rank2 ≡ min rank 65535 → n2 < rank2 → n < rank
lower_rank n rank n2 rank2 is rank_is less = omega (arith, is, rank_is, less)

-- what is ranked by capped ranks is ranked
capped_rank : (con code rank own : ℕ) (cons numbers capped : List ℕ) → own ≡ at_most rank → EachHasImage at_most numbers capped →
    IsTrue (is_ranked con code cons own capped) → IsTrue (is_ranked con code cons rank numbers)
unfolding is_ranked
capped_rank con code rank own cons numbers capped is each h = elim (or_cases _ _ h) [
  | inl falls ↦ or_left _ _ falls
  | inr lower ↦ or_right _ _ ((Decides-ltb _ _).1 (lower_rank _ _ _ _ (named_image at_most code numbers capped each) is ((Decides-ltb _ _).0 lower)))
]

falls_lower : (is_no_steeper : Direction → ℕ → Direction → ℕ → Bool) (con code : ℕ) (cons : List ℕ) → falls_by is_no_steeper con code cons ≡ true →
    nat_lt (named_in code cons) con ≡ true
unfolding falls_by
falls_lower is_no_steeper con code cons h = (and_parts _ _ h).0

next_falls : (bias : ℕ) (s : Slopes) (con code : ℕ) (cons : List ℕ) → falls_down bias s con code cons ≡ true → nat_lt (named_in code cons) con ≡ true
unfolding falls_steepest
next_falls bias s con code cons h = by_tests (is_unit s.spacing) (is_whole s.spacing.kind) h
  where
    by_tests : (unit whole : Bool) →
        (if unit then falls_steepest con code cons else if whole then falls_by_fractions s con code cons else falls_by_heights bias s.spacing con code cons) ≡ true →
        nat_lt (named_in code cons) con ≡ true
    by_tests true whole h = (and_parts _ _ h).0
    by_tests false true h = falls_lower (is_no_steeper_by_fraction s con) con code cons h
    by_tests false false h = falls_lower (is_no_steeper_by_key bias s.spacing con) con code cons h

none_lower : (con code : ℕ) (cons : List ℕ) → steps_along con code cons ≡ true → con ≤ min (least_straight_in cons) (least_across_in cons)
unfolding steps_along
none_lower con code cons h = leb-true _ _ (and_parts _ _ h).1

-- where the rules of the direction hold, a code leads to a lower neighbour if there is one
pub falls_or_ranked : (bias : ℕ) (s : Slopes) (con code rank least next : ℕ) (cons ranks : List ℕ) → least ≡ min (least_straight_in cons) (least_across_in cons) →
    next ≡ named_in code ranks → (nat_lt least con || nat_lt next rank) ≡ true → IsTrue (keeps_way_down bias s con code cons) →
    IsTrue (is_ranked con code cons rank ranks)
unfolding is_ranked
falls_or_ranked bias s con code rank least next cons ranks least_is next_is h keeps =
    let goes = (and_parts (is_direction_code code) (falls_down bias s con code cons || steps_along con code cons) keeps).1 in
    elim (or_cases (falls_down bias s con code cons) (steps_along con code cons) goes) [
      | inl falls ↦ or_left (nat_lt (named_in code cons) con) (nat_lt (named_in code ranks) rank) (next_falls bias s con code cons falls)
      | inr along ↦ (elim (or_cases (nat_lt least con) (nat_lt next rank) h) [
        | inl lower ↦ absurd (not_lower con least _ least_is ((Decides-ltb least con).0 lower) (none_lower con code cons along))
        | inr less ↦ or_right (nat_lt (named_in code cons) con) (nat_lt (named_in code ranks) rank) (subst (λ n. nat_lt n rank ≡ true) next_is less)
      ])
    ]
  where
    not_lower : (con least most : ℕ) → least ≡ most → least < con → con ≤ most → ⊥
    not_lower con least most is lower h = omega (arith, is, lower, h)

-- so of numbers that are these
pub ranked_by_capped : (bias : ℕ) (s : Slopes) (con code own con2 code2 rank : ℕ) (cons cons2 numbers capped : List ℕ) → con2 ≡ con → code2 ≡ code → cons2 ≡ cons →
    own ≡ at_most rank → EachHasImage at_most numbers capped →
    (IsTrue (keeps_way_down bias s con2 code2 cons2) → IsTrue (is_ranked con2 code2 cons2 own capped)) → IsTrue (keeps_way_down bias s con code cons) →
    IsTrue (is_ranked con code cons rank numbers)
ranked_by_capped bias s con code own con2 code2 rank cons cons2 numbers capped con_is code_is cons_is own_is each gives keeps =
    let kept = subst (λ x. IsTrue (keeps_way_down bias s x code2 cons2)) (sym con_is) (subst (λ x. IsTrue (keeps_way_down bias s con x cons2)) (sym code_is)
    (subst (λ x. IsTrue (keeps_way_down bias s con code x)) (sym cons_is) keeps)) in
    capped_rank con code rank own cons numbers capped own_is each (subst (λ x. IsTrue (is_ranked con code x own capped)) cons_is
    (subst (λ x. IsTrue (is_ranked con x cons2 own capped)) code_is (subst (λ x. IsTrue (is_ranked x code2 cons2 own capped)) con_is (gives kept))))

-- Ranks that are compared by their halves.

-- the number with the smaller upper half is smaller; of those with the same, the one with the smaller lower half
less_by_upper : (n rank high2 high : ℕ) → high2 ≡ upper n → high ≡ upper rank → high2 < high → n < rank
less_by_upper n rank high2 high is2 is less = omega (arith, is2, is, less)

less_by_lower : (n rank low2 low high2 high : ℕ) → low2 ≡ lower n → low ≡ lower rank → high2 ≡ upper n → high ≡ upper rank → high2 ≡ high →
    low2 < low → n < rank
less_by_lower n rank low2 low high2 high low2_is low_is high2_is high_is same less = omega (arith, low2_is, low_is, high2_is, high_is, same, less)

-- and no other is
upper_no_less : (n rank high2 high : ℕ) → high2 ≡ upper n → high ≡ upper rank → n < rank → high ≤ high2 → high2 ≡ high
upper_no_less n rank high2 high is2 is less none = omega (arith, is2, is, less, none)

lower_is_less : (n rank low2 low high2 high : ℕ) → low2 ≡ lower n → low ≡ lower rank → high2 ≡ upper n → high ≡ upper rank → high2 ≡ high →
    n < rank → low2 < low
lower_is_less n rank low2 low high2 high low2_is low_is high2_is high_is same less = omega (arith, low2_is, low_is, high2_is, high_is, same, less)

compared : (n rank low2 low high2 high : ℕ) → low2 ≡ lower n → low ≡ lower rank → high2 ≡ upper n → high ≡ upper rank →
    (nat_lt high2 high || (high2 == high && nat_lt low2 low)) ≡ nat_lt n rank
compared n rank low2 low high2 high low2_is low_is high2_is high_is = same_tests _ _
    (λ h. (Decides-ltb n rank).1 (elim (or_cases _ _ h) [
      | inl less ↦ less_by_upper n rank high2 high high2_is high_is ((Decides-ltb _ _).0 less)
      | inr both ↦ (
          let parts = and_parts _ _ both in
          less_by_lower n rank low2 low high2 high low2_is low_is high2_is high_is ((Decides-eqb _ _).0 parts.0) ((Decides-ltb _ _).0 parts.1))
    ]))
    (λ h. let less = (Decides-ltb n rank).0 h in elim (cases_lt high2 high) [
      | inl under ↦ or_left _ _ ((Decides-ltb _ _).1 under)
      | inr none ↦ (
          let same = upper_no_less n rank high2 high high2_is high_is less none in
          or_right _ _ (both_true ((Decides-eqb _ _).1 same)
          ((Decides-ltb _ _).1 (lower_is_less n rank low2 low high2 high low2_is low_is high2_is high_is same less))))
    ])

-- what is ranked by halves is ranked, and nothing else is
pub by_halves : (con code rank low high : ℕ) (cons numbers lows highs : List ℕ) → low ≡ lower rank → high ≡ upper rank → EachHasImage lower numbers lows →
    EachHasImage upper numbers highs → is_ranked_by_halves con code cons low lows high highs ≡ is_ranked con code cons rank numbers
unfolding is_ranked is_ranked_by_halves
by_halves con code rank low high cons numbers lows highs low_is high_is lows_are highs_are =
    or_assoc (nat_lt (named_in code cons) con) (nat_lt (named_in code highs) high) (named_in code highs == high && nat_lt (named_in code lows) low) ∙ ap (λ b. nat_lt (named_in code cons) con || b)
    (compared (named_in code numbers) rank (named_in code lows) low (named_in code highs) high (named_image lower code numbers lows lows_are) low_is
    (named_image upper code numbers highs highs_are) high_is)

-- a neighbour that passes on less than the cap passes on its number
pass : (code back number capped : ℕ) → capped ≡ min number 65535 → passed_on code back capped < 65535 →
    passed_on code back number ≡ passed_on code back capped
pass code back number capped is below = by_test (code == back) below
  where
    by_test : (b : Bool) → (if b then capped else 0) < 65535 → (if b then number else 0) ≡ (if b then capped else 0)
    by_test true less = omega (arith, is, less)
    by_test false less = refl

-- where no sum reached the cap, the numbers add up as the capped ones do
total : (cap acc own a b c d e f g h a2 b2 c2 d2 e2 f2 g2 h2 : ℕ) → own ≡ acc → own ≤ cap →
    own ≡ ((((a2 + b2) + c2) + d2) + (((e2 + f2) + g2) + h2)) + 1 →
    (a2 < cap → a ≡ a2) → (b2 < cap → b ≡ b2) → (c2 < cap → c ≡ c2) → (d2 < cap → d ≡ d2) → (e2 < cap → e ≡ e2) →
    (f2 < cap → f ≡ f2) → (g2 < cap → g ≡ g2) → (h2 < cap → h ≡ h2) → acc ≡ ((((a + b) + c) + d) + (((e + f) + g) + h)) + 1
total cap acc own a b c d e f g h a2 b2 c2 d2 e2 f2 g2 h2 own_is most sum is_a is_b is_c is_d is_e is_f is_g is_h =
    let a_is = is_a (omega (arith, most, sum)) in
    let b_is = is_b (omega (arith, most, sum)) in
    let c_is = is_c (omega (arith, most, sum)) in
    let d_is = is_d (omega (arith, most, sum)) in
    let e_is = is_e (omega (arith, most, sum)) in
    let f_is = is_f (omega (arith, most, sum)) in
    let g_is = is_g (omega (arith, most, sum)) in
    let h_is = is_h (omega (arith, most, sum)) in
    omega (arith, own_is, sum, a_is, b_is, c_is, d_is, e_is, f_is, g_is, h_is)

-- so do they by the test
pub capped_sum_gives : (acc own : ℕ) (codes numbers capped : List ℕ) → own ≡ min acc 65535 → EachHasImage at_most numbers capped → own < 65535 →
    IsTrue (adds_up own codes capped) → IsTrue (adds_up acc codes numbers)
unfolding adds_up
capped_sum_gives acc own codes numbers capped is each less h =
    (Decides-eqb _ _).1 (total 65535 acc own _ _ _ _ _ _ _ _ _ _ _ _ _ _ _ _ (omega (arith, is, less)) (omega (arith, less)) ((Decides-eqb _ _).0 h)
    (pass (slice_index codes 0) 16 _ _ each.at_0) (pass (slice_index codes 1) 32 _ _ each.at_1) (pass (slice_index codes 2) 64 _ _ each.at_2)
    (pass (slice_index codes 3) 128 _ _ each.at_3) (pass (slice_index codes 4) 1 _ _ each.at_4) (pass (slice_index codes 5) 2 _ _ each.at_5)
    (pass (slice_index codes 6) 4 _ _ each.at_6) (pass (slice_index codes 7) 8 _ _ each.at_7))

-- a number below the cap is the capped one
uncapped : (n n2 : ℕ) → n2 ≡ min n 268435455 → n2 < 268435455 → n ≡ n2
uncapped n n2 is less = omega (arith, is, less)

-- so in 32 bits
pub middle_sum_gives : (acc a b c d e f g h : ℕ) (codes numbers : List ℕ) → a ≡ min (passed_on (slice_index codes 0) 16 (slice_index numbers 0)) 268435455 →
    b ≡ min (passed_on (slice_index codes 1) 32 (slice_index numbers 1)) 268435455 →
    c ≡ min (passed_on (slice_index codes 2) 64 (slice_index numbers 2)) 268435455 →
    d ≡ min (passed_on (slice_index codes 3) 128 (slice_index numbers 3)) 268435455 →
    e ≡ min (passed_on (slice_index codes 4) 1 (slice_index numbers 4)) 268435455 →
    f ≡ min (passed_on (slice_index codes 5) 2 (slice_index numbers 5)) 268435455 →
    g ≡ min (passed_on (slice_index codes 6) 4 (slice_index numbers 6)) 268435455 →
    h ≡ min (passed_on (slice_index codes 7) 8 (slice_index numbers 7)) 268435455 → acc ≤ 268435455 →
    acc ≡ ((((a + b) + c) + d) + (((e + f) + g) + h)) + 1 → IsTrue (adds_up acc codes numbers)
unfolding adds_up
middle_sum_gives acc a b c d e f g h codes numbers is_a is_b is_c is_d is_e is_f is_g is_h most sum =
    (Decides-eqb _ _).1 (total 268435455 acc acc _ _ _ _ _ _ _ _ a b c d e f g h refl most sum (uncapped _ _ is_a) (uncapped _ _ is_b) (uncapped _ _ is_c)
    (uncapped _ _ is_d) (uncapped _ _ is_e) (uncapped _ _ is_f) (uncapped _ _ is_g) (uncapped _ _ is_h))
