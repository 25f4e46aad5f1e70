-- A sum from the greatest shift down: what was added so far, times a power, and the rest, which is less than a few of that power.
use Rattle.drain_slope.proofs.Names.{◌≡◌, ℕ, suc, ◌+◌, ◌*◌, ◌^◌, ◌<◌, ◌≤◌, ◌==◌, ℤ, pos, neg_ℤ, ◌+ℤ◌, ◌*ℤ◌, ◌<ℤ◌, ◌≤ℤ◌, ◌⊎◌, ◌↔◌, Bool, true, false, nat_lt, if◌then◌else◌, inl, inr, refl, sym, ◌∙◌, ap, subst, arith, two-pow-succ, zero-*ℤ, +ℤ_idr, *ℤ_comm, cases_lt, cases_order, ints, by_lt_z, pow_pos, mul-lt, Term, Sum, term_value, sum_value, IsWithin, AreWithin, AreBelow, AreFrom, number_at, level_of, value_below, rest_of}
use Rattle.std.proofs.Math.Pow.{pow_mono}
use Rattle.std.proofs.lemmas.Bool.Decides.{nat_tests}
use Rattle.drain_slope.proofs.Products.{associates, distributes, mul_high, mul_low, mul_above, mul_below}

-- one shift more
step_term : (s : ℕ) (t : Term) → value_below (suc s) t ≡ (number_at s t *ℤ pos (2 ^ s)) +ℤ value_below s t
step_term s t = by_order (cases_order t.shift s)
  where
    -- the number at hand, the terms below one shift and below the next, by the tests that tell them
    by_tests : (below same lower : Bool) → nat_lt t.shift (suc s) ≡ below → (t.shift == s) ≡ same → nat_lt t.shift s ≡ lower →
        (if below then term_value t else pos 0) ≡ ((if same then t.number else pos 0) *ℤ pos (2 ^ s)) +ℤ (if lower then term_value t else pos 0) →
        value_below (suc s) t ≡ (number_at s t *ℤ pos (2 ^ s)) +ℤ value_below s t
    by_tests below same lower is_below is_same is_lower h = rw (is_below, is_same, is_lower) h

    none : (p z : ℤ) → z ≡ (pos 0 *ℤ p) +ℤ z
    none p z = let e = zero-*ℤ p in omega (arith, ints, e)

    by_order : (t.shift ≡ s) ⊎ ((t.shift < s) ⊎ (s < t.shift)) → value_below (suc s) t ≡ (number_at s t *ℤ pos (2 ^ s)) +ℤ value_below s t
    by_order (inl same) =
        by_tests true true false (grind (arith, nat_tests)) (grind (arith, nat_tests)) (grind (arith, nat_tests))
        (ap (λ k. t.number *ℤ pos (2 ^ k)) same ∙ sym (+ℤ_idr (t.number *ℤ pos (2 ^ s))))
    by_order (inr (inl less)) =
        by_tests true false true (grind (arith, nat_tests)) (grind (arith, nat_tests)) (grind (arith, nat_tests)) (none (pos (2 ^ s)) (term_value t))
    by_order (inr (inr more)) =
        by_tests false false false (grind (arith, nat_tests)) (grind (arith, nat_tests)) (grind (arith, nat_tests)) (none (pos (2 ^ s)) (pos 0))

adds : (a b c d e na nb nc nd ne ra rb rc rd re p : ℤ) → a ≡ na *ℤ p +ℤ ra → b ≡ nb *ℤ p +ℤ rb → c ≡ nc *ℤ p +ℤ rc → d ≡ nd *ℤ p +ℤ rd →
    e ≡ ne *ℤ p +ℤ re →
    a +ℤ (b +ℤ (c +ℤ (d +ℤ e))) ≡ ((na +ℤ (nb +ℤ (nc +ℤ (nd +ℤ ne)))) *ℤ p) +ℤ (ra +ℤ (rb +ℤ (rc +ℤ (rd +ℤ re))))
adds a b c d e na nb nc nd ne ra rb rc rd re p ha hb hc hd he =
    let h1 = distributes na (nb +ℤ (nc +ℤ (nd +ℤ ne))) p in
    let h2 = distributes nb (nc +ℤ (nd +ℤ ne)) p in
    let h3 = distributes nc (nd +ℤ ne) p in
    let h4 = distributes nd ne p in
    gathers a b c d e (na *ℤ p) (nb *ℤ p) (nc *ℤ p) (nd *ℤ p) (ne *ℤ p) ra rb rc rd re _ _ _ _ ha hb hc hd he h1 h2 h3 h4
  where
    gathers : (a b c d e pa pb pc pd pe ra rb rc rd re s1 s2 s3 s4 : ℤ) → a ≡ pa +ℤ ra → b ≡ pb +ℤ rb → c ≡ pc +ℤ rc → d ≡ pd +ℤ rd → e ≡ pe +ℤ re →
        s1 ≡ pa +ℤ s2 → s2 ≡ pb +ℤ s3 → s3 ≡ pc +ℤ s4 → s4 ≡ pd +ℤ pe →
        a +ℤ (b +ℤ (c +ℤ (d +ℤ e))) ≡ s1 +ℤ (ra +ℤ (rb +ℤ (rc +ℤ (rd +ℤ re))))
    gathers a b c d e pa pb pc pd pe ra rb rc rd re s1 s2 s3 s4 ha hb hc hd he h1 h2 h3 h4 = omega (arith, ints, ha, hb, hc, hd, he, h1, h2, h3, h4)

step_sum : (s : ℕ) (sum : Sum) → rest_of (suc s) sum ≡ (level_of s sum *ℤ pos (2 ^ s)) +ℤ rest_of s sum
step_sum s sum = adds _ _ _ _ _ _ _ _ _ _ _ _ _ _ _ (pos (2 ^ s)) (step_term s sum.a) (step_term s sum.b) (step_term s sum.c) (step_term s sum.d) (step_term s sum.e)

-- all terms are below a shift that is above all
whole_term : (top : ℕ) (t : Term) → t.shift < top → value_below top t ≡ term_value t
whole_term top t less = by_test (nat_lt t.shift top) refl (grind (arith, nat_tests))
  where
    by_test : (b : Bool) → nat_lt t.shift top ≡ b → b ≡ true → value_below top t ≡ term_value t
    by_test b is holds = rw (is, holds) refl

pub whole : (top : ℕ) (sum : Sum) → AreBelow top sum → rest_of top sum ≡ sum_value sum
whole top sum below =
    let a = whole_term top sum.a below.a in
    let b = whole_term top sum.b below.b in
    let c = whole_term top sum.c below.c in
    let d = whole_term top sum.d below.d in
    let e = whole_term top sum.e below.e in
    rw (a, b, c, d, e) refl

no_term : (s : ℕ) (t : Term) → s ≤ t.shift → value_below s t ≡ pos 0
no_term s t most = by_test (nat_lt t.shift s) refl (grind (arith, nat_tests))
  where
    by_test : (b : Bool) → nat_lt t.shift s ≡ b → b ≡ false → value_below s t ≡ pos 0
    by_test b is fails = rw (is, fails) refl

-- what terms below a shift come to
record IsBounded (bound : ℕ) (z : ℤ) : Type 0 where
  low : neg_ℤ (pos bound) ≤ℤ z
  high : z ≤ℤ pos bound

zero_bounded : (bound : ℕ) (z : ℤ) → z ≡ pos 0 → IsBounded bound z
zero_bounded bound z is = record { low = omega (arith, ints, is); high = omega (arith, ints, is) }

bounded_term : (size s : ℕ) (t : Term) → IsWithin size t → IsBounded (size * 2 ^ s) (value_below s t)
bounded_term size s t within = elim (cases_lt t.shift s) [
  | inl less ↦
      let more : 2 ^ t.shift ≤ 2 ^ s = pow_mono (omega (arith, less)) in
      subst (λ x. IsBounded (size * 2 ^ s) x) (sym (whole_term s t less)) (record {
        low = mul_low t.number size (2 ^ t.shift) (2 ^ s) within.low more;
        high = mul_high t.number size (2 ^ t.shift) (2 ^ s) within.high more;
      })
  | inr most ↦ zero_bounded (size * 2 ^ s) (value_below s t) (no_term s t most)
]

bounded_rest : (size s : ℕ) (sum : Sum) → AreWithin size sum → IsBounded (5 * (size * 2 ^ s)) (rest_of s sum)
bounded_rest size s sum within =
    adds_up _ (value_below s sum.a) (value_below s sum.b) (value_below s sum.c) (value_below s sum.d) (value_below s sum.e)
    (bounded_term size s sum.a within.a) (bounded_term size s sum.b within.b) (bounded_term size s sum.c within.c)
    (bounded_term size s sum.d within.d) (bounded_term size s sum.e within.e)
  where
    adds_up : (k : ℕ) (a b c d e : ℤ) → IsBounded k a → IsBounded k b → IsBounded k c → IsBounded k d → IsBounded k e →
        IsBounded (5 * k) (a +ℤ (b +ℤ (c +ℤ (d +ℤ e))))
    adds_up k a b c d e ha hb hc hd he = record {
      low = let la = ha.low in let lb = hb.low in let lc = hc.low in let ld = hd.low in let le = he.low in omega (arith, ints, la, lb, lc, ld, le);
      high = let la = ha.high in let lb = hb.high in let lc = hc.high in let ld = hd.high in let le = he.high in omega (arith, ints, la, lb, lc, ld, le);
    }

-- the sum is what was added so far, times the power of a shift, and the rest below it
pub record IsSplit (sum : Sum) (shift : ℕ) (head : ℤ) : Type 0 where
  pub value : sum_value sum ≡ (head *ℤ pos (2 ^ shift)) +ℤ rest_of shift sum

pub split_first : (sum : Sum) (top : ℕ) → AreBelow top sum → IsSplit sum top (pos 0)
split_first sum top below = record { value = sym (starts (pos (2 ^ top)) _ _ (whole top sum below)) }
  where
    starts : (p x y : ℤ) → x ≡ y → (pos 0 *ℤ p) +ℤ x ≡ y
    starts p x y h = let e = zero-*ℤ p in omega (arith, ints, e, h)

pub split_next : (sum : Sum) (shift : ℕ) (head : ℤ) → IsSplit sum (suc shift) head → IsSplit sum shift ((pos 2 *ℤ head) +ℤ level_of shift sum)
split_next sum shift head split = record {
  value =
      let twice : pos (2 ^ suc shift) ≡ pos 2 *ℤ pos (2 ^ shift) = (let e = two-pow-succ shift in ap pos (e ∙ doubled (2 ^ shift))) in
      let moved : head *ℤ pos (2 ^ suc shift) ≡ (pos 2 *ℤ head) *ℤ pos (2 ^ shift) =
      ap (λ x. head *ℤ x) twice ∙ (sym (associates head (pos 2) (pos (2 ^ shift))) ∙ ap (λ x. x *ℤ pos (2 ^ shift)) (*ℤ_comm head (pos 2))) in
      gathers _ (head *ℤ pos (2 ^ suc shift)) (rest_of (suc shift) sum) ((pos 2 *ℤ head) *ℤ pos (2 ^ shift)) (level_of shift sum *ℤ pos (2 ^ shift)) (rest_of shift sum) _
      split.value moved (step_sum shift sum) (distributes (pos 2 *ℤ head) (level_of shift sum) (pos (2 ^ shift)));
}
  where
    doubled : (p : ℕ) → p + p ≡ 2 * p
    doubled p = omega arith

    gathers : (v h r g l q b : ℤ) → v ≡ h +ℤ r → h ≡ g → r ≡ l +ℤ q → b ≡ g +ℤ l → v ≡ b +ℤ q
    gathers v h r g l q b hv hh hr hb = omega (arith, ints, hv, hh, hr, hb)

-- what was added so far outweighs the rest
pub above_from_head : (size shift : ℕ) (sum : Sum) (head : ℤ) → AreWithin size sum → IsSplit sum shift head → pos (8 * size) ≤ℤ head → 0 < size →
    pos 0 <ℤ sum_value sum
above_from_head size shift sum head within split most some =
    let bounds = bounded_rest size shift sum within in
    let low = bounds.low in
    let least = mul_above head (8 * size) (2 ^ shift) most in
    let value = split.value in
    let power = mul-lt 0 0 size (2 ^ shift) some (pow_pos shift) in
    outweighs _ _ _ (size * 2 ^ shift) ((8 * size) * 2 ^ shift) value low least (eight size (2 ^ shift)) power
  where
    eight : (a p : ℕ) → (8 * a) * p ≡ 8 * (a * p)
    eight a p = omega arith

    outweighs : (v h r : ℤ) (k m : ℕ) → v ≡ h +ℤ r → neg_ℤ (pos (5 * k)) ≤ℤ r → pos m ≤ℤ h → m ≡ 8 * k → 0 < k → pos 0 <ℤ v
    outweighs v h r k m hv low least is some = omega (arith, ints, hv, low, least, is, some)

pub below_from_head : (size shift : ℕ) (sum : Sum) (head : ℤ) → AreWithin size sum → IsSplit sum shift head → head ≤ℤ neg_ℤ (pos (8 * size)) → 0 < size →
    ¬ (pos 0 <ℤ sum_value sum)
below_from_head size shift sum head within split most some above =
    let bounds = bounded_rest size shift sum within in
    let high = bounds.high in
    let least = mul_below head (8 * size) (2 ^ shift) most (omega (arith, some)) in
    let value = split.value in
    let power = mul-lt 0 0 size (2 ^ shift) some (pow_pos shift) in
    outweighs _ _ _ (size * 2 ^ shift) ((8 * size) * 2 ^ shift) value high least (eight size (2 ^ shift)) power above
  where
    eight : (a p : ℕ) → (8 * a) * p ≡ 8 * (a * p)
    eight a p = omega arith

    outweighs : (v h r : ℤ) (k m : ℕ) → v ≡ h +ℤ r → r ≤ℤ pos (5 * k) → h ≤ℤ neg_ℤ (pos m) → m ≡ 8 * k → 0 < k → pos 0 <ℤ v → ⊥
    outweighs v h r k m hv high least is some above = omega (arith, ints, hv, high, least, is, some, above)

-- nothing is left below a shift from which all are on
pub last_decides : (sum : Sum) (bottom : ℕ) (head : ℤ) → AreFrom bottom sum → IsSplit sum bottom head → (pos 0 <ℤ head) ↔ (pos 0 <ℤ sum_value sum)
last_decides sum bottom head from split =
    let a = no_term bottom sum.a from.a in
    let b = no_term bottom sum.b from.b in
    let c = no_term bottom sum.c from.c in
    let d = no_term bottom sum.d from.d in
    let e = no_term bottom sum.e from.e in
    let value = split.value in
    let only = ends _ (head *ℤ pos (2 ^ bottom)) (value_below bottom sum.a) (value_below bottom sum.b) (value_below bottom sum.c) (value_below bottom sum.d) (value_below bottom sum.e) value a b c d e in
    ((λ h. subst (λ z. pos 0 <ℤ z) (sym only) (up head bottom h)), (λ h. down head bottom (subst (λ z. pos 0 <ℤ z) only h)))
  where
    ends : (v g a b c d e : ℤ) → v ≡ g +ℤ (a +ℤ (b +ℤ (c +ℤ (d +ℤ e)))) → a ≡ pos 0 → b ≡ pos 0 → c ≡ pos 0 → d ≡ pos 0 → e ≡ pos 0 → v ≡ g
    ends v g a b c d e hv ha hb hc hd he = omega (arith, ints, hv, ha, hb, hc, hd, he)

    up : (z : ℤ) (k : ℕ) → pos 0 <ℤ z → pos 0 <ℤ (z *ℤ pos (2 ^ k))
    up z k h =
        let least = mul_above z 1 (2 ^ k) (omega (arith, ints, h)) in
        let power = pow_pos k in
        omega (arith, ints, least, power)

    down : (z : ℤ) (k : ℕ) → pos 0 <ℤ (z *ℤ pos (2 ^ k)) → pos 0 <ℤ z
    down z k h = by_lt_z (pos 0) z (λ less. less) (λ most.
        absurd (let high = mul_high z 0 (2 ^ k) (2 ^ k) most (omega arith) in omega (arith, ints, h, high)))
