-- The floats of a block are whole numbers of one power of two, as many as their places and an offset.
use Rattle.drain_kernel.proofs.Names.{◌≡◌, Bool, true, false, ◌&&◌, IsTrue, List, slice_index, ℕ, zero, suc, ◌+◌, ◌-◌, ◌*◌, ◌/◌, ◌%◌, ◌^◌, ◌<◌, ◌≤◌, ℤ, pos, negsuc, neg_ℤ, ◌+ℤ◌, ◌-ℤ◌, inl, inr, sym, ◌∙◌, ap, subst, arith, two-pow-succ, and_parts, cases_lt, ints, digits_of, shift_of, magnitude_of, single_height, lowered, around_in, cons_round, keeps_direction_at, ThreeLanes, AreSound, goes_by_fractions, is_whole, keeps_way_down, AreInBlock, AreInOneBlock, IsInBlock, IsInUnit}
use Rattle.drain_kernel.proofs.UnitWays.{AreEach, goes_in_unit}

low_digits : (k : ℕ) → k < 8388608 → digits_of k ≡ k
low_digits k h = grind arith

high_digits : (k : ℕ) → 8388608 ≤ k → digits_of k ≡ 8388608 + k % 8388608
high_digits k h = grind arith

-- digits and shift give the magnitude
of_parts : (k d s : ℕ) → digits_of k ≡ d → shift_of k ≡ s → magnitude_of k ≡ d * 2 ^ s
of_parts k d s is_d is_s = ap (λ x. x * 2 ^ shift_of k) is_d ∙ ap (λ x. d * 2 ^ x) is_s

-- from one multiple of 2^23 to the next magnitudes grow by one power of two
grows_first : (k : ℕ) → k ≤ 8388608 → magnitude_of k ≡ k
grows_first k to = elim (cases_lt k 8388608) [
  | inl low ↦ let is = of_parts k k 0 (low_digits k low) (omega (arith, low)) in omega (arith, is)
  | inr high ↦
      let at : k ≡ 8388608 = omega (arith, to, high) in
      let is = of_parts k 8388608 0 (high_digits k high ∙ omega (arith, at)) (omega (arith, at)) in
      omega (arith, is, at)
]

grows_later : (i k : ℕ) → (i + 1) * 8388608 ≤ k → k ≤ (i + 2) * 8388608 → magnitude_of k + (i * 8388608) * 2 ^ i ≡ k * 2 ^ i
grows_later i k from to = elim (cases_lt k ((i + 2) * 8388608)) [
  | inl low ↦
      let high : 8388608 ≤ k = omega (arith, from) in
      let is = of_parts k (8388608 + k % 8388608) i (high_digits k high) (omega (arith, from, low)) in
      let rest : k ≡ (i + 1) * 8388608 + k % 8388608 = omega (arith, from, low) in
      inside k i (k % 8388608) (2 ^ i) (magnitude_of k) is rest
  | inr high ↦
      let at : k ≡ (i + 2) * 8388608 = omega (arith, to, high) in
      let is = of_parts k 8388608 (suc i) (high_digits k (omega (arith, at)) ∙ omega (arith, at)) (omega (arith, at)) in
      at_end k i (2 ^ i) (2 ^ suc i) (magnitude_of k) is (two-pow-succ i) at
]
  where
    inside_sum : (i r u : ℕ) → (8388608 + r) * u + (i * 8388608) * u ≡ ((i + 1) * 8388608 + r) * u
    inside_sum i r u = omega arith

    inside : (k i r u m : ℕ) → m ≡ (8388608 + r) * u → k ≡ (i + 1) * 8388608 + r → m + (i * 8388608) * u ≡ k * u
    inside k i r u m is_m is_k = ap (λ x. x + (i * 8388608) * u) is_m ∙ (inside_sum i r u ∙ sym (ap (λ x. x * u) is_k))

    end_sum : (i u : ℕ) → 8388608 * (u + u) + (i * 8388608) * u ≡ ((i + 2) * 8388608) * u
    end_sum i u = omega arith

    at_end : (k i u v m : ℕ) → m ≡ 8388608 * v → v ≡ u + u → k ≡ (i + 2) * 8388608 → m + (i * 8388608) * u ≡ k * u
    at_end k i u v m is_m is_v is_k = ap (λ x. x + (i * 8388608) * u) (is_m ∙ ap (λ x. 8388608 * x) is_v) ∙ (end_sum i u ∙ sym (ap (λ x. x * u) is_k))

pub grows : (j k : ℕ) → j * 8388608 ≤ k → k ≤ (j + 1) * 8388608 → magnitude_of k + ((j - 1) * 8388608) * 2 ^ (j - 1) ≡ k * 2 ^ (j - 1)
grows zero k from to = let is = grows_first k (omega (arith, to)) in omega (arith, is)
grows (suc i) k from to =
    let same : i ≡ suc i - 1 = omega arith in
    subst (λ s. magnitude_of k + (s * 8388608) * 2 ^ s ≡ k * 2 ^ s) same (grows_later i k (omega (arith, from)) (omega (arith, to)))

-- what is known of the lanes of a block
pub record HasUnit (bias block : ℕ) : Type 0 where
  pub unit : ℕ
  pub offset : ℤ
  pub lanes_are : (a : ℕ) → IsInBlock block bias a → IsInUnit unit offset (lowered bias a) a

-- the offset of blocks that far from 0
abbrev grown : ℕ → ℕ
grown j = ((j - 1) * 8388608) * 2 ^ (j - 1)

-- of floats from 0 on, block 512 and more
above : (bias j : ℕ) → HasUnit bias (512 + j)
above bias j = record {
  unit = j - 1;
  offset = pos (grown j) +ℤ pos (bias * 2 ^ (j - 1));
  lanes_are = λ a is. lane a is.0 (is.0 - 4294967296) (far is.0 is.2) is.1 is.2;
}
  where
    far : (n : ℕ) → n / 8388608 ≡ 512 + j → n ≡ 4294967296 + (n - 4294967296)
    far n block = omega (arith, block)

    place_is : (a n k : ℕ) → n ≡ 4294967296 + k → pos n ≡ lowered bias a +ℤ pos 4294967296 → lowered bias a ≡ pos k
    place_is a n k far is = omega (arith, ints, far, is)

    lane_is : (a k : ℕ) → lowered bias a ≡ pos k → a ≡ k + bias
    lane_is a k is = omega (arith, ints, is)

    sum : (m g k u a : ℕ) → m + g ≡ k * u → a ≡ k + bias → pos m +ℤ (pos g +ℤ pos (bias * u)) ≡ pos (a * u)
    sum m g k u a grows is = let all : m + g + bias * u ≡ a * u = added m g k u a grows is in omega (arith, ints, all)
      where
        added : (m g k u a : ℕ) → m + g ≡ k * u → a ≡ k + bias → m + g + bias * u ≡ a * u
        added m g k u a grows is = let all : a * u ≡ (k + bias) * u = ap (λ x. x * u) is in let parts : (k + bias) * u ≡ k * u + bias * u = omega arith in omega (arith, grows, all, parts)

    lane : (a n k : ℕ) → n ≡ 4294967296 + k → pos n ≡ lowered bias a +ℤ pos 4294967296 → n / 8388608 ≡ 512 + j →
        IsInUnit (j - 1) (pos (grown j) +ℤ pos (bias * 2 ^ (j - 1))) (lowered bias a) a
    lane a n k far is block =
        let place = place_is a n k far is in
        subst (λ z. single_height z +ℤ (pos (grown j) +ℤ pos (bias * 2 ^ (j - 1))) ≡ pos (a * 2 ^ (j - 1))) (sym place)
        (sum (magnitude_of k) (grown j) k (2 ^ (j - 1)) a (grows j k (omega (arith, far, block)) (omega (arith, far, block))) (lane_is a k place))

-- of floats below 0, blocks up to 511
below : (bias j block : ℕ) → block + j ≡ 511 → HasUnit bias block
below bias j block at = record {
  unit = j - 1;
  offset = pos (bias * 2 ^ (j - 1)) -ℤ pos (grown j);
  lanes_are = λ a is. lane a is.0 (4294967295 - is.0) (far is.0 is.2) is.1 is.2;
}
  where
    far : (n : ℕ) → n / 8388608 ≡ block → n + suc (4294967295 - n) ≡ 4294967296
    far n is = omega (arith, is, at)

    place_is : (a n k : ℕ) → n + suc k ≡ 4294967296 → pos n ≡ lowered bias a +ℤ pos 4294967296 → lowered bias a ≡ negsuc k
    place_is a n k far is = omega (arith, ints, far, is)

    lane_is : (a k : ℕ) → lowered bias a ≡ negsuc k → a + suc k ≡ bias
    lane_is a k is = omega (arith, ints, is)

    sum : (m g k u a : ℕ) → m + g ≡ suc k * u → a + suc k ≡ bias → neg_ℤ (pos m) +ℤ (pos (bias * u) -ℤ pos g) ≡ pos (a * u)
    sum m g k u a grows is = let all : a * u + (m + g) ≡ bias * u = added m g k u a grows is in omega (arith, ints, all)
      where
        added : (m g k u a : ℕ) → m + g ≡ suc k * u → a + suc k ≡ bias → a * u + (m + g) ≡ bias * u
        added m g k u a grows is = let all : (a + suc k) * u ≡ bias * u = ap (λ x. x * u) is in let parts : (a + suc k) * u ≡ a * u + suc k * u = omega arith in omega (arith, grows, all, parts)

    lane : (a n k : ℕ) → n + suc k ≡ 4294967296 → pos n ≡ lowered bias a +ℤ pos 4294967296 → n / 8388608 ≡ block →
        IsInUnit (j - 1) (pos (bias * 2 ^ (j - 1)) -ℤ pos (grown j)) (lowered bias a) a
    lane a n k far is block_is =
        let place = place_is a n k far is in
        subst (λ z. single_height z +ℤ (pos (bias * 2 ^ (j - 1)) -ℤ pos (grown j)) ≡ pos (a * 2 ^ (j - 1))) (sym place)
        (sum (magnitude_of (suc k)) (grown j) k (2 ^ (j - 1)) a (grows j (suc k) (omega (arith, far, block_is, at)) (omega (arith, far, block_is, at))) (lane_is a k place))

pub of_block : (bias block : ℕ) → HasUnit bias block
of_block bias block = elim (cases_lt block 512) [
  | inl low ↦ below bias (511 - block) block (omega (arith, low))
  | inr high ↦ let at : 512 + (block - 512) ≡ block = omega (arith, high) in subst (λ b. HasUnit bias b) at (above bias (block - 512))
]

-- numbers round a column of rows of one block
pub round_in_block : (bias block unit : ℕ) (offset : ℤ) (above here below : List ℕ) (from end k : ℕ) → ((a : ℕ) → IsInBlock block bias a → IsInUnit unit offset (lowered bias a) a) →
    from + 1 ≤ k → k + 1 < end → AreInBlock block bias above from end → AreInBlock block bias here from end → AreInBlock block bias below from end →
    AreEach bias unit offset (around_in above here below k) (around_in above here below k)
round_in_block bias block unit offset above here below from end k lanes left right is_above is_here is_below = record {
  at_0 = lanes _ (is_here (k + 1) (omega (arith, left)) right);
  at_1 = lanes _ (is_below (k + 1) (omega (arith, left)) right);
  at_2 = lanes _ (is_below k (omega (arith, left)) (omega (arith, right)));
  at_3 = lanes _ (is_below (k - 1) (omega (arith, left)) (omega (arith, right)));
  at_4 = lanes _ (is_here (k - 1) (omega (arith, left)) (omega (arith, right)));
  at_5 = lanes _ (is_above (k - 1) (omega (arith, left)) (omega (arith, right)));
  at_6 = lanes _ (is_above k (omega (arith, left)) (omega (arith, right)));
  at_7 = lanes _ (is_above (k + 1) (omega (arith, left)) right);
}

-- what the test by fractions gives at a column of such rows
pub kept_in_block : (bias block : ℕ) (rows : ThreeLanes) (from end k : ℕ) → rows.here.bias ≡ bias → AreSound rows.slopes → is_whole rows.slopes.spacing.kind ≡ false →
    from + 1 ≤ k → k + 1 < end → AreInOneBlock bias block rows from end →
    goes_by_fractions rows.slopes (slice_index rows.here.con k) (slice_index rows.here.dir k) (cons_round rows k) ≡ true → keeps_direction_at rows k ≡ true
kept_in_block bias block rows from end k one sound floats left right are h =
    let known = of_block bias block in
    subst (λ b. keeps_way_down b rows.slopes (slice_index rows.here.con k) (slice_index rows.here.dir k) (cons_round rows k) ≡ true) (sym one)
    (goes_in_unit bias known.unit known.offset rows.slopes sound (slice_index rows.here.con k) (slice_index rows.here.dir k) (slice_index rows.here.con k) (cons_round rows k) (cons_round rows k) floats
    (known.lanes_are _ (are.here_is k (omega (arith, left)) (omega (arith, right))))
    (round_in_block bias block known.unit known.offset rows.above.con rows.here.con rows.below.con from end k known.lanes_are left right are.above_is are.here_is are.below_is) h)

-- of three rows
pub one_block : (bias block : ℕ) (rows : ThreeLanes) (from end : ℕ) (h a b : Bool) → (IsTrue h → AreInBlock block bias rows.here.con from end) →
    (IsTrue a → AreInBlock block bias rows.above.con from end) → (IsTrue b → AreInBlock block bias rows.below.con from end) → IsTrue ((h && a) && b) →
    AreInOneBlock bias block rows from end
one_block bias block rows from end h a b is_here is_above is_below all =
    let parts = and_parts (h && a) b all in
    let first = and_parts h a parts.0 in
    record { above_is = is_above first.1; here_is = is_here first.0; below_is = is_below parts.1 }
