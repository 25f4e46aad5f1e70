-- The number of what is written for a number.
use Rattle.drain_floats.proofs.Names.{◌≡◌, ℕ, suc, ◌+◌, ◌-◌, ◌%◌, ◌<◌, ◌≤◌, Bool, false, nat_lt, ℤ, pos, negsuc, neg_ℤ, refl, ap, arith, ints, number_of, pattern_of, IsSingle}
use Rattle.std.proofs.lemmas.Bool.Decides.{nat_tests}

-- by the place, and by the sign
read_place : (k : ℕ) → k ≤ 2139095040 → number_of k ≡ pos k
read_place k few = grind (arith, nat_tests)

read_sign : (k : ℕ) → k < 2139095040 → number_of (2147483649 + k) ≡ negsuc k
read_sign k few = by_tests (nat_lt 2139095040 ((2147483649 + k) % 2147483648)) (nat_lt (2147483649 + k) 2147483648) refl refl (grind (arith, nat_tests)) (grind (arith, nat_tests))
  where
    rest : (k : ℕ) → neg_ℤ (pos (2147483649 + k - 2147483648)) ≡ negsuc k
    rest k = let e : 2147483649 + k - 2147483648 ≡ suc k = omega arith in ap (λ n. neg_ℤ (pos n)) e

    by_tests : (a b : Bool) → nat_lt 2139095040 ((2147483649 + k) % 2147483648) ≡ a → nat_lt (2147483649 + k) 2147483648 ≡ b → a ≡ false → b ≡ false →
        number_of (2147483649 + k) ≡ negsuc k
    by_tests a b is_a is_b no_a no_b = rw (is_a, no_a, is_b, no_b) (rest k)

pub read_back : (n : ℤ) → IsSingle n → number_of (pattern_of n) ≡ n
read_back (pos k) single = read_place k (let high = single.high in omega (arith, ints, high))
read_back (negsuc k) single = read_sign k (let low = single.low in omega (arith, ints, low))
