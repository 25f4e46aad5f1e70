-- The lanes that are made of floats: as many units as the height, and 2^31.
use Rattle.drain_kernel.proofs.Names.{◌≡◌, ℕ, suc, ◌+◌, ◌-◌, ◌*◌, ◌^◌, ◌<◌, ℤ, pos, negsuc, neg_ℤ, ◌+ℤ◌, ◌≤ℤ◌, ◌<ℤ◌, unsigned_abs, refl, ◌∙◌, ap, arith, ints, pow-add, digits_of, shift_of, magnitude_of, IsInUnit, made_offset}

-- digits that are shifted from a unit on
pub units_are : (place unit up : ℕ) → shift_of place ≡ unit + up → magnitude_of place ≡ (digits_of place * 2 ^ up) * 2 ^ unit
units_are place unit up is =
    ap (λ s. digits_of place * 2 ^ s) is ∙ (ap (λ p. digits_of place * p) (pow-add 2 unit up) ∙ swapped (digits_of place) (2 ^ unit) (2 ^ up))
  where
    swapped : (d u p : ℕ) → d * (u * p) ≡ (d * p) * u
    swapped d u p = omega arith

-- a height from 0 on, and one below 0
pub lane_above : (k unit units lane : ℕ) → magnitude_of k ≡ units * 2 ^ unit → lane ≡ 2147483648 + units → IsInUnit unit (made_offset unit) (pos k) lane
lane_above k unit units lane is lifted = sum (magnitude_of k) units (2 ^ unit) lane is lifted
  where
    product : (units u lane : ℕ) → lane ≡ 2147483648 + units → lane * u ≡ units * u + 2147483648 * u
    product units u lane lifted = ap (λ x. x * u) lifted ∙ omega arith

    sum : (m units u lane : ℕ) → m ≡ units * u → lane ≡ 2147483648 + units → pos m +ℤ pos (2147483648 * u) ≡ pos (lane * u)
    sum m units u lane is lifted = let all = product units u lane lifted in omega (arith, ints, is, all)

pub lane_below : (k unit units lane : ℕ) → magnitude_of (suc k) ≡ units * 2 ^ unit → lane + units ≡ 2147483648 → IsInUnit unit (made_offset unit) (negsuc k) lane
lane_below k unit units lane is lowered = sum (magnitude_of (suc k)) units (2 ^ unit) lane is lowered
  where
    product : (units u lane : ℕ) → lane + units ≡ 2147483648 → lane * u + units * u ≡ 2147483648 * u
    product units u lane lowered = let all : (lane + units) * u ≡ 2147483648 * u = ap (λ x. x * u) lowered in let parts : (lane + units) * u ≡ lane * u + units * u = omega arith in omega (arith, all, parts)

    sum : (m units u lane : ℕ) → m ≡ units * u → lane + units ≡ 2147483648 → neg_ℤ (pos m) +ℤ pos (2147483648 * u) ≡ pos (lane * u)
    sum m units u lane is lowered = let all = product units u lane lowered in omega (arith, ints, is, all)

pub above_0 : (number : ℤ) (unit units : ℕ) → pos 0 ≤ℤ number → magnitude_of (unsigned_abs number) ≡ units * 2 ^ unit → IsInUnit unit (made_offset unit) number (2147483648 + units)
above_0 (pos k) unit units some is = lane_above k unit units (2147483648 + units) is refl
above_0 (negsuc k) unit units some is = absurd (omega (arith, ints, some))

pub below_0 : (number : ℤ) (unit units : ℕ) → number <ℤ pos 0 → units < 2 ^ 31 → magnitude_of (unsigned_abs number) ≡ units * 2 ^ unit → IsInUnit unit (made_offset unit) number (2147483648 - units)
below_0 (pos k) unit units less few is = absurd (omega (arith, ints, less))
below_0 (negsuc k) unit units less few is = lane_below k unit units (2147483648 - units) is (omega (arith, few))
