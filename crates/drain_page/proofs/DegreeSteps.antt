-- How many steps whole degrees make at most.
use Rattle.std.proofs.Common.{◌≡◌, ℕ, ◌≤◌, ◌<◌, ℤ, pos, ◌*ℤ◌, ◌≤ℤ◌, neg_ℤ, arith, ap, ◌∙◌}
use Rattle.std.proofs.lemmas.Int.{ints, unsigned_abs-mul, to_z-of_z, fits_signed_from_abs}
use Rattle.std.proofs.Math.Nat.{mul-le-mul}
use Rattle.std.specs.Int.RustNames.{unsigned_abs}
use mir.Syntax.{w16, w64}
use mir.Val.{to_z, of_z, SFits}

-- degrees of 16 bits with a sign and steps of 32 bits make a number of 64 bits
size : (x y : ℤ) → unsigned_abs x ≤ 32768 → unsigned_abs y ≤ 4294967296 → unsigned_abs (x *ℤ y) ≤ 140737488355328
size x y degrees steps = omega (arith, unsigned_abs-mul x y, mul-le-mul degrees steps)

-- by the degrees and the steps as the code reads them
pub size-of : (x y degrees : ℤ) (steps : ℕ) → x ≡ degrees → y ≡ pos steps → SFits w16 degrees → steps < 4294967296 → unsigned_abs (x *ℤ y) ≤ 140737488355328
size-of x y degrees steps x_is y_is fits small = size x y (omega (arith, ints)) (omega (arith, ints))

-- what the code stores is the product
pub stored : (x y degrees : ℤ) (steps : ℕ) → x ≡ degrees → y ≡ pos steps → unsigned_abs (x *ℤ y) ≤ 140737488355328 → to_z w64 (of_z w64 (x *ℤ y)) ≡ degrees *ℤ pos steps
stored x y degrees steps x_is y_is small = to_z-of_z w64 (x *ℤ y) (fits_signed_from_abs w64 (x *ℤ y) (omega arith)) ∙ ap (λ z. z *ℤ y) x_is ∙ ap (λ z. degrees *ℤ z) y_is

-- what a size says of a number
pub at-least : (z : ℤ) (most : ℕ) → unsigned_abs z ≤ most → neg_ℤ (pos most) ≤ℤ z
at-least z most small = omega (arith, ints)

pub at-most : (z : ℤ) (most : ℕ) → unsigned_abs z ≤ most → z ≤ℤ pos most
at-most z most small = omega (arith, ints)
