-- The coordinates of a raster's cells fit 128 bits.
use Rattle.std.proofs.Common.{◌≡◌, ℕ, ◌≤◌, ◌<◌, ℤ, pos, ◌+ℤ◌, ◌-ℤ◌, ◌*ℤ◌, arith, ap, ◌∙◌}
use Rattle.std.proofs.lemmas.Int.{ints, unsigned_abs-mul, to_z-of_z, fits_signed_from_abs}
use Rattle.std.proofs.Math.Nat.{mul-le-mul}
use Rattle.std.specs.Int.RustNames.{unsigned_abs}
use Rattle.drain_header.specs.Header.{IsCoordinate}
use mir.Syntax.{w128}
use mir.Val.{to_z, of_z}

-- a number of 32 bits and a coordinate
size : (a b : ℤ) → unsigned_abs a ≤ 4294967296 → unsigned_abs b ≤ 10000000000000000000000000 → unsigned_abs (a *ℤ b) ≤ 42949672960000000000000000000000000
size a b number coordinate = omega (arith, unsigned_abs-mul a b, mul-le-mul number coordinate)

magnitude : (z : ℤ) → IsCoordinate z → unsigned_abs z ≤ 10000000000000000000000000
magnitude z is =
    let low = is.low in
    let high = is.high in
    omega (arith, ints)

module _ (base a b u x : ℤ) (n : ℕ) (base_is : base ≡ u) (a_is : a ≡ pos n) (b_is : b ≡ x) (small : n < 4294967296) (u_ok : IsCoordinate u) (x_ok : IsCoordinate x) where
  sized : unsigned_abs (a *ℤ b) ≤ 42949672960000000000000000000000000
  sized =
      let x_size = magnitude x x_ok in
      size a b (omega (arith, ints)) (omega (arith, ints))

  product : to_z w128 (of_z w128 (a *ℤ b)) ≡ a *ℤ b
  product =
      let step = sized in
      to_z-of_z w128 (a *ℤ b) (fits_signed_from_abs w128 (a *ℤ b) (omega arith))

  -- so many steps further on
  pub forth : to_z w128 (of_z w128 (base +ℤ to_z w128 (of_z w128 (a *ℤ b)))) ≡ u +ℤ (pos n *ℤ x)
  forth =
      let step = sized in
      let u_size = magnitude u u_ok in
      ap (λ z. to_z w128 (of_z w128 (base +ℤ z))) product
      ∙ to_z-of_z w128 (base +ℤ (a *ℤ b)) (fits_signed_from_abs w128 (base +ℤ (a *ℤ b)) (omega (arith, ints)))
      ∙ ap (λ z. z +ℤ (a *ℤ b)) base_is ∙ ap (λ z. u +ℤ (z *ℤ b)) a_is ∙ ap (λ z. u +ℤ (pos n *ℤ z)) b_is

  -- and back
  pub back : to_z w128 (of_z w128 (base -ℤ to_z w128 (of_z w128 (a *ℤ b)))) ≡ u -ℤ (pos n *ℤ x)
  back =
      let step = sized in
      let u_size = magnitude u u_ok in
      ap (λ z. to_z w128 (of_z w128 (base -ℤ z))) product
      ∙ to_z-of_z w128 (base -ℤ (a *ℤ b)) (fits_signed_from_abs w128 (base -ℤ (a *ℤ b)) (omega (arith, ints)))
      ∙ ap (λ z. z -ℤ (a *ℤ b)) base_is ∙ ap (λ z. u -ℤ (z *ℤ b)) a_is ∙ ap (λ z. u -ℤ (pos n *ℤ z)) b_is
