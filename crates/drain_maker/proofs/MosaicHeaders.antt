-- The header of a product of a mosaic is within the bounds of a header, and has the mosaic's place.
use Rattle.drain_maker.proofs.Names.{ℕ, ◌+◌, ◌-◌, ◌*◌, ◌/◌, ◌^◌, ◌≤◌, ℤ, pos, negsuc, nat_abs, ◌-ℤ◌, ◌*ℤ◌, refl, arith, ints, mul-le-mul_right, Product, default_no_data, IsSide, IsCoordinate, AreWithinBounds, Tiling, west_of, north_of, west_edge, north_edge, tiles_down, tiles_across, IsPlaced, made_header, mosaic_place, bits_of, is_signed, product_bounds}
use Rattle.drain_grid.specs.declared.degree.TheConstants.{UNITS_PER_DEGREE}
use Rattle.drain_maker.proofs.Placing.{IsNear, spacing, no_way}

-- a tiling of at most 8 by 8 tiles of a lawful side, whose edges are degrees
pub record IsSmall (t : Tiling) : Type 0 where
  pub side : IsSide t.side
  pub down : tiles_down t ≤ 8
  pub across : tiles_across t ≤ 8
  pub near : IsNear t

-- 8 tiles of 3601 samples have at most 28801 of them
length_fits : (n side : ℕ) → n ≤ 8 → side ≤ 3601 → n * (side - 1) + 1 ≤ 28801
length_fits n side few small =
    let wide : n * (side - 1) ≤ 8 * (side - 1) = mul-le-mul_right (side - 1) few in
    omega (arith, wide)

-- degrees are coordinates, and so is a spacing
degrees_ok : (z : ℤ) → nat_abs z ≤ 180 → IsCoordinate (z *ℤ pos UNITS_PER_DEGREE)
degrees_ok (pos n) near = record { low = omega (arith, ints); high = omega (arith, ints) }
degrees_ok (negsuc n) near = record { low = omega (arith, ints); high = omega (arith, ints) }

spacing_ok : (n : ℕ) → 1 ≤ n → IsCoordinate (pos (UNITS_PER_DEGREE / n))
spacing_ok n some = record { low = omega (arith, ints); high = omega (arith, ints) }

pub within_bounds : (t : Tiling) (p : Product) → IsSmall t → AreWithinBounds (made_header t p)
within_bounds t p small =
    let side : IsSide t.side = small.side in
    let wide : tiles_across t * (t.side - 1) + 1 ≤ 28801 = length_fits (tiles_across t) t.side small.across side.most in
    product_bounds p (tiles_down t * (t.side - 1) + 1) (tiles_across t * (t.side - 1) + 1) (bits_of p) ((tiles_across t * (t.side - 1) + 1) * (bits_of p / 8)) (is_signed p)
    (mosaic_place t) (default_no_data p) refl refl refl (omega arith) (length_fits (tiles_down t) t.side small.down side.most) (omega arith) wide
    (degrees_ok (west_of t) small.near.west) (degrees_ok (north_of t) (omega (arith, small.near.north)))
    (spacing_ok (t.side - 1) (omega (arith, side.least))) (spacing_ok (t.side - 1) (omega (arith, side.least)))

-- the spacing is within a billionth of a degree of that of the samples
spaced : (n : ℕ) → 1 ≤ n → nat_abs (pos (UNITS_PER_DEGREE / n) *ℤ pos n -ℤ pos UNITS_PER_DEGREE) ≤ 10 ^ 6 * n
spaced n some = let h = spacing UNITS_PER_DEGREE n some in omega (arith, h)

pub placed : (t : Tiling) → IsSide t.side → IsPlaced t (mosaic_place t)
placed t side = record {
  ulx = no_way (10 ^ 9) (west_edge t);
  uly = no_way (10 ^ 9) (north_edge t);
  xdim = spaced (t.side - 1) (omega (arith, side.least));
  ydim = spaced (t.side - 1) (omega (arith, side.least));
}
