-- Coordinates of two headers, as a program reads them.
use Rattle.drain_raster.proofs.Names.{◌≡◌, ◌↔◌, ℕ, ◌*◌, ◌≤◌, ℤ, ◌-ℤ◌, Bool, IsTrue, nat_abs, arith, ◌∙◌, ints, to_z-of_z, w128, to_z, of_z, IsCoordinate}
use Rattle.drain_raster.specs.Placing.{AreWithinPixel}

-- a coordinate goes through 128 bits unchanged
pub coordinate-so : (z read : ℤ) → IsCoordinate read → read ≡ z → to_z w128 (of_z w128 read) ≡ z
coordinate-so z read ok is = to_z-of_z w128 read (grind (arith, ints, ok.low, ok.high)) ∙ is

-- the test of what was read is that of the headers
pub within-so : (result : Bool) (times often apart : ℕ) (size a b width left right : ℤ) → often ≡ times → width ≡ size → left ≡ a → right ≡ b →
    apart ≡ nat_abs (left -ℤ right) → (IsTrue result ↔ (often * apart ≤ nat_abs width)) → IsTrue result ↔ AreWithinPixel times size a b
within-so result times often apart size a b width left right is_times is_size is_a is_b is_apart test =
    rw (← is_times, ← is_size, ← is_a, ← is_b, ← is_apart) test
