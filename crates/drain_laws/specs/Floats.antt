-- What the toolchain's definition of floats says of a pattern of 32 bits, and which number and height it has here.
-- The toolchain's `of_bits` gives the float of a pattern: `nan`, `inf s` or `fin s m e`. The last is m * 2 ^ e, with a
-- sign where s is true.
-- Source: IEEE 754 binary32, as the toolchain defines it; numbers and heights are this project's own.
use Rattle.std.specs.Prelude.{◌≡◌, ℕ, suc, ◌+◌, ◌*◌, ◌^◌, ◌<◌, Bool, ℤ, pos, negsuc, neg_ℤ, nat_le, if◌then◌else◌}
use Rattle.std.specs.Float.Ieee.{Float, binary32, nan, inf, fin, of_bits}
use Rattle.drain_grid.specs.HeightKinds.{magnitude_of, single_height}
use Rattle.drain_floats.specs.Patterns.{place_of, number_of}

-- m * 2 ^ (e + 149) is h, without division: negsuc k is -(k + 1), and there both sides are multiplied by 2 ^ (k + 1)
abbrev pub AreUnits : ℕ → ℤ → ℕ → Type 0
AreUnits m (pos k) h = m * 2 ^ (k + 149) ≡ h
AreUnits m (negsuc k) h = m * 2 ^ 149 ≡ h * 2 ^ suc k

-- a float is finite, and has this sign and this size in units of 2^-149
abbrev pub IsFinite : Float → Bool → ℕ → Type 0
IsFinite nan s h = ⊥
IsFinite (inf t) s h = ⊥
IsFinite (fin t m e) s h = (t ≡ s) × AreUnits m e h

-- the sign of a pattern of 32 bits
abbrev pub has_sign : ℕ → Bool
has_sign pattern = nat_le 2147483648 pattern

-- a size with this sign
abbrev pub with_sign : Bool → ℕ → ℤ
with_sign s size = if s then neg_ℤ (pos size) else pos size

-- a pattern's float, number and height: at places below 2139095040 it is finite, at this place infinite, above it a NaN
pub record MeansFloat (pattern : ℕ) : Type 0 where
  pub finite : place_of pattern < 2139095040 → IsFinite (of_bits binary32 pattern) (has_sign pattern) (magnitude_of (place_of pattern))
  pub height : place_of pattern < 2139095040 → single_height (number_of pattern) ≡ with_sign (has_sign pattern) (magnitude_of (place_of pattern))
  pub infinity : place_of pattern ≡ 2139095040 → of_bits binary32 pattern ≡ inf (has_sign pattern)
  pub infinity_number : place_of pattern ≡ 2139095040 → number_of pattern ≡ with_sign (has_sign pattern) 2139095040
  pub no_float : 2139095040 < place_of pattern → of_bits binary32 pattern ≡ nan
  pub no_float_number : 2139095040 < place_of pattern → number_of pattern ≡ pos 2143289344

-- each pattern of 32 bits means what the toolchain says
abbrev pub PatternsMeanFloats : Type 0
PatternsMeanFloats = (pattern : ℕ) → pattern < 4294967296 → MeansFloat pattern
