-- The heights that numbers stand for: themselves, or floats of single precision by their places among the floats, counted
-- from 0. The place of a float is its pattern without the sign, less than 0 for a sign.
-- Source: IEEE 754 binary32 (8 bits of exponent, 23 of fraction). That heights are counted in units of 2^-149, the least
-- float, and named by their places, is this project's own.
use Rattle.std.specs.Prelude.{ℕ, suc, ◌+◌, ◌-◌, ◌*◌, ◌/◌, ◌%◌, ◌^◌, ℤ, pos, negsuc, neg_ℤ, nat_lt, if◌then◌else◌}
use Rattle.drain_grid.specs.declared.height_kind.HeightKind.{HeightKind}
use Rattle.drain_grid.specs.declared.height_kind.HeightKind.TheVariants.{Whole, Single}

-- the digits of the float at a place: its fraction, and above the least exponents a leading 1
abbrev pub digits_of : ℕ → ℕ
digits_of k = if nat_lt k 8388608 then k else 8388608 + k % 8388608

-- by how many bits they are shifted, in units of 2^-149
abbrev pub shift_of : ℕ → ℕ
shift_of k = k / 8388608 - 1

-- the float at a place, in these units
abbrev pub magnitude_of : ℕ → ℕ
magnitude_of k = digits_of k * 2 ^ shift_of k

-- the float of a number, in these units
abbrev pub single_height : ℤ → ℤ
single_height (pos k) = pos (magnitude_of k)
single_height (negsuc k) = neg_ℤ (pos (magnitude_of (suc k)))

-- the height of a number: of floats in units of 2^-149
abbrev pub height_of : HeightKind → ℤ → ℤ
height_of Whole number = number
height_of Single number = single_height number
