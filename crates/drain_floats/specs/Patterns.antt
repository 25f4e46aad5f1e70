-- The numbers of patterns of 32 bits, and back.
-- Source: IEEE 754 binary32; that every NaN has one number, and both zeros have one, is this project's own.
use Rattle.std.specs.Prelude.{ℕ, ◌+◌, ◌-◌, ◌%◌, ◌≡◌, ℤ, pos, negsuc, neg_ℤ, ◌≤ℤ◌, ◌⊎◌, Bool, ◌&&◌, int_le, nat_lt, if◌then◌else◌}

-- the pattern without its sign
abbrev pub place_of : ℕ → ℕ
place_of pattern = pattern % 2147483648

-- the number of a pattern: its place, below 0 for a sign; one number for every NaN
abbrev pub number_of : ℕ → ℤ
number_of pattern =
    if nat_lt 2139095040 (place_of pattern) then pos 2143289344
    else (if nat_lt pattern 2147483648 then pos pattern else neg_ℤ (pos (pattern - 2147483648)))

-- the pattern that is written for a number
abbrev pub pattern_of : ℤ → ℕ
pattern_of (pos n) = n
pattern_of (negsuc n) = 2147483649 + n

-- the number is that of a finite float, neither of an infinity nor of NaN
abbrev pub is_finite : ℤ → Bool
is_finite number = int_le (neg_ℤ (pos 2139095039)) number && int_le number (pos 2139095039)

-- a number of a float, no NaN's
pub record IsSingle (n : ℤ) : Type 0 where
  pub low : neg_ℤ (pos 2139095040) ≤ℤ n
  pub high : n ≤ℤ pos 2139095040

-- a number of a float: that of a pattern
abbrev pub IsFloatNumber : ℤ → Type 0
IsFloatNumber n = IsSingle n ⊎ (n ≡ pos 2143289344)

-- what is written is read as the same
abbrev pub PatternsReadBack : Type 0
PatternsReadBack = (n : ℤ) → IsSingle n → number_of (pattern_of n) ≡ n
