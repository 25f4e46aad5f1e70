-- The labels that were admitted: bits of the lowest in words of 64, and bits of others in words of blocks of 16.
use Rattle.std.specs.Prelude.{◌≡◌, ℕ, ℤ, ◌/◌, ◌%◌, max, List, get_or, nat_eq, unwrap_or, FitsSigned}
use Rattle.std.specs.Int.{bit_at, cast_unsigned, w64}
use Rattle.std.specs.Map.{lookup}

pub record LabelSet : Type 0 where
  pub low : List ℕ
  pub high : List (ℕ × ℕ)

-- the word of a block, which has a bit for each of its labels; 0 if none of them was admitted
abbrev pub word : List (ℕ × ℕ) → ℕ → ℕ
word high block = unwrap_or (lookup (nat_eq block) high) 0

-- a place's bit in the words of 64; 0 past them
abbrev pub low_bit : List ℕ → ℕ → ℕ
low_bit low place = bit_at (get_or low (place / 64) 0) (place % 64)

-- a place's bit in the words of blocks
abbrev pub high_bit : List (ℕ × ℕ) → ℕ → ℕ
high_bit high place = bit_at (word high (place / 16)) (place % 16)

-- a place's bit, in whichever words it is set
abbrev pub set_bit : LabelSet → ℕ → ℕ
set_bit labels place = max (low_bit labels.low place) (high_bit labels.high place)

-- the label was admitted, which only an i64 can be
pub record IsAdmitted (labels : LabelSet) (label : ℤ) : Type 0 where
  pub fits : FitsSigned w64 label
  pub is_set : set_bit labels (cast_unsigned w64 label) ≡ 1
