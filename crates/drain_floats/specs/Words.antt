-- The number of a float, and of the float nearest to a text.
use Rattle.std.specs.Prelude.{◌≡◌, ℤ, ℕ, ◌<◌, ◌≤◌, List, [], ◌∷◌, length, Option, Some, option_map}
use Rattle.std.specs.Float.{Float, binary32}
use Rattle.std.specs.Float.Ieee.{to_bits}
use Rattle.fast_float.specs.Parse.{parse_float}
use Rattle.drain_floats.specs.Patterns.{number_of}

-- that of its pattern
abbrev pub float_number : Float → ℤ
float_number x = number_of (to_bits binary32 x)

-- the number of the float nearest to a text, none if it is not that of a float
abbrev pub float_nodata : List ℕ → Option ℤ
float_nodata text = option_map float_number (parse_float binary32 text)

-- each byte is above the space
abbrev pub AreAboveSpace : List ℕ → Type 0
AreAboveSpace [] = Unit {0}
AreAboveSpace (x ∷ xs) = (32 < x) × AreAboveSpace xs

-- a word that reads as the float with this number: no blank is in it, and it has at most 25 bytes
pub record IsFloatWord (number : ℤ) (word : List ℕ) : Type 0 where
  pub reads : float_nodata word ≡ Some number
  pub some : 0 < length word
  pub short : length word ≤ 25
  pub ink : AreAboveSpace word
