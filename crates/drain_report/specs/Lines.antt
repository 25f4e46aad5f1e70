-- The lines of a report: a word, and numbers with a space before each. The form is this project's own.
use Rattle.std.specs.Prelude.{◌≡◌, ◌<◌, ◌⊎◌, ◌∷◌, ◌++◌}
use Rattle.drain_report.specs.Names.{ℕ, ℤ, List, [], signed_decimal}
use Rattle.std.specs.Int.{w64}
use Rattle.std.specs.Int.RustNames.{FitsSigned}

-- a signed number of 64 bits
abbrev pub IsLong : ℤ → Type 0
IsLong n = FitsSigned w64 n

-- each of them is one
abbrev pub AreLong : List ℤ → Type 0
AreLong [] = Unit {0}
AreLong (n ∷ ns) = IsLong n × AreLong ns

-- each byte is above the space
abbrev pub IsInk : List ℕ → Type 0
IsInk [] = Unit {0}
IsInk (x ∷ xs) = (32 < x) × IsInk xs

-- numbers, a space before each
abbrev pub spaced : List ℤ → List ℕ
spaced [] = []
spaced (n ∷ ns) = 32 ∷ (signed_decimal n ++ spaced ns)

-- a line: its word, its numbers, and a line feed
abbrev pub line : List ℕ → List ℤ → List ℕ
line word ns = word ++ (spaced ns ++ 10 ∷ [])

-- a text begins with a space and this word, and goes on with a space or the end of the line
pub record IsWordThen (text word : List ℕ) (c : ℕ) (rest : List ℕ) : Type 0 where
  pub ink : IsInk word
  pub ends : (c ≡ 32) ⊎ (c ≡ 10)
  pub is : text ≡ 32 ∷ (word ++ c ∷ rest)

-- the same of a number
pub record IsNumberThen (text : List ℕ) (n : ℤ) (c : ℕ) (rest : List ℕ) : Type 0 where
  pub long : IsLong n
  pub ends : (c ≡ 32) ⊎ (c ≡ 10)
  pub is : text ≡ 32 ∷ (signed_decimal n ++ c ∷ rest)

-- the same of numbers
pub record AreNumbersThen (text : List ℕ) (ns : List ℤ) (c : ℕ) (rest : List ℕ) : Type 0 where
  pub long : AreLong ns
  pub ends : (c ≡ 32) ⊎ (c ≡ 10)
  pub is : text ≡ spaced ns ++ c ∷ rest

-- a text begins with this line
pub record IsLineThen (text word : List ℕ) (ns : List ℤ) (rest : List ℕ) : Type 0 where
  pub long : AreLong ns
  pub is : text ≡ line word ns ++ rest
