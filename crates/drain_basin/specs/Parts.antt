-- How the two kinds of words of a set of labels share its places.
use Rattle.std.specs.Prelude.{◌≡◌, ℕ, ◌/◌, ◌<◌, List, length}
use Rattle.drain_basin.specs.Admitted.{high_bit}

-- no block has a place of the words of 64
abbrev pub AreApart : List ℕ → List (ℕ × ℕ) → Type 0
AreApart low high = (place : ℕ) → place / 64 < length low → high_bit high place ≡ 0
