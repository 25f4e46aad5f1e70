-- Slopes between heights of single precision, as products across.
use Rattle.std.specs.Prelude.{◌*◌, ◌<◌, ◌^◌, ◌-ℤ◌, ◌≤ℤ◌, ◌≡◌, ◌↔◌}
use Rattle.drain_slope.specs.Names.{ℕ, ℤ, pos, neg_ℤ, Bool, IsTrue, single_height}

-- a number of a height
pub record IsNumber (n : ℤ) : Type 0 where
  pub low : neg_ℤ (pos (2 ^ 32)) ≤ℤ n
  pub high : n ≤ℤ pos (2 ^ 32)

-- the test says whether the drop to the first height, over a distance of this square, is steeper than the drop to the second over its own
abbrev pub ComparesSlopes : ℤ → ℤ → ℤ → ℕ → ℕ → Bool → Type 0
ComparesSlopes here first second over other steeper =
    (x y : ℕ) → pos x ≡ single_height here -ℤ single_height first → pos y ≡ single_height here -ℤ single_height second →
    IsTrue steeper ↔ ((y * y) * over < (x * x) * other)

-- the same of the drops from a height to two others
abbrev pub ComparesDrops : ℤ → ℤ → ℤ → ℕ → ℕ → Bool → Type 0
ComparesDrops here first second over other steeper =
    (x y : ℕ) → pos x ≡ here -ℤ first → pos y ≡ here -ℤ second → IsTrue steeper ↔ ((y * y) * over < (x * x) * other)
