-- Fractions below the ratio of two distances. That they decide which of two ways is steeper is this project's own.
use Rattle.std.specs.Prelude.{ℕ, ◌<◌, ◌≤◌, ◌*◌}
use Rattle.drain_slope.specs.declared.fraction.Fraction.{Fraction}

-- it has a denominator, and is no greater than the ratio of the first distance to the other, by their squares
pub record IsBelow (square other : ℕ) (f : Fraction) : Type 0 where
  pub some : 0 < f.p
  pub below : other * (f.q * f.q) ≤ square * (f.p * f.p)
