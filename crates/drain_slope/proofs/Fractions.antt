-- What a fraction below the ratio of two distances shows of two drops.
use Rattle.drain_slope.proofs.Names.{ℕ, ℤ, ◌*◌, ◌≤◌, ◌≡◌, pos, ◌≤ℤ◌, arith, refl, ints, Direction, slope_key, Distances, IsSpacing, distance_square, weight_of, by_fraction, steeper_across}
use Rattle.drain_slope.specs.declared.fraction.Fraction.{Fraction}
use Rattle.drain_slope.specs.Fractions.{IsBelow}
use Rattle.drain_slope.proofs.Keys.{not_less_is}

-- products across give keys
no_steeper : (s : Distances) (e d : Direction) (x y : ℕ) → IsSpacing s → (x * x) * distance_square s d ≤ (y * y) * distance_square s e →
    slope_key (weight_of s e) (pos x) ≤ℤ slope_key (weight_of s d) (pos y)
no_steeper s e d x y valid least =
    not_less_is (slope_key (weight_of s d) (pos y)) (slope_key (weight_of s e) (pos x))
    (λ less. let more = (steeper_across s e d x y valid).1 less in absurd (omega (arith, least, more)))

numbers_of : (a b : ℤ) (m n : ℕ) → a ≡ pos m → b ≡ pos n → a ≤ℤ b → m ≤ n
numbers_of a b m n a_is b_is h = omega (arith, ints, h)

-- a way whose drop is no greater by the fraction is no steeper
pub by_fraction_below : (s : Distances) (e d : Direction) (f : Fraction) (x y : ℕ) → IsSpacing s → IsBelow (distance_square s e) (distance_square s d) f →
    x * f.p ≤ y * f.q → weight_of s e * (x * x) ≤ weight_of s d * (y * y)
by_fraction_below s e d f x y valid is least =
    numbers_of (slope_key (weight_of s e) (pos x)) (slope_key (weight_of s d) (pos y)) _ _ refl refl
    (no_steeper s e d x y valid (by_fraction x y f.p f.q (distance_square s e) (distance_square s d) is.some least is.below))
