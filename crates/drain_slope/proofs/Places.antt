-- What stands at a place of the directions' order has that place.
use Rattle.drain_slope.proofs.Names.{◌≡◌, ℕ, ◌<◌, get_or, refl, East, directions, order_of, each_below, same_number}

pub place_at : (k : ℕ) → k < 8 → order_of (get_or directions k East) ≡ k
place_at = (each_below (λ k. same_number (order_of (get_or directions k East)) k) 8).sound refl
