-- The numbers of the heights of eight neighbours.
use Rattle.std.specs.Prelude.{ℕ, List, [], ◌∷◌}
use Rattle.drain_kernel.specs.declared.around.Eight.{Eight}

-- in the order of directions
abbrev pub eight : {H : Type 0} → (H → ℕ) → Eight H → List ℕ
eight number xs =
    number xs.east ∷ number xs.south_east ∷ number xs.south ∷ number xs.south_west ∷ number xs.west ∷ number xs.north_west ∷ number xs.north ∷
    number xs.north_east ∷ []
