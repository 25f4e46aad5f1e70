-- No surface of heights that covers the ground and drains is lower than con's heights: along the path on which it never rises,
-- as for numbers (Lowered), since heights rise with numbers.
use Rattle.drain_grid.proofs.Names.{◌≡◌, ◌≤ℤ◌, ℤ, List, [], ◌∷◌, sym, subst, arith, ints, clamps, by_lt_z, Cell, HeightKind, Grid, HasData, height_at, height_of, IsPath, Surface, NeverRises, Drains, IsLeastSurface}
use Rattle.drain_grid.proofs.Lowered.{HasData-path, least_at_open, least_beside}
use Rattle.drain_grid.proofs.SingleHeights.{numbers_order}

-- a number that isn't greater stands for no greater height
pub heights_follow : (kind : HeightKind) (a b : ℤ) → a ≤ℤ b → height_of kind a ≤ℤ height_of kind b
heights_follow kind a b most = by_lt_z a b
    (λ less. let rise = (numbers_order kind a b).0 less in omega (arith, ints, rise))
    (λ least. let same : a ≡ b = omega (arith, ints, most, least) in subst (λ z. height_of kind a ≤ℤ height_of kind z) same (omega (arith, ints)))

module _ (g : Grid) (s : Surface) (least : IsLeastSurface g s) (kind : HeightKind) where
  along : (t : Surface) → ((c : Cell) → HasData g c → height_of kind (height_at g c) ≤ℤ t c) → (c : Cell) (rest : List Cell) → IsPath g c rest →
      NeverRises t c rest → height_of kind (s c) ≤ℤ t c
  along t covers c [] path level =
      let here = HasData-path g c [] path in
      subst (λ z. height_of kind z ≤ℤ t c) (sym (least_at_open g s least c here path)) (covers c here)
  along t covers c (n ∷ rest) path level =
      let ground = covers c path.0 in
      let step_down = level.0 in
      let onward = along t covers n rest path.2 level.1 in
      let here = least_beside g s least c n path.0 (HasData-path g n rest path.2) path.1 in
      by_lt_z (s n) (height_at g c)
      (λ less. let low = heights_follow kind (s c) (height_at g c) (omega (arith, ints, clamps, here, less)) in omega (arith, ints, low, ground))
      (λ most. let low = heights_follow kind (s c) (s n) (omega (arith, ints, clamps, here, most)) in omega (arith, ints, low, onward, step_down))

  pub least_among_heights : (t : Surface) → ((c : Cell) → HasData g c → height_of kind (height_at g c) ≤ℤ t c) → Drains g t → (c : Cell) → HasData g c →
      height_of kind (s c) ≤ℤ t c
  least_among_heights t covers drains c here = let way = drains c here in along t covers c way.0 way.1 way.2
