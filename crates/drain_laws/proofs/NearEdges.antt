-- How many level steps a cell of a surface is from a low edge: a cell that is open or has a lower neighbour. If the surface
-- drains, each data cell has such a number, the rank here, and a cell that is no low edge has a level neighbour with a
-- smaller one.
use Rattle.drain_laws.proofs.Names.{◌≡◌, ℕ, zero, suc, ◌<◌, ◌⊎◌, inl, inr, false, List, [], ◌∷◌, Option, Some, None, refl, sym, subst, arith, false≢true, ints, by_lt_z, Cell, Direction, step, Grid, Products, HasData, patch_at, IsOpen, HasLower, IsPath, NeverRises, Drains, Decision, cases, both, either, same, some_direction, HasData-path, direction_between, step_gives, data_cell, has_lower, is_open, IsOpen-patch_at, HasLower-lower_cell}
use Rattle.drain_laws.proofs.SameWays.{IsLeastNumber, least_number, least-le}

-- there is a cell, and the fact holds of it
abbrev pub OfSome : Option Cell → (Cell → Type 0) → Type 0
OfSome None P = ⊥
OfSome (Some n) P = P n

some_there : (o : Option Cell) (P : Cell → Type 0) → OfSome o P → (n : Cell) × ((o ≡ Some n) × P n)
some_there None P h = absurd h
some_there (Some n) P h = (n, (refl, h))

abbrev pub of_some : {P : Cell → Type 0} → (o : Option Cell) → ((n : Cell) → Decision (P n)) → Decision (OfSome o P)
of_some None d = record { test = false; sound = λ h. false≢true h; complete = λ h. absurd h }
of_some (Some n) d = d n

-- k level steps lead from the cell to a low edge
abbrev pub IsNear : Grid → Products → ℕ → Cell → Type 0
IsNear g ps zero c = IsOpen (patch_at g ps c) ⊎ HasLower (patch_at g ps c)
IsNear g ps (suc k) c = (d : Direction) × OfSome (step g.extent c d) (λ n. HasData g n × ((ps.con n ≡ ps.con c) × IsNear g ps k n))

abbrev pub is_near : (g : Grid) (ps : Products) (k : ℕ) (c : Cell) → Decision (IsNear g ps k c)
is_near g ps zero c = either (is_open (patch_at g ps c)) (has_lower (patch_at g ps c))
is_near g ps (suc k) c =
    some_direction (λ d. of_some (step g.extent c d) (λ n. both (data_cell g n) (both (same (ps.con n) (ps.con c)) (is_near g ps k n))))

-- along a path that never rises some number of level steps does
near_path : (g : Grid) (ps : Products) (c : Cell) (rest : List Cell) → IsPath g c rest → NeverRises ps.con c rest → (k : ℕ) × IsNear g ps k c
near_path g ps c [] path never = (0, inl ((IsOpen-patch_at g ps c path.0).1 path))
near_path g ps c (n ∷ rest) path never =
    let there = HasData-path g n rest path.2 in
    let step_down = never.0 in
    by_lt_z {P = (k : ℕ) × IsNear g ps k c} (ps.con n) (ps.con c)
    (λ less. (0, inr (HasLower-lower_cell g ps c n (record { from_data = path.0; to_data = there; beside = path.1; below = less }))))
    (λ most.
    (let on = near_path g ps n rest path.2 never.1 in
    let way = direction_between c n path.1 in
    let level : ps.con n ≡ ps.con c = omega (arith, ints, step_down, most) in
    let here = step_gives g.extent c n way.0 there.inside way.1 in
    (suc on.0, (way.0, subst (λ o. OfSome o (λ m. HasData g m × ((ps.con m ≡ ps.con c) × IsNear g ps on.0 m))) (sym here) (there, (level, on.1))))))

module _ (g : Grid) (ps : Products) (drains : Drains g ps.con) where
  ranked : (c : Cell) → (m : ℕ) × (HasData g c → IsLeastNumber (λ k. IsNear g ps k c) m)
  ranked c =
      elim (cases (data_cell g c)) [
        | inl here ↦
            (let path = drains c here in
            let near = near_path g ps c path.0 path.1 path.2 in
            let least = least_number (λ k. is_near g ps k c) near.0 near.1 in
            (least.0, λ is_data. least.1))
        | inr none ↦ (0, λ here. absurd (none here))
      ]

  -- the least number of level steps
  pub rank_of : Cell → ℕ
  rank_of c = (ranked c).0

  rank-least : (c : Cell) → HasData g c → IsLeastNumber (λ k. IsNear g ps k c) (rank_of c)
  unfolding rank_of
  rank-least c here = (ranked c).1 here

  -- a level step to a cell with a smaller rank
  pub record IsStepOn (c : Cell) (rank : ℕ) (d : Direction) (n : Cell) : Type 0 where
    pub there : step g.extent c d ≡ Some n
    pub to_data : HasData g n
    pub level : ps.con n ≡ ps.con c
    pub nearer : rank_of n < rank

  step_by : (c : Cell) → ¬ IsOpen (patch_at g ps c) → ¬ HasLower (patch_at g ps c) → (m : ℕ) → IsNear g ps m c →
      (d : Direction) × ((n : Cell) × IsStepOn c m d n)
  step_by c shut flat zero (inl is_open) = absurd (shut is_open)
  step_by c shut flat zero (inr low) = absurd (flat low)
  step_by c shut flat (suc k) way =
      let found = some_there (step g.extent c way.0) (λ n. HasData g n × ((ps.con n ≡ ps.con c) × IsNear g ps k n)) way.1 in
      let most = least-le (rank_of found.0) k (rank-least found.0 found.1.1.0) found.1.1.1.1 in
      (way.0, (found.0, record { there = found.1.0; to_data = found.1.1.0; level = found.1.1.1.0; nearer = omega (arith, most) }))

  pub step_on : (c : Cell) → HasData g c → ¬ IsOpen (patch_at g ps c) → ¬ HasLower (patch_at g ps c) →
      (d : Direction) × ((n : Cell) × IsStepOn c (rank_of c) d n)
  step_on c here shut flat = step_by c shut flat (rank_of c) (rank-least c here).holds
