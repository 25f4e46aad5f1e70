-- Where a neighbour is lower, one is steepest: the best of the directions, one after another.
use Rattle.drain_laws.proofs.Names.{◌≡◌, ◌≤ℤ◌, ◌⊎◌, inl, inr, List, [], ◌∷◌, refl, sym, ap, ◌∙◌, subst, arith, ints, by_lt_z, Direction, Patch, directions, neighbor, IsLower, IsLowerAt, HasLower, key_to, IsSteepest, Values, cases, same_some, is_lower_at}
use Rattle.drain_grid.specs.declared.direction.Direction.TheVariants.{East, SouthEast, South, SouthWest, West, NorthWest, North, NorthEast}

-- the direction is in the list
abbrev IsIn : Direction → List Direction → Type 0
IsIn e [] = ⊥
IsIn e (d ∷ ds) = (e ≡ d) ⊎ IsIn e ds

in_directions : (e : Direction) → IsIn e directions
in_directions East = inl refl
in_directions SouthEast = inr (inl refl)
in_directions South = inr (inr (inl refl))
in_directions SouthWest = inr (inr (inr (inl refl)))
in_directions West = inr (inr (inr (inr (inl refl))))
in_directions NorthWest = inr (inr (inr (inr (inr (inl refl)))))
in_directions North = inr (inr (inr (inr (inr (inr (inl refl))))))
in_directions NorthEast = inr (inr (inr (inr (inr (inr (inr (inl refl)))))))

-- lower, and of the directions in the list none that is lower is steeper
record IsBestOf (p : Patch) (ds : List Direction) (d : Direction) (n : Values) : Type 0 where
  lower : IsLower p d n
  best : (e : Direction) (m : Values) → IsIn e ds → IsLower p e m → key_to p e m ≤ℤ key_to p d n

same_key : (p : Patch) (d e : Direction) (n m : Values) → e ≡ d → IsLower p d n → IsLower p e m → key_to p e m ≡ key_to p d n
same_key p d e n m same to_n to_m =
    let one : m ≡ n = same_some m n (sym to_m.beside.is ∙ (ap (neighbor p) same ∙ to_n.beside.is)) in
    ap (λ x. key_to p x m) same ∙ ap (key_to p d) one

module _ (p : Patch) (d : Direction) (ds : List Direction) where
  -- the first of the list is lower
  first_best : (n : Values) → IsLower p d n → ((e : Direction) (m : Values) → IsIn e ds → IsLower p e m → key_to p e m ≤ℤ key_to p d n) →
      IsBestOf p (d ∷ ds) d n
  first_best n low rest = record { lower = low; best = most }
    where
      most : (e : Direction) (m : Values) → IsIn e (d ∷ ds) → IsLower p e m → key_to p e m ≤ℤ key_to p d n
      most e m (inl same) to_m = (let equal = same_key p d e n m same low to_m in omega (arith, ints, equal))
      most e m (inr later) to_m = rest e m later to_m

  -- a later one is as steep
  later_best : (e : Direction) (n : Values) → IsBestOf p ds e n → ((m : Values) → IsLower p d m → key_to p d m ≤ℤ key_to p e n) →
      IsBestOf p (d ∷ ds) e n
  later_best e n found first = record { lower = found.lower; best = most }
    where
      most : (x : Direction) (m : Values) → IsIn x (d ∷ ds) → IsLower p x m → key_to p x m ≤ℤ key_to p e n
      most x m (inl same) to_m = subst (λ y. key_to p y m ≤ℤ key_to p e n) (sym same) (first m (subst (λ y. IsLower p y m) same to_m))
      most x m (inr later) to_m = found.best x m later to_m

none_in : (p : Patch) (d : Direction) (ds : List Direction) → ((e : Direction) → IsIn e ds → ¬ IsLowerAt p e) → ¬ IsLowerAt p d →
    (e : Direction) → IsIn e (d ∷ ds) → ¬ IsLowerAt p e
none_in p d ds none high e (inl same) low = high (subst (IsLowerAt p) same low)
none_in p d ds none high e (inr later) low = none e later low

best_of : (p : Patch) (ds : List Direction) →
    ((d : Direction) × ((n : Values) × IsBestOf p ds d n)) ⊎ ((e : Direction) → IsIn e ds → ¬ IsLowerAt p e)
best_of p [] = inr (λ e none low. none)
best_of p (d ∷ ds) =
    elim (cases (is_lower_at p d)) [
      | inl low ↦
          elim (best_of p ds) [
            | inl found ↦
                by_lt_z (key_to p found.0 found.1.0) (key_to p d low.0)
                (λ less. inl (
                  d,
                  (
                    low.0,
                    first_best p d ds low.0 low.1
                        (λ e m later to_m. let most = found.1.1.best e m later to_m in omega (arith, ints, less, most)),
                  ),
                ))
                (λ most. inl (
                  found.0,
                  (
                    found.1.0,
                    later_best p d ds found.0 found.1.0 found.1.1
                        (λ m to_m. let equal = same_key p d d low.0 m refl low.1 to_m in omega (arith, ints, most, equal)),
                  ),
                ))
            | inr none ↦ inl (d, (low.0, first_best p d ds low.0 low.1 (λ e m later to_m. absurd (none e later (m, to_m)))))
          ]
      | inr high ↦
          elim (best_of p ds) [
            | inl found ↦ inl (found.0, (found.1.0, later_best p d ds found.0 found.1.0 found.1.1 (λ m to_m. absurd (high (m, to_m)))))
            | inr none ↦ inr (none_in p d ds none high)
          ]
    ]

pub some_steepest : (p : Patch) → HasLower p → (d : Direction) × IsSteepest p d
some_steepest p low =
    elim (best_of p directions) [
      | inl found ↦ (
        found.0,
        (
          found.1.0,
          record {
            lower = found.1.1.lower;
            greatest = λ e m to_m. found.1.1.best e m (in_directions e) to_m;
          },
        ),
      )
      | inr none ↦ absurd (none low.1.0 (in_directions low.1.0) low.1.1)
    ]
