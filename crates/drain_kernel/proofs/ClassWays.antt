-- A code that leads to the least number along the row, along the column or across corners leads down the steepest way, where the
-- ways to the two other least numbers are no steeper.
use Rattle.drain_kernel.proofs.Names.{◌≡◌, ℕ, ◌≤◌, ◌<◌, pos, Bool, true, false, not, map, inl, inr, refl, sym, ◌∙◌, ap, subst, arith, false≢true, and_parts, or_cases, Decides-eqb, Decides-ltb, Direction, East, SouthEast, South, SouthWest, West, NorthWest, North, NorthEast, directions, Names, Distances, weight_of, is_straight_code, least_across_in, is_col_code, is_row_code, least_col_in, least_row_in}
use Rattle.drain_kernel.specs.Slopes.{falls_by}
use Rattle.drain_kernel.proofs.NamedNumbers.{named_is, same_natural}

-- what it means that the way of a weight to a number is no steeper than that of another, and that a test shows it between ways along the
-- row, along the column and across corners
pub record ComparesWays (test : Direction → ℕ → Direction → ℕ → Bool) (s : Distances) (NoSteeper : ℕ → ℕ → ℕ → ℕ → Type 0) : Type 0 where
  pub itself : (w x : ℕ) → NoSteeper w x w x
  pub higher : (w low x v y : ℕ) → low ≤ x → NoSteeper w low v y → NoSteeper w x v y
  pub row_col : (y x : ℕ) → test East y South x ≡ true → NoSteeper (weight_of s East) y (weight_of s South) x
  pub row_corner : (y x : ℕ) → test East y SouthEast x ≡ true → NoSteeper (weight_of s East) y (weight_of s SouthEast) x
  pub col_row : (y x : ℕ) → test South y East x ≡ true → NoSteeper (weight_of s South) y (weight_of s East) x
  pub col_corner : (y x : ℕ) → test South y SouthEast x ≡ true → NoSteeper (weight_of s South) y (weight_of s SouthEast) x
  pub corner_row : (y x : ℕ) → test SouthEast y East x ≡ true → NoSteeper (weight_of s SouthEast) y (weight_of s East) x
  pub corner_col : (y x : ℕ) → test SouthEast y South x ≡ true → NoSteeper (weight_of s SouthEast) y (weight_of s South) x

-- a code of a class names a direction of its weight
no_code : (is_class : ℕ → Bool) (code c : ℕ) {P : Type 0} → pos code ≡ pos c → is_class c ≡ false → is_class code ≡ true → P
no_code is_class code c named not_of is = absurd (false≢true (sym not_of ∙ (sym (ap is_class (same_natural code c named)) ∙ is)))

row_weight : (s : Distances) (code : ℕ) (d : Direction) → Names (pos code) d → is_row_code code ≡ true → weight_of s East ≡ weight_of s d
row_weight s code East named is = refl
row_weight s code SouthEast named is = no_code is_row_code code 2 named refl is
row_weight s code South named is = no_code is_row_code code 4 named refl is
row_weight s code SouthWest named is = no_code is_row_code code 8 named refl is
row_weight s code West named is = refl
row_weight s code NorthWest named is = no_code is_row_code code 32 named refl is
row_weight s code North named is = no_code is_row_code code 64 named refl is
row_weight s code NorthEast named is = no_code is_row_code code 128 named refl is

col_weight : (s : Distances) (code : ℕ) (d : Direction) → Names (pos code) d → is_col_code code ≡ true → weight_of s South ≡ weight_of s d
col_weight s code East named is = no_code is_col_code code 1 named refl is
col_weight s code SouthEast named is = no_code is_col_code code 2 named refl is
col_weight s code South named is = refl
col_weight s code SouthWest named is = no_code is_col_code code 8 named refl is
col_weight s code West named is = no_code is_col_code code 16 named refl is
col_weight s code NorthWest named is = no_code is_col_code code 32 named refl is
col_weight s code North named is = refl
col_weight s code NorthEast named is = no_code is_col_code code 128 named refl is

corner_weight : (s : Distances) (code : ℕ) (d : Direction) → Names (pos code) d → not (is_straight_code code) ≡ true → weight_of s SouthEast ≡ weight_of s d
corner_weight s code East named is = no_code (λ c. not (is_straight_code c)) code 1 named refl is
corner_weight s code SouthEast named is = refl
corner_weight s code South named is = no_code (λ c. not (is_straight_code c)) code 4 named refl is
corner_weight s code SouthWest named is = refl
corner_weight s code West named is = no_code (λ c. not (is_straight_code c)) code 16 named refl is
corner_weight s code NorthWest named is = refl
corner_weight s code North named is = no_code (λ c. not (is_straight_code c)) code 64 named refl is
corner_weight s code NorthEast named is = refl

module _ (test : Direction → ℕ → Direction → ℕ → Bool) (s : Distances) (NoSteeper : ℕ → ℕ → ℕ → ℕ → Type 0) (compares : ComparesWays test s NoSteeper) where
  -- where no class has a steeper way, no way is steeper
  no_way_steeper : (v most : ℕ) (f : Direction → ℕ) → NoSteeper (weight_of s East) (least_row_in (map f directions)) v most →
      NoSteeper (weight_of s South) (least_col_in (map f directions)) v most → NoSteeper (weight_of s SouthEast) (least_across_in (map f directions)) v most →
      (e : Direction) → NoSteeper (weight_of s e) (f e) v most
  no_way_steeper v most f row col corner East = compares.higher _ _ (f East) v most (omega arith) row
  no_way_steeper v most f row col corner SouthEast = compares.higher _ _ (f SouthEast) v most (omega arith) corner
  no_way_steeper v most f row col corner South = compares.higher _ _ (f South) v most (omega arith) col
  no_way_steeper v most f row col corner SouthWest = compares.higher _ _ (f SouthWest) v most (omega arith) corner
  no_way_steeper v most f row col corner West = compares.higher _ _ (f West) v most (omega arith) row
  no_way_steeper v most f row col corner NorthWest = compares.higher _ _ (f NorthWest) v most (omega arith) corner
  no_way_steeper v most f row col corner North = compares.higher _ _ (f North) v most (omega arith) col
  no_way_steeper v most f row col corner NorthEast = compares.higher _ _ (f NorthEast) v most (omega arith) corner

  -- what is no steeper than a way of a class is no steeper than the named way
  as_named : (class d : Direction) (low x : ℕ) (f : Direction → ℕ) → weight_of s class ≡ weight_of s d → x ≡ low →
      ((e : Direction) → NoSteeper (weight_of s e) (f e) (weight_of s class) low) → (e : Direction) → NoSteeper (weight_of s e) (f e) (weight_of s d) x
  as_named class d low x f weight at most e =
      subst (λ y. NoSteeper (weight_of s e) (f e) (weight_of s d) y) (sym at) (subst (λ w. NoSteeper (weight_of s e) (f e) w low) weight (most e))

  -- the code leads down the steepest way
  pub steepest_by : (con code : ℕ) (cons : Direction → ℕ) (d : Direction) → Names (pos code) d → falls_by test con code (map cons directions) ≡ true →
      (cons d < con) × ((e : Direction) → NoSteeper (weight_of s e) (cons e) (weight_of s d) (cons d))
  unfolding falls_by
  steepest_by con code cons d named h =
      let parts = and_parts _ _ h in
      let next = named_is cons code d named in
      let row = least_row_in (map cons directions) in
      let col = least_col_in (map cons directions) in
      let corner = least_across_in (map cons directions) in (
        subst (λ x. x < con) next ((Decides-ltb _ _).0 parts.0),
        elim (or_cases _ _ parts.1) [
          | inl straight ↦ elim (or_cases _ _ straight) [
            | inl goes ↦ (
                let both = and_parts _ _ goes in
                let way = and_parts _ _ both.0 in
                let others = and_parts _ _ both.1 in
                as_named East d row (cons d) cons (row_weight s code d named way.0) (sym next ∙ (Decides-eqb _ _).0 way.1)
                (no_way_steeper _ row cons (compares.itself _ row) (compares.col_row col row others.0) (compares.corner_row corner row others.1)))
            | inr goes ↦ (
                let both = and_parts _ _ goes in
                let way = and_parts _ _ both.0 in
                let others = and_parts _ _ both.1 in
                as_named South d col (cons d) cons (col_weight s code d named way.0) (sym next ∙ (Decides-eqb _ _).0 way.1)
                (no_way_steeper _ col cons (compares.row_col row col others.0) (compares.itself _ col) (compares.corner_col corner col others.1)))
          ]
          | inr goes ↦ (
              let both = and_parts _ _ goes in
              let way = and_parts _ _ both.0 in
              let others = and_parts _ _ both.1 in
              as_named SouthEast d corner (cons d) cons (corner_weight s code d named way.0) (sym next ∙ (Decides-eqb _ _).0 way.1)
              (no_way_steeper _ corner cons (compares.row_corner row corner others.0) (compares.col_corner col corner others.1) (compares.itself _ corner)))
        ],
      )
