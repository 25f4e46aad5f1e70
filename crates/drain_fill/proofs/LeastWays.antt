-- The least that neighbours allow, found direction by direction.
use Rattle.drain_fill.proofs.Names.{◌≡◌, ℕ, ◌+◌, ◌<◌, ℤ, ◌≤ℤ◌, ◌↔◌, Option, Some, None, IsSome, ◌⊎◌, MatchOption, IfSome, option_and_then, is_some, if◌then◌else◌, get_or, refl, inl, inr, sym, ◌∙◌, subst, arith, below_more, rules, ints, int_max, Direction, Patch, directions, IsDataCell, IsDataNeighbor, neighbor, height, Values, NotLeastHolds}
use Rattle.drain_grid.specs.declared.direction.Direction.TheVariants.{East, SouthEast, South, SouthWest, West, NorthWest, North, NorthEast}
use Rattle.drain_fill.specs.LeastWays.{IsGreatestAllowed, IsNotAbove, way, way_of}

-- the least of the directions before a place
pub record IsLeastBefore (p : Patch) (i : ℕ) (least : Option ℤ) : Type 0 where
  pub bound : (k : ℕ) → k < i → IsNotAbove least (way p (get_or directions k East))
  pub reached : (a : ℤ) → least ≡ Some a → (d : Direction) × (way p d ≡ Some a)

-- what isn't above one that isn't above a third isn't above it
not_above : (a b c : Option ℤ) → IsNotAbove a b → IsNotAbove b c → IsNotAbove a c
not_above a b None ab bc = tt
not_above (Some a) (Some b) (Some c) ab bc = omega (arith, ints)
not_above None (Some b) (Some c) ab bc = absurd ab
not_above a None (Some c) ab bc = absurd bc

-- before the first place there is none
pub least_before_first : (p : Patch) → IsLeastBefore p 0 None
least_before_first p = record { bound = λ k h. absurd (omega arith); reached = λ a is. search rules }

-- one place on, it is the lesser of it and what is allowed there
pub least_before_next : (p : Patch) (i : ℕ) (least here lesser : Option ℤ) → here ≡ way p (get_or directions i East) →
    IsNotAbove lesser least → IsNotAbove lesser here → (lesser ≡ least) ⊎ (lesser ≡ here) → IsLeastBefore p i least → IsLeastBefore p (i + 1) lesser
least_before_next p i least here lesser is_here below_least below_here either before = record {
  bound = below_more (λ k. IsNotAbove lesser (way p (get_or directions k East))) i
      (λ k h. not_above lesser least (way p (get_or directions k East)) below_least (before.bound k h))
      (subst (IsNotAbove lesser) is_here below_here);
  reached = λ a is. elim either [
    | inl same ↦ before.reached a (sym same ∙ is)
    | inr same ↦ (get_or directions i East, sym is_here ∙ (sym same ∙ is))
  ];
}

-- what a data neighbour allows
way_there : (ground : ℤ) (o : Option Values) (n : Values) → o ≡ Some n → IsSome n.z → option_and_then (way_of ground) o ≡ Some (int_max ground n.con)
way_there ground o n is has = search rules

-- a choice that gave something
chosen : (z : Option ℤ) (most a : ℤ) → (if is_some z then Some most else None) ≡ Some a → IsSome z × (a ≡ most)
chosen None most a is = search rules
chosen (Some h) most a is = search rules

-- and who allows it
there_of_way : (ground : ℤ) (o : Option Values) (a : ℤ) → option_and_then (way_of ground) o ≡ Some a → (n : Values) × (o ≡ Some n) × IsSome n.z × (a ≡ int_max ground n.con)
there_of_way ground None a is = search rules
there_of_way ground (Some n) a is = let given = chosen n.z (int_max ground n.con) a is in (n, refl, given.0, given.1)

-- what holds at each place holds of each direction
of_each : (P : Direction → Type 0) → ((k : ℕ) → k < 8 → P (get_or directions k East)) → (d : Direction) → P d
of_each P h East = h 0 (omega arith)
of_each P h SouthEast = h 1 (omega arith)
of_each P h South = h 2 (omega arith)
of_each P h SouthWest = h 3 (omega arith)
of_each P h West = h 4 (omega arith)
of_each P h NorthWest = h 5 (omega arith)
of_each P h North = h 6 (omega arith)
of_each P h NorthEast = h 7 (omega arith)

-- past the last place it is the least of all
pub least_of_all : (p : Patch) (least : Option ℤ) → IsLeastBefore p 8 least →
    MatchOption least ((d : Direction) (n : Values) → ¬ IsDataNeighbor p d n) (IsGreatestAllowed p)
least_of_all p None before = λ d n beside.
    let all : IsNotAbove None (way p d) = of_each (λ e. IsNotAbove None (way p e)) before.bound d in
    subst (IsNotAbove None) (way_there (height p) (neighbor p d) n beside.is beside.has_data) all
least_of_all p (Some a) before = record {
  bound = λ d n beside.
      let all : IsNotAbove (Some a) (way p d) = of_each (λ e. IsNotAbove (Some a) (way p e)) before.bound d in
      subst (IsNotAbove (Some a)) (way_there (height p) (neighbor p d) n beside.is beside.has_data) all;
  reached =
      let at = before.reached a refl in
      let there = there_of_way (height p) (neighbor p at.0) a at.1 in
      (at.0, there.0, record { is = there.1; has_data = there.2 }, there.3);
}

-- a data cell keeps NotLeast exactly if its conditioned elevation is at most that; with no data neighbour it always does
pub keeps_up_to : (p : Patch) (least : Option ℤ) → MatchOption least ((d : Direction) (n : Values) → ¬ IsDataNeighbor p d n) (IsGreatestAllowed p) →
    IsDataCell p → NotLeastHolds p ↔ IfSome least (λ most. p.here.con ≤ℤ most)
keeps_up_to p None alone has_data = ((λ holds. tt), (λ any known d n beside. absurd (alone d n beside)))
keeps_up_to p (Some most) greatest has_data =
    let at = greatest.reached in
    let reached : most ≡ int_max (height p) at.1.con = at.3 in (
      (λ holds. let below : p.here.con ≤ℤ int_max (height p) at.1.con = holds has_data at.0 at.1 at.2 in omega (arith, ints)),
      (λ (below : p.here.con ≤ℤ most) known d n beside. let bound : most ≤ℤ int_max (height p) n.con = greatest.bound d n beside in omega (arith, ints)),
    )
