-- What each neighbour allows as conditioned elevation, and the least of it.
use Rattle.std.specs.Prelude.{◌≡◌, ◌≤ℤ◌, if◌then◌else◌}
use Rattle.drain_fill.specs.Names.{ℤ, Option, Some, None, is_some, option_and_then, int_max, Direction, height, neighbor, IsDataNeighbor, Values}
use Rattle.drain_grid.specs.declared.patch.Patch.{Patch}

-- the greater of the ground and the elevation there; none without data there
abbrev pub way_of : ℤ → Values → Option ℤ
way_of elevation n = if is_some n.z then Some (int_max elevation n.con) else None

-- in this direction
abbrev pub way : Patch → Direction → Option ℤ
way p d = option_and_then (way_of (height p)) (neighbor p d)

-- none is above every number
abbrev pub IsNotAbove : Option ℤ → Option ℤ → Type 0
IsNotAbove a None = Unit {0}
IsNotAbove (Some a) (Some b) = a ≤ℤ b
IsNotAbove None (Some b) = ⊥

-- the greatest conditioned elevation with which rule NotLeast holds at a data cell
pub record IsGreatestAllowed (p : Patch) (con : ℤ) : Type 0 where
  pub bound : (d : Direction) (n : Values) → IsDataNeighbor p d n → con ≤ℤ int_max (height p) n.con
  pub reached : (d : Direction) × (n : Values) × IsDataNeighbor p d n × (con ≡ int_max (height p) n.con)
