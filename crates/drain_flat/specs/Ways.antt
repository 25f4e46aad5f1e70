-- A way on along a flat, in a direction.
use Rattle.std.specs.Prelude.{◌≡◌, ◌<ℤ◌}
use Rattle.drain_flat.specs.Names.{Direction, IsDataNeighbor, Values}
use Rattle.drain_grid.specs.declared.patch.Patch.{Patch}

-- a data neighbour of the cell's height
pub record IsLevelBeside (p : Patch) (d : Direction) (n : Values) : Type 0 where
  pub beside : IsDataNeighbor p d n
  pub level : n.con ≡ p.here.con

-- there is one
abbrev pub IsLevelWay : Patch → Direction → Type 0
IsLevelWay p d = (n : Values) × IsLevelBeside p d n

-- there is one with a smaller rank
abbrev pub IsFlatWay : Patch → Direction → Type 0
IsFlatWay p d = (n : Values) × IsLevelBeside p d n × (n.rnk <ℤ p.here.rnk)
