-- The label at the end of a cell's own step.
use Rattle.std.specs.Prelude.{◌≡◌, ℤ}
use Rattle.drain_grid.specs.declared.direction.Direction.{Direction}
use Rattle.drain_grid.specs.declared.patch.Patch.{Patch}
use Rattle.drain_grid.specs.Direction.{Names}
use Rattle.drain_grid.specs.Patch.{IsDataNeighbor}
use Rattle.drain_grid.specs.Values.{Values}

-- the label of the data neighbour that dir names
abbrev pub IsLabelAhead : Patch → ℤ → Type 0
IsLabelAhead p label = (d : Direction) × (n : Values) × Names p.here.dir d × IsDataNeighbor p d n × (label ≡ n.bas)
