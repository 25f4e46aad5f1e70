use Rattle.drain_grid.proofs.Names.{◌≡◌, map, take, wide_place}
use Rattle.drain_grid.proofs.sinks.places_of.Given as goal

abbrev pub invariant-loop-cell : goal.invariant-loop-cell
invariant-loop-cell l = l.places.items ≡ map wide_place (take l.cell-index l.cells)
