-- In no direction so far there is a low edge.
use Rattle.drain_flood.proofs.Names.{ℕ, ◌<◌, get_or, East, directions, IsLowEdgeThere}
use Rattle.drain_flood.proofs.flats.Flats.low_edge_at_edge.Given as goal

abbrev pub invariant-loop-direction : goal.invariant-loop-direction
invariant-loop-direction t l = (i : ℕ) → i < l.direction-index → IsLowEdgeThere l.self.extent l.surface l.self l.cell l.level (get_or directions i East) → ⊥
