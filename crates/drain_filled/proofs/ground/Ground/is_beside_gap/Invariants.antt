-- In no direction so far there is a gap.
use Rattle.drain_filled.proofs.Names.{ℕ, ◌<◌, get_or, East, directions, IsGapBeside}
use Rattle.drain_filled.proofs.ground.Ground.is_beside_gap.Given as goal

abbrev pub invariant-loop-direction : goal.invariant-loop-direction
invariant-loop-direction l = (i : ℕ) → i < l.direction-index → IsGapBeside l.self l.cell (get_or directions i East) → ⊥
