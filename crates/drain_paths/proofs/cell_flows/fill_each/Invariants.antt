-- The codes of the cells that were passed have their flows.
use Rattle.drain_paths.proofs.Names.{◌≡◌, ◌<◌, ℕ, get_or, elevations, byte_flow}
use Rattle.drain_paths.proofs.RowFlows.{place_flow}
use Rattle.drain_paths.proofs.cell_flows.fill_each.Given as goal

abbrev pub invariant-loop-k : goal.invariant-loop-k
invariant-loop-k g l = (i : ℕ) → i < l.k → byte_flow (get_or l.out i 0) ≡ place_flow (elevations l.voids (g.Z.PixelNumbers.numbers l.z)) (g.N.PixelNumbers.numbers l.dir) i
