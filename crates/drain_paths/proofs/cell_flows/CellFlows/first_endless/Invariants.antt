-- The flows are known, and the runs of the cells that were passed end.
use Rattle.drain_paths.proofs.Names.{◌≡◌, ◌*◌, length, Grid, Products, AreFlowsOf}
use Rattle.drain_paths.proofs.FlowWalks.{FirstEnd}
use Rattle.drain_paths.proofs.cell_flows.CellFlows.first_endless.Given as goal

abbrev pub invariant-loop-index : goal.invariant-loop-index
invariant-loop-index l = record {
  counted : length l.self ≡ l.shape.rows * l.shape.cols;
  ends : (g : Grid) → (ps : Products) → AreFlowsOf g ps l.shape l.fn.self → FirstEnd g ps l.shape l.self l.index;
}
