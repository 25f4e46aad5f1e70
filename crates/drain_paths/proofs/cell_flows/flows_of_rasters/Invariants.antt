-- The cells so far have their flows.
use Rattle.drain_paths.proofs.Names.{◌≡◌, ◌*◌, length, elevation_at, number_at, cell_flow}
use Rattle.drain_paths.proofs.GridFlows.{HaveFlows}
use Rattle.drain_paths.proofs.cell_flows.flows_of_rasters.Given as goal

abbrev pub invariant-loop-place : goal.invariant-loop-place
invariant-loop-place l = record {
  counted : length l.flows.items ≡ l.elevation.extent.rows * l.elevation.extent.cols;
  so_far : HaveFlows l.elevation.extent (λ c. cell_flow (elevation_at l.elevation c) (number_at l.dir c)) l.place l.flows.items;
}
