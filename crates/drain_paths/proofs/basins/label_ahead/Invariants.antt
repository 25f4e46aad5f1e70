-- The cell that the walk reached has data and the label of the start.
use Rattle.drain_paths.proofs.Names.{◌≡◌, ◌≢◌, ◌<◌, ◌*◌, get_or, run_steps, cell_at, basin_label, OfFlows}
use Rattle.drain_paths.specs.declared.flow.Flow.TheVariants.{Void}
use Rattle.drain_paths.proofs.GridFlows.{grid_of_flows, products_of_flows}
use Rattle.drain_paths.proofs.basins.label_ahead.Given as goal

abbrev pub invariant-walk : goal.invariant-walk
invariant-walk t l = record {
  inside : l.here < l.shape.rows * l.shape.cols;
  has_data : get_or (t.O.Onward.flows l.onward) l.here Void ≢ Void;
  same : OfFlows l.shape (t.O.Onward.flows l.onward) (λ g ps. basin_label g ps (cell_at l.shape l.here) ≡ basin_label g ps (cell_at l.shape l.start));
}

abbrev pub decreases-walk : goal.decreases-walk
decreases-walk t l = run_steps (grid_of_flows l.shape (t.O.Onward.flows l.onward)) (products_of_flows l.shape (t.O.Onward.flows l.onward)) (cell_at l.shape l.here)
