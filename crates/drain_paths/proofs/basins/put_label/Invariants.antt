-- The labels so far are right, the cells that were passed have one, and this is that of the cell that the walk reached.
use Rattle.drain_paths.proofs.Names.{◌≡◌, ◌≢◌, ◌<◌, ◌*◌, ◌⊎◌, get_or, length, Cell, IsCellOf, run_steps, cell_at, basin_label, AreNumbersSoFar, cell_number, OfFlows}
use Rattle.drain_paths.specs.declared.flow.Flow.TheVariants.{Void}
use Rattle.drain_paths.proofs.GridFlows.{grid_of_flows, products_of_flows}
use Rattle.drain_paths.proofs.basins.put_label.Given as goal

abbrev pub invariant-walk : goal.invariant-walk
invariant-walk t l = record {
  counted : length l.labels ≡ l.shape.rows * l.shape.cols;
  inside : l.here < l.shape.rows * l.shape.cols;
  has_data : get_or (t.O.Onward.flows l.onward) l.here Void ≢ Void;
  label : OfFlows l.shape (t.O.Onward.flows l.onward) (λ g ps. l.label ≡ basin_label g ps (cell_at l.shape l.here));
  so_far : OfFlows l.shape (t.O.Onward.flows l.onward) (λ g ps. AreNumbersSoFar g ps l.shape 0 basin_label l.labels);
  start : (l.here ≡ l.start) ⊎ (get_or l.labels l.start 0 ≢ 0);
  others : (c : Cell) → IsCellOf l.shape c → cell_number l.shape l.fn.labels c ≢ 0 → cell_number l.shape l.labels c ≢ 0;
}

abbrev pub decreases-walk : goal.decreases-walk
decreases-walk t l = run_steps (grid_of_flows l.shape (t.O.Onward.flows l.onward)) (products_of_flows l.shape (t.O.Onward.flows l.onward)) (cell_at l.shape l.here)
