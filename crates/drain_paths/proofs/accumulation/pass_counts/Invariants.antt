-- Counts are passed on, and only this cell may wait for no inflow without having passed on.
use Rattle.drain_paths.proofs.Names.{◌≡◌, ◌≢◌, ◌*◌, ◌<◌, length, get_or, Cell, run_steps, IsCellOf, cell_at, OfFlows, cell_number, IsPassing, StaysAway}
use Rattle.drain_paths.specs.declared.flow.Flow.TheVariants.{Void}
use Rattle.drain_paths.proofs.GridFlows.{grid_of_flows, products_of_flows}
use Rattle.drain_paths.proofs.accumulation.pass_counts.Given as goal

abbrev pub invariant-walk : goal.invariant-walk
invariant-walk t l = record {
  waits_counted : length l.waits ≡ l.shape.rows * l.shape.cols;
  counts_counted : length l.counts ≡ l.shape.rows * l.shape.cols;
  inside : l.here < l.shape.rows * l.shape.cols;
  has_data : get_or (t.O.Onward.flows l.onward) l.here Void ≢ Void;
  passing : OfFlows l.shape (t.O.Onward.flows l.onward) (λ g ps. IsPassing g ps l.shape l.waits l.counts);
  start : StaysAway l.shape l.waits (cell_at l.shape l.here) (cell_at l.shape l.fn.start);
  others : (c : Cell) → IsCellOf l.shape c → cell_number l.shape l.fn.waits c ≢ 0 → StaysAway l.shape l.waits (cell_at l.shape l.here) c;
}

abbrev pub decreases-walk : goal.decreases-walk
decreases-walk t l = run_steps (grid_of_flows l.shape (t.O.Onward.flows l.onward)) (products_of_flows l.shape (t.O.Onward.flows l.onward)) (cell_at l.shape l.here)
