-- The labels so far are right, and each cell that was passed has one.
use Rattle.drain_paths.proofs.Names.{◌≡◌, ◌≢◌, ◌<◌, ◌*◌, length, Cell, IsCellOf, index_of, basin_label, AreNumbersSoFar, cell_number, OfFlows, flow_at}
use Rattle.drain_paths.specs.declared.flow.Flow.TheVariants.{Void}
use Rattle.drain_paths.proofs.basins.label_runs.Given as goal

abbrev pub invariant-loop-place : goal.invariant-loop-place
invariant-loop-place t l = record {
  counted : length l.labels ≡ l.shape.rows * l.shape.cols;
  so_far : OfFlows l.shape (t.O.Onward.flows l.onward) (λ g ps. AreNumbersSoFar g ps l.shape 0 basin_label l.labels);
  passed : (c : Cell) → IsCellOf l.shape c → index_of l.shape c < l.place → flow_at l.shape (t.O.Onward.flows l.onward) c ≢ Void → cell_number l.shape l.labels c ≢ 0;
}
