-- The outlets so far are numbered.
use Rattle.drain_paths.proofs.Names.{◌≡◌, ◌≤◌, ◌*◌, length, OfFlows, AreEndLabels}
use Rattle.drain_paths.proofs.basins.outlet_labels.Given as goal

abbrev pub invariant-loop-place : goal.invariant-loop-place
invariant-loop-place t l = record {
  counted : length l.labels.items ≡ l.shape.rows * l.shape.cols;
  few : l.ends ≤ l.place;
  so_far : OfFlows l.shape (t.W.Ways.flows l.ways) (λ g ps. AreEndLabels g ps l.shape l.place l.ends l.labels.items);
}
