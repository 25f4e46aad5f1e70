-- Counts are passed on, and each cell so far waits for an inflow or has passed on.
use Rattle.drain_paths.proofs.Names.{◌≡◌, ◌≢◌, ◌<◌, ◌*◌, length, Cell, IsCellOf, index_of, flow_at, OfFlows, cell_number, IsPassing}
use Rattle.drain_paths.specs.declared.flow.Flow.TheVariants.{Void}
use Rattle.drain_paths.proofs.accumulation.count_all.Given as goal

abbrev pub invariant-loop-place : goal.invariant-loop-place
invariant-loop-place t l = record {
  waits_counted : length l.waits.items ≡ l.shape.rows * l.shape.cols;
  counts_counted : length l.counts.items ≡ l.shape.rows * l.shape.cols;
  passing : OfFlows l.shape (t.O.Onward.flows l.onward) (λ g ps. IsPassing g ps l.shape l.waits.items l.counts.items);
  passed : (c : Cell) → IsCellOf l.shape c → index_of l.shape c < l.place → flow_at l.shape (t.O.Onward.flows l.onward) c ≢ Void →
      cell_number l.shape l.waits.items c ≢ 0;
}
