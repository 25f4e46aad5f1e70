-- All known numbers are right, and the data cells so far have one.
use Rattle.drain_paths.proofs.Names.{◌≡◌, ◌≢◌, ◌<◌, ◌*◌, length, Cell, IsCellOf, index_of, cell_number, AreNumbersSoFar, flow_at, OfFlows}
use Rattle.drain_paths.specs.declared.flow.Flow.TheVariants.{Void}
use Rattle.drain_paths.proofs.walk.number_paths.Given as goal

abbrev pub invariant-loop-place : goal.invariant-loop-place
invariant-loop-place t l = record {
  counted : length l.numbers ≡ l.shape.rows * l.shape.cols;
  so_far : OfFlows l.shape (t.W.Ways.flows l.ways) (λ g ps. AreNumbersSoFar g ps l.shape t.N.PathNumber.UNKNOWN t.N.PathNumber.number_of l.numbers);
  passed : (c : Cell) → IsCellOf l.shape c → index_of l.shape c < l.place → flow_at l.shape (t.W.Ways.flows l.ways) c ≢ Void →
      cell_number l.shape l.numbers c ≢ t.N.PathNumber.UNKNOWN;
}
