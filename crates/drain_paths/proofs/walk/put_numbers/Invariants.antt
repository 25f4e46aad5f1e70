-- What is left of the walk leads from here, a data cell, and the cells that were passed have their numbers.
use Rattle.drain_paths.proofs.Names.{◌≡◌, ◌≢◌, ◌<◌, ◌-◌, ◌*◌, length, Cell, IsCellOf, IsWalk, cell_number, AreNumbersSoFar, flow_at, OfFlows}
use Rattle.drain_paths.specs.declared.flow.Flow.TheVariants.{Void}
use Rattle.drain_paths.proofs.walk.put_numbers.Given as goal

abbrev pub invariant-loop-walked : goal.invariant-loop-walked
invariant-loop-walked t l = record {
  counted : length l.numbers ≡ l.shape.rows * l.shape.cols;
  inside : IsCellOf l.shape l.here;
  has_data : flow_at l.shape (t.W.Ways.flows l.ways) l.here ≢ Void;
  left : OfFlows l.shape (t.W.Ways.flows l.ways) (λ g ps. IsWalk g ps (l.ahead.steps - l.walked) l.here l.ahead.cell);
  so_far : OfFlows l.shape (t.W.Ways.flows l.ways) (λ g ps. AreNumbersSoFar g ps l.shape t.N.PathNumber.UNKNOWN t.N.PathNumber.number_of l.numbers);
  first : l.walked ≡ 0 → l.here ≡ l.fn.start;
  later : 0 < l.walked → cell_number l.shape l.numbers l.fn.start ≢ t.N.PathNumber.UNKNOWN;
  others : (c : Cell) → IsCellOf l.shape c → cell_number l.shape l.fn.numbers c ≢ t.N.PathNumber.UNKNOWN → cell_number l.shape l.numbers c ≢ t.N.PathNumber.UNKNOWN;
}
