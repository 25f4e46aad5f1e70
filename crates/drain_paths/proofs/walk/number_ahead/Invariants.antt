-- These steps lead from the start to here, a data cell.
use Rattle.drain_paths.proofs.Names.{◌≡◌, ◌≢◌, IsCellOf, IsWalk, flow_at, OfFlows}
use Rattle.drain_paths.specs.declared.flow.Flow.TheVariants.{Void}
use Rattle.drain_paths.proofs.walk.number_ahead.Given as goal

abbrev pub invariant-loop-steps : goal.invariant-loop-steps
invariant-loop-steps t l = record {
  inside : IsCellOf l.shape l.here;
  has_data : flow_at l.shape (t.W.Ways.flows l.ways) l.here ≢ Void;
  first : l.steps ≡ 0 → l.here ≡ l.fn.start;
  walk : OfFlows l.shape (t.W.Ways.flows l.ways) (λ g ps. IsWalk g ps l.steps l.fn.start l.here);
}
