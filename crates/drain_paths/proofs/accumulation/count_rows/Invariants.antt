-- The inflows of the rows so far.
use Rattle.drain_paths.specs.Flows.{OfFlows}
use Rattle.drain_paths.proofs.InflowLemmas.{AreRowInflows}
use Rattle.drain_paths.proofs.accumulation.count_rows.Given as goal

abbrev pub invariant-loop-row : goal.invariant-loop-row
invariant-loop-row t l = OfFlows l.shape (t.O.Onward.flows l.onward) (λ g ps. AreRowInflows g ps l.shape l.row l.waits)
