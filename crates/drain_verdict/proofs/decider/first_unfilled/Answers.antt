use Rattle.drain_verdict.proofs.Names.{IfOk-weaker}
use Rattle.drain_verdict.proofs.decider.first_unfilled.Goals as goal

pub returns : goal.returns
returns c = record {
  first = IfOk-weaker c.first_unfilled.result _ _ (λ cell found g ps extent sinks rows holds. found g ps (c.in-Some.ensures.parts g ps extent rows) sinks holds) c.first_unfilled.ensures.first;
}
