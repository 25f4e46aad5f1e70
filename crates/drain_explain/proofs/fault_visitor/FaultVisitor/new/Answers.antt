use Rattle.std.proofs.Common.{arith}
use Rattle.drain_explain.proofs.fault_visitor.FaultVisitor.new.Goals as goal

pub returns-clause-begun : goal.returns-clause-begun
returns-clause-begun c = λ rules g ps. record {
  walk_is = c.in_ok-walk.ensures.begun rules g ps;
  rules_are = λ some. absurd (omega (arith, some));
  elevations_are = λ z above. absurd (omega (arith, above.1));
}
