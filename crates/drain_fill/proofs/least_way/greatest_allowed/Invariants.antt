use Rattle.drain_fill.proofs.LeastWays.{IsLeastBefore}
use Rattle.drain_fill.proofs.least_way.greatest_allowed.Given as goal

abbrev pub invariant-loop-direction : goal.invariant-loop-direction
invariant-loop-direction l = IsLeastBefore l.patch l.direction-index l.least
