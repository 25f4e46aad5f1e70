use Rattle.drain_slope.proofs.Keys.{IsGreatestBefore}
use Rattle.drain_slope.proofs.first_greatest.Given as goal

abbrev pub invariant-loop-direction : goal.invariant-loop-direction
invariant-loop-direction l = IsGreatestBefore l.patch l.direction-index l.greatest
