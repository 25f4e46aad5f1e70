use Rattle.std.proofs.Common.{◌^◌, pos, neg_ℤ, ◌<ℤ◌, ◌-◌}
use Rattle.drain_slope.proofs.Sums.{IsSplit}
use Rattle.drain_slope.proofs.terms.is_above_0.Given as goal

abbrev pub invariant-loop-step : goal.invariant-loop-step
invariant-loop-step l =
    IsSplit l.sum_of (l.top - l.step) l.head × (neg_ℤ (pos (2 ^ 113)) <ℤ l.head) × (l.head <ℤ pos (2 ^ 113))
