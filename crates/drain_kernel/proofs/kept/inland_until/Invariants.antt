use Rattle.std.proofs.Common.{◌-◌, ◌≤◌}
use Rattle.drain_kernel.proofs.kept.inland_until.Given as goal

abbrev pub invariant-loop-k : goal.invariant-loop-k
invariant-loop-k g l = record {
  forward : l.from ≤ l.k;
  within : l.k ≤ l.end;
}

abbrev pub decreases-loop-k : goal.decreases-loop-k
decreases-loop-k g l = l.end - l.k
