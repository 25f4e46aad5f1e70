use Rattle.drain_kernel.proofs.Names.{◌-◌, ◌≤◌, Along, IsClearedAt}
use Rattle.drain_kernel.proofs.strides.passed_strides.Given as goal

-- the columns that were passed pass all tests
abbrev pub invariant-loop-k : goal.invariant-loop-k
invariant-loop-k g l = record {
  forward : l.from ≤ l.k;
  within : l.k ≤ l.end;
  passed : Along l.from l.k (IsClearedAt l.rules l.rows);
}

abbrev pub decreases-loop-k : goal.decreases-loop-k
decreases-loop-k g l = l.end - l.k
