use Rattle.drain_rules.proofs.Names.{ℕ, ◌-◌, ◌<◌, ◌≤◌, IsKept, tried, patch_in}
use Rattle.drain_rules.proofs.three_rows.cleared_until.Given as goal

-- the cells that were passed are cleared
abbrev pub invariant-loop-col : goal.invariant-loop-col
invariant-loop-col l = record {
  forward : l.from ≤ l.col;
  within : l.col ≤ l.end;
  kept : (k : ℕ) → l.from ≤ k → k < l.col → IsKept (tried l.rules) (patch_in l.rows k);
}

abbrev pub decreases-loop-col : goal.decreases-loop-col
decreases-loop-col l = l.end - l.col
