use Rattle.drain_rules.proofs.Names.{ℕ, ◌-◌, ◌<◌, ◌≤◌, tried, IsRightVoid, patch_in}
use Rattle.drain_rules.proofs.three_rows.ThreeRowsPatchRow.voids_until.Given as goal

-- the columns that were passed show right voids
abbrev pub invariant-loop-col : goal.invariant-loop-col
invariant-loop-col l = record {
  forward : l.from ≤ l.col;
  within : l.col ≤ l.end;
  right : (k : ℕ) → l.from ≤ k → k < l.col → IsRightVoid (tried l.rules) (patch_in l.self k);
}

abbrev pub decreases-loop-col : goal.decreases-loop-col
decreases-loop-col l = l.end - l.col
