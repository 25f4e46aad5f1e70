use Rattle.drain_kernel.proofs.Names.{◌≡◌, ◌≤◌, ◌-◌, raised_lanes}
use Rattle.drain_kernel.proofs.lane_row.LaneRow.raised_between.Given as goal

-- the columns that were passed are counted
abbrev pub invariant-loop-k : goal.invariant-loop-k
invariant-loop-k g l = record {
  forward : l.from ≤ l.k;
  counted : l.count ≡ raised_lanes l.self l.from l.k;
  small : l.count ≤ l.k - l.from;
}
