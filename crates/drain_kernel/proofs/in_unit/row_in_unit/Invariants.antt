use Rattle.drain_kernel.proofs.Names.{◌≡◌, ◌≤◌, ◌-◌, length, AreInUnit}
use Rattle.drain_kernel.proofs.in_unit.row_in_unit.Given as goal

-- the columns that were passed are in the unit
abbrev pub invariant-loop-k : goal.invariant-loop-k
invariant-loop-k g l = record {
  forward : l.from ≤ l.k;
  room : length l.lanes ≡ 66;
  taken : AreInUnit l.unit g.H.ElevationLane.bias l.row.con l.from l.lanes (l.k - l.from);
}
