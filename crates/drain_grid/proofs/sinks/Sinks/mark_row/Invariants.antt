use Rattle.std.proofs.Common.{take}
use Rattle.drain_grid.proofs.SinkMarks.{AreMarked, IsFromRow}
use Rattle.drain_grid.proofs.sinks.Sinks.mark_row.Given as goal

abbrev pub invariant-loop-place : goal.invariant-loop-place
invariant-loop-place l = record {
  from : IsFromRow l.self l.row l.first l.place-items;
  marked : AreMarked l.first l.marks (take l.place-index l.place-items);
}
