use Rattle.drain_merge.proofs.CornerCells.{PassedRows}
use Rattle.drain_merge.proofs.unjudged.first_crossing.Given as goal

abbrev pub invariant-loop-i : goal.invariant-loop-i
invariant-loop-i l = PassedRows l.bounds l.places l.rows l.cols l.i
