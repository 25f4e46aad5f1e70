use Rattle.drain_merge.proofs.Names.{AllWithin, LiesInBox}
use Rattle.drain_merge.proofs.box_places.first_outside.Given as goal

abbrev pub invariant-loop-i : goal.invariant-loop-i
invariant-loop-i l = AllWithin (LiesInBox l.bounds) l.places 0 l.i
