use Rattle.drain_merge.proofs.Names.{◌≡◌, ◌++◌, map, take, drop, cell_from, box_at}
use Rattle.drain_merge.proofs.map_merge.move_sinks.Given as goal

abbrev pub invariant-loop-i : goal.invariant-loop-i
invariant-loop-i l = l.sinks ≡ map (cell_from (box_at l.fn.bounds).origin) (take l.i l.initial.sinks) ++ drop l.i l.initial.sinks
