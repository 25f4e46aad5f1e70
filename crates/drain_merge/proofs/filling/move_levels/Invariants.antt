use Rattle.drain_merge.proofs.Names.{◌≤◌, max, IsMoved}
use Rattle.drain_merge.proofs.filling.move_levels.Given as goal

abbrev pub invariant-loop-k : goal.invariant-loop-k
invariant-loop-k l = record { moved : IsMoved l.from l.k l.top l.bottom l.initial.levels l.levels; end : l.k ≤ max l.from l.to }
