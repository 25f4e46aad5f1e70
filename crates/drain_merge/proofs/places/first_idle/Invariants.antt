use Rattle.drain_merge.proofs.Names.{AllWithin, JudgesSome}
use Rattle.drain_merge.proofs.places.first_idle.Given as goal

abbrev pub invariant-loop-i : goal.invariant-loop-i
invariant-loop-i l = AllWithin JudgesSome l.places 0 l.i
