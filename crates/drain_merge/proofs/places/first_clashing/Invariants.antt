use Rattle.drain_merge.proofs.Names.{AllWithin, BothJudgeOne}
use Rattle.drain_merge.proofs.places.first_clashing.Given as goal

abbrev pub invariant-loop-i : goal.invariant-loop-i
invariant-loop-i l = AllWithin (λ p. ¬ BothJudgeOne p l.place) l.places 0 l.i
