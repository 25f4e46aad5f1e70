use Rattle.drain_merge.specs.Unjudged.{IsJudgedCrossing}
use Rattle.drain_merge.proofs.NewNumbers.{Passed}
use Rattle.drain_merge.proofs.unjudged.first_along.Given as goal

abbrev pub invariant-loop-i : goal.invariant-loop-i
invariant-loop-i l = Passed (IsJudgedCrossing l.places l.row) l.cols l.from l.end l.i
