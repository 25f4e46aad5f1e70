use Rattle.drain_merge.proofs.Names.{AllWithin, IsJudgedAt}
use Rattle.drain_merge.proofs.edges.is_judged.Given as goal

abbrev pub invariant-loop-place : goal.invariant-loop-place
invariant-loop-place l = AllWithin (λ p. ¬ IsJudgedAt p l.cell) l.places 0 l.place-index
