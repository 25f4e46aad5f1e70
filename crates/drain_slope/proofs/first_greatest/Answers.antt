use Rattle.drain_slope.proofs.Names.{◌+◌, ◌∙◌, arith, subst, sym, false≢true}
use Rattle.drain_slope.proofs.Keys.{IsGreatestBefore, greatest_taken, greatest_left, first_of_all}
use Rattle.drain_slope.proofs.first_greatest.Goals.{then-is_steeper, else-is_steeper}
use Rattle.drain_slope.proofs.first_greatest.Goals as goal

pub loop-direction-preserved : goal.loop-direction-preserved
loop-direction-preserved c =
    let p = c.args.patch.now in
    let i = c.loop-direction.direction-index in
    elim c.if-is_steeper.branch [
      | then-is_steeper w ↦
          (let less = c.is_steeper.ensures.0 w.if-is_steeper.true in
          subst (IsGreatestBefore p (i + 1)) (sym w.greatest-is)
          (greatest_taken p i c.loop-direction.greatest c.loop-direction-test.true c.loop-direction.invariant less))
      | else-is_steeper w ↦ subst (IsGreatestBefore p (i + 1)) (sym w.greatest-is)
          (greatest_left p i c.loop-direction.greatest c.loop-direction.invariant (λ less. absurd (false≢true (sym w.if-is_steeper.false ∙ c.is_steeper.ensures.1 less))))
    ]

pub returns : goal.returns
returns c = first_of_all c.args.patch.now c.loop-direction.direction-index c.loop-direction.greatest (omega arith) c.loop-direction.invariant
