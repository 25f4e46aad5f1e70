use Rattle.drain_union.specs.Windows.{JudgesSome}
use Rattle.drain_merge.proofs.Elements.{within_more}
use Rattle.drain_merge.proofs.places.first_idle.Goals as goal

pub loop-i-preserved : goal.loop-i-preserved
loop-i-preserved c =
    within_more JudgesSome c.args.places.now c.loop-i.i c.index-places-i.result c.loop-i-test.true c.index-places-i.is c.loop-i.invariant
    (c.judges_some.ensures.0 c.if-not-judges_some.false)
