use Rattle.drain_union.specs.Joins.{LiesInBox}
use Rattle.drain_merge.proofs.Elements.{within_more}
use Rattle.drain_merge.proofs.box_places.first_outside.Goals as goal

pub loop-i-preserved : goal.loop-i-preserved
loop-i-preserved c =
    within_more (LiesInBox c.args.bounds.now) c.args.places.now c.loop-i.i c.index-places-i.result c.loop-i-test.true c.index-places-i.is c.loop-i.invariant
    (c.lies_in_box.ensures.0 c.if-not-lies_in_box.false)
