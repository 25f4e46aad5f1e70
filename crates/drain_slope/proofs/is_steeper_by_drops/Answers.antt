use Rattle.drain_slope.proofs.Keys.{steeper_by_drops}
use Rattle.drain_slope.proofs.is_steeper_by_drops.Goals as goal

pub returns : goal.returns
returns c =
    steeper_by_drops c.args.patch.now c.args.first c.args.second c.drop-2.result c.drop.result c.distance_square-over.result c.distance_square-other_over.result
    c.distance_square-over.ensures.valid c.drop-2.ensures.is c.drop.ensures.is c.distance_square-over.ensures.square c.distance_square-other_over.ensures.square
    c.is_less.result c.is_less.ensures
