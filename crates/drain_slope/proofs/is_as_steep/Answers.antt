use Rattle.drain_slope.proofs.Keys.{as_steep_by_test}
use Rattle.drain_slope.proofs.is_as_steep.Goals as goal

pub returns : goal.returns
returns c =
    as_steep_by_test c.args.patch.now c.args.direction c.args.steepest c.is_steeper.result c.distances_are_valid.ensures c.requires c.is_steeper.ensures
