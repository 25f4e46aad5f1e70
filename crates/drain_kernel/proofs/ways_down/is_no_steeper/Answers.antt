use Rattle.drain_kernel.proofs.Names.{◌∙◌, sym, w64, to_z-of_z}
use Rattle.drain_kernel.proofs.FloatWays.{fits, test_by_products}
use Rattle.drain_kernel.proofs.ways_down.is_no_steeper.Goals as goal

pub returns : goal.returns
returns g c =
    test_by_products g.H.ElevationLane.bias c.args.spacing.now (g.H.ElevationLane.number c.args.con) c.args.way.direction (g.H.ElevationLane.number c.args.way.number)
    c.args.other.direction (g.H.ElevationLane.number c.args.other.number) _ _ _ c.distance_square.result c.distance_square-2.result c.is_steeper.result c.distance_square.ensures.valid
    (to_z-of_z w64 c.height.result (fits c.height.result c.height.ensures.number) ∙ c.height.ensures.is)
    (to_z-of_z w64 c.height-2.result (fits c.height-2.result c.height-2.ensures.number) ∙ c.height-2.ensures.is)
    (to_z-of_z w64 c.height-3.result (fits c.height-3.result c.height-3.ensures.number) ∙ c.height-3.ensures.is)
    c.distance_square.ensures.square c.distance_square-2.ensures.square (sym c.is_at_most.ensures ∙ c.if-is_at_most.false) (sym c.is_at_most-2.ensures ∙ c.if-is_at_most-2.false) c.is_steeper.ensures
