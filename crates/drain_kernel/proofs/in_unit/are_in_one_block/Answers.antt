use Rattle.drain_kernel.proofs.Names.{subst, ThreeLanes, AreInBlock}
use Rattle.drain_kernel.proofs.Blocks.{one_block}
use Rattle.drain_kernel.proofs.in_unit.are_in_one_block.Goals as goal

pub returns : goal.returns
returns g c = one_block g.H.ElevationLane.bias c.args.block c.args.rows.now c.args.from c.args.end c.are_in_block-here.result c.are_in_block-above.result c.are_in_block-below.result
    (λ h. subst (λ (rows : ThreeLanes). AreInBlock c.args.block g.H.ElevationLane.bias rows.here.con c.args.from c.args.end) c.rows.view_is (c.are_in_block-here.ensures h))
    (λ h. subst (λ (rows : ThreeLanes). AreInBlock c.args.block g.H.ElevationLane.bias rows.above.con c.args.from c.args.end) c.rows.view_is (c.are_in_block-above.ensures h))
    (λ h. subst (λ (rows : ThreeLanes). AreInBlock c.args.block g.H.ElevationLane.bias rows.below.con c.args.from c.args.end) c.rows.view_is (c.are_in_block-below.ensures h))
