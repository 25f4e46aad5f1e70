use Rattle.std.proofs.Common.{◌≡◌, arith, subst}
use Rattle.drain_fill.proofs.LeastWays.{least_before_first, least_before_next, least_of_all, keeps_up_to, IsLeastBefore}
use Rattle.drain_fill.proofs.least_way.greatest_allowed.Goals as goal

pub loop-direction-init : goal.loop-direction-init
loop-direction-init c = least_before_first c.args.patch.now

pub loop-direction-preserved : goal.loop-direction-preserved
loop-direction-preserved c =
    least_before_next c.args.patch.now c.loop-direction.direction-index c.loop-direction.least c.way.result c.lesser-least.result
    c.way.ensures c.lesser-least.ensures.below_one c.lesser-least.ensures.below_other c.lesser-least.ensures.either c.loop-direction.invariant

pub returns : goal.returns
returns c =
    let all : c.loop-direction.direction-index ≡ 8 = omega arith in
    let value = least_of_all c.args.patch.now c.loop-direction.least (subst (λ i. IsLeastBefore c.args.patch.now i c.loop-direction.least) all c.loop-direction.invariant) in
    record {
      value = value;
      keeps = keeps_up_to c.args.patch.now c.loop-direction.least value;
    }
