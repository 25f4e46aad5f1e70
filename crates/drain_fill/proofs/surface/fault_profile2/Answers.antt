use Rattle.drain_fill.proofs.Names.{refl, arith, BelowGround, NotLeast, surface_rules, holds_alone, found_next}
use Rattle.drain_fill.proofs.surface.fault_profile2.Goals as goal

pub returns-then-is_above_ground : goal.returns-then-is_above_ground
returns-then-is_above_ground c = record {
  least = let P = surface_rules c.args.patch.now in
      found_next P BelowGround BelowGround NotLeast c.fault_above_profile2.result (omega arith) (holds_alone P BelowGround (c.if-is_above_ground.ensures.0 refl))
      (c.fault_above_profile2.ensures.least);
}
