use Rattle.drain_fill.proofs.Names.{refl, arith, BelowGround, NotLeast, fill_rules, holds_alone, found_next}
use Rattle.drain_fill.proofs.fault.Goals as goal

pub returns-then-is_above_ground : goal.returns-then-is_above_ground
returns-then-is_above_ground c = record {
  least = let P = fill_rules c.args.patch.now in
      found_next P BelowGround BelowGround NotLeast c.fault_above.result (omega arith) (holds_alone P BelowGround (c.if-is_above_ground.ensures.0 refl))
      (c.fault_above.ensures.least);
}
