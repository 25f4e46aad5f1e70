use Rattle.drain_rules.proofs.Names.{arith, BelowGround, NotLeast, surface_rules, holds_alone, found_next}
use Rattle.drain_rules.proofs.patch_rules.fill_fault.Goals as goal

pub returns-then-is_above : goal.returns-then-is_above
returns-then-is_above c = record {
  least = let P = surface_rules c.args.patch.now in
      found_next P BelowGround BelowGround NotLeast c.fault_above_profile2.result (omega arith) (holds_alone P BelowGround (c.requires c.if-is_above.true)) c.fault_above_profile2.ensures.least;
}
