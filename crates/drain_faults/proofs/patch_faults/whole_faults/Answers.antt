use Rattle.drain_faults.proofs.Names.{refl, arith, BelowGround, OpenRaised, NotLeast, BadCodeWithoutSpill, BelowGroundHolds, NotLeastHolds, OpenRaisedWithoutSpill, whole}
use Rattle.drain_faults.proofs.ByRule.{tells_each}
use Rattle.drain_faults.proofs.PatchFlags.{tells_not, accumulation_told, bad_code_told, fill_rule_told, flat_step_told, label_told, missing_told, no_spill_holds, outlet_code_told, slope_told, spill_height_holds, spill_rank_holds, void_cell_told}
use Rattle.drain_faults.proofs.patch_faults.whole_faults.Goals as goal

pub returns : goal.returns
returns c = record {
  shared_label = refl;
  each = let rules = c.args.rules.now in
      let p = c.args.patch.now in
      let presence = c.presence_fault-presence in
      let slope = c.fault-slope in
      tells_each (whole rules p) _
      (void_cell_told rules p presence.result c.is_fault.result presence.ensures.least c.is_fault.ensures)
      (missing_told rules p presence.result c.is_fault-2.result presence.ensures.least c.is_fault-2.ensures)
      (bad_code_told rules p _ (tells_not c.keeps_code.result (BadCodeWithoutSpill p) c.keeps_code.ensures))
      (fill_rule_told rules p BelowGround _ (omega arith, omega arith) (tells_not c.is_above_ground.result (BelowGroundHolds p) c.is_above_ground.ensures))
      (fill_rule_told rules p OpenRaised _ (omega arith, omega arith) (tells_not c.keeps_open_ground.result (OpenRaisedWithoutSpill p) c.keeps_open_ground.ensures))
      (no_spill_holds rules p) (spill_height_holds rules p) (spill_rank_holds rules p)
      (fill_rule_told rules p NotLeast _ (omega arith, omega arith) (tells_not c.keeps_least.result (NotLeastHolds p) c.keeps_least.ensures))
      (slope_told rules p slope.result c.is_fault-3.result slope.ensures.least c.is_fault-3.ensures)
      (outlet_code_told rules p slope.result c.is_fault-4.result slope.ensures.least c.is_fault-4.ensures)
      (flat_step_told rules p c.flat_fault.result c.is_fault-5.result c.flat_fault.ensures.least c.is_fault-5.ensures)
      (accumulation_told rules p c.fault.result c.is_fault-6.result c.fault.ensures.least c.is_fault-6.ensures)
      (label_told rules p c.fault-2.result c.is_fault-7.result c.fault-2.ensures.least c.is_fault-7.ensures);
}
