use Rattle.drain_rules.specs.ThreeRows.{patch_in}
use Rattle.drain_rules.proofs.LanedPatches.{patch_shown_round}
use Rattle.drain_rules.proofs.three_rows.ThreeRowsPatchRow.is_right_outlet.Goals as goal

pub returns : goal.returns
returns c =
    let rows = c.args.self.now in
    let lanes = c.in-Some-Some-Some in
    let outlet = c.outlet_holds_at.ensures in
    λ holds.
    outlet.kept holds (patch_in rows c.args.col)
    (patch_shown_round c.lanes_show_numbers.ensures rows lanes.above.now lanes.here.now lanes.below.now lanes.ensures.laned lanes.ensures'.laned lanes.ensures''.laned
    c.args.col (outlet.inner holds))
