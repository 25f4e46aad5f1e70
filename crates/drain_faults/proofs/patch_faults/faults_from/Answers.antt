use Rattle.drain_faults.proofs.Names.{arith, BadCode, BelowGround, OpenRaised, NotLeast, Slope, OutletCode, FlatStep, Accumulation, Label, has_acc, has_bas, has_dir, part_rules}
use Rattle.drain_faults.proofs.ByRule.{tells_each}
use Rattle.drain_faults.proofs.PartFlags.{missing_first, told_both, void_cell_first}
use Rattle.drain_faults.proofs.patch_faults.faults_from.Goals as goal

pub returns-clause-each : goal.returns-clause-each
returns-clause-each c =
    let judged = c.args.rules.now.judged in
    let nodata = c.args.rules.now.nodata in
    let p = c.args.patch.now in
    let all = c.whole_faults-all.ensures.each in
    let dir = c.has_dir-has_dir in
    tells_each (part_rules judged nodata p) _
    (void_cell_first judged nodata p c.args.first c.is_rule.result c.requires c.is_rule.ensures)
    (missing_first judged nodata p c.args.first c.is_rule-2.result c.requires c.is_rule-2.ensures)
    (told_both (has_dir judged) dir.result _ c.are_both.result _ dir.ensures c.are_both.ensures (all BadCode (omega arith, omega arith)))
    (all BelowGround (omega arith, omega arith)) (all OpenRaised (omega arith, omega arith)) tt tt tt (all NotLeast (omega arith, omega arith))
    (told_both (has_dir judged) dir.result _ c.are_both-2.result _ dir.ensures c.are_both-2.ensures (all Slope (omega arith, omega arith)))
    (told_both (has_dir judged) dir.result _ c.are_both-3.result _ dir.ensures c.are_both-3.ensures (all OutletCode (omega arith, omega arith)))
    (told_both (has_dir judged) dir.result _ c.are_both-4.result _ dir.ensures c.are_both-4.ensures (all FlatStep (omega arith, omega arith)))
    (told_both (has_acc judged) c.has_acc.result _ c.are_both-5.result _ c.has_acc.ensures c.are_both-5.ensures (all Accumulation (omega arith, omega arith)))
    (told_both (has_bas judged) c.has_bas.result _ c.are_both-6.result _ c.has_bas.ensures c.are_both-6.ensures (all Label (omega arith, omega arith)))
