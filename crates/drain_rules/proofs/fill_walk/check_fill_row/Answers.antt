use Rattle.drain_rules.proofs.Names.{None, Some, arith, IsFillRule, fill_rules, parts_grid, parts_products, place}
use Rattle.drain_rules.proofs.Faults.{IsLeastFault-patch}
use Rattle.drain_rules.proofs.InlandCells.{both_true, inland_from_columns}
use Rattle.drain_rules.proofs.RowLemmas.{HoldAlong-more, IsRowFault-cell, CountsAlong-more}
use Rattle.drain_rules.proofs.fill_walk.check_fill_row.Goals as goal

pub fault_at-requires-clause-inland : goal.fault_at-requires-clause-inland
fault_at-requires-clause-inland c = λ all.
    let two = both_true _ _ all in
    let one = both_true _ _ two.0 in
    let west = c.loop-col.invariant.west_data one.0 in
    inland_from_columns (parts_grid c.args.input.now) c.args.row c.loop-col.col west.0 west.1 west.2 (c.loop-col.invariant.here_data one.1)
    (c.has_data_across-east.ensures two.1)

pub returns-in-Some-clause-fault : goal.returns-in-Some-clause-fault
returns-in-Some-clause-fault c =
    let g = parts_grid c.args.input.now in
    let ps = parts_products c.args.input.now in
    IsRowFault-cell fill_rules IsFillRule g ps c.args.row c.loop-col.col c.in-Some.rule (omega (arith, c.side-col-end.ensures)) c.loop-col.invariant.holds
    (IsLeastFault-patch fill_rules IsFillRule g ps (place c.args.row c.loop-col.col) (Some c.in-Some.rule) (λ r own. (omega (arith, own.0), omega (arith, own.1)))
    c.in-Some.ensures.least)

pub loop-col-preserved : goal.loop-col-preserved
loop-col-preserved c =
    let g = parts_grid c.args.input.now in
    let ps = parts_products c.args.input.now in
    let inv = c.loop-col.invariant in
    record {
      holds = HoldAlong-more fill_rules IsFillRule g ps c.args.row c.loop-col.col inv.holds
          (IsLeastFault-patch fill_rules IsFillRule g ps (place c.args.row c.loop-col.col) None (λ r own. (omega (arith, own.0), omega (arith, own.1)))
          c.in_default.ensures.least);
      counted = CountsAlong-more g ps c.args.row c.loop-col.col c.values.result _ _
          c.values.ensures inv.counted c.add.ensures.data_cells c.add.ensures.raised c.add.ensures.outlets;
      data_bound = grind (arith, c.add.ensures.data_cells, inv.data_bound);
      raised_bound = grind (arith, c.add.ensures.raised, c.add.ensures.data_cells, inv.raised_bound);
      outlets_bound = grind (arith, c.add.ensures.outlets, c.add.ensures.data_cells, inv.outlets_bound);
      west_data = λ known. (c.loop-col.col, omega arith, inv.here_data known);
      here_data = λ known. c.has_data_across-east.ensures known;
    }
