use Rattle.std.proofs.Common.{◌≤◌, subst, arith}
use Rattle.drain_paths.proofs.InflowLemmas.{row_more, all_rows}
use Rattle.drain_paths.proofs.accumulation.count_rows.Goals as goal

pub loop-row-init : goal.loop-row-init
loop-row-init t c = λ g ps are cell inside less. absurd (omega (arith, less))

pub loop-row-preserved : goal.loop-row-preserved
loop-row-preserved t c = λ g ps are.
    row_more g ps c.args.shape c.loop-row.row c.loop-row.waits c.count_row.new.waits (c.loop-row.invariant g ps are) (c.count_row.ensures.row g ps are)
    c.count_row.ensures.others

pub returns-clause-inflows : goal.returns-clause-inflows
returns-clause-inflows t c = λ g ps are.
    all_rows g ps c.args.shape (t.O.Onward.flows c.args.onward.now) c.loop-row.row c.loop-row.waits are (subst (λ n. n ≤ c.loop-row.row) c.rows-row-end.ensures c.loop-row-test.false)
    (c.loop-row.invariant g ps are)
