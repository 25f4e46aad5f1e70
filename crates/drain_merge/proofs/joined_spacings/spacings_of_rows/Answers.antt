use Rattle.drain_merge.proofs.Names.{◌+◌, sym, subst, arith, IsSpacingOfRow}
use Rattle.drain_merge.proofs.BoxLists.{at_row, one_more}
use Rattle.drain_merge.proofs.joined_spacings.spacings_of_rows.Goals as goal

pub loop-row-preserved : goal.loop-row-preserved
loop-row-preserved c =
    let more = one_more c.args.windows.now c.args.bounds.now.top c.loop-row.listed.items c.push.new.self.items c.loop-row.row c.spacing_of_row.result
    c.in_ok-push.ensures.items c.loop-row.invariant.len c.loop-row.invariant.each c.spacing_of_row.ensures in
    record { len = more.0; each = more.1 }

pub returns-clause-each : goal.returns-clause-each
returns-clause-each c = λ row below.
    let listed = c.loop-row.listed.items in
    subst (IsSpacingOfRow c.args.windows.now (c.args.bounds.now.top + row)) (sym (at_row listed c.loop-row.row row c.loop-row.invariant.len (omega arith)))
    (c.loop-row.invariant.each row (omega arith))
