use Rattle.drain_merge.proofs.Names.{arith, WindowReport, HaveRowsAlike}
use Rattle.drain_merge.proofs.FirstOfFaults.{pair_found, pairs_more}
use Rattle.drain_merge.proofs.spacings.first_other_spacing.Goals as goal

pub loop-later-preserved : goal.loop-later-preserved
loop-later-preserved c =
    pairs_more HaveRowsAlike c.args.windows.now c.loop-later.later c.index-windows-later.result c.loop-later-test.true c.index-windows-later.is
    c.loop-later.invariant c.in_default.ensures

pub returns : goal.returns
returns c = λ i j d less below. c.loop-later.invariant i j d less (omega arith)

pub returns-in-Some : goal.returns-in-Some
returns-in-Some c =
    let found = pair_found (λ (v w : WindowReport). ¬ HaveRowsAlike v w) c.args.windows.now c.loop-later.later c.in-Some._earlier c.index-windows-later.result
    c.loop-later-test.true c.index-windows-later.is c.in-Some.ensures.0 c.in-Some.ensures.1 in
    (found.1, (c.in-Some._earlier, found.0, found.2), c.loop-later.invariant)
