use Rattle.drain_merge.proofs.checks.check_box.Goals as goal

pub returns-then-branch-clause-fill : goal.returns-then-branch-clause-fill
returns-then-branch-clause-fill c =
    let fill = c.in_ok-fills.ensures c.if-branch.true in
    record { placed = c.in_default.ensures; some = c.in_default-first_idle.ensures; apart = fill.apart; whole = fill.whole }
