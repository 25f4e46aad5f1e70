use Rattle.drain_explain.proofs.fault_visitor.FaultVisitorVerdictVisitor.verdict.Goals as goal

pub returns : goal.returns
returns c = λ rules g ps extent are.
    let walk = are.walk_is in
    c.verdict.ensures rules g ps extent walk.rows_are walk.found walk.counted
