use Rattle.drain_merge.proofs.Names.{Some, subst, sym, Cell, IsFirstOfFaults}
use Rattle.drain_merge.proofs.BoxCells.{fault_counted}
use Rattle.drain_merge.proofs.joined.joined_verdict.Goals as goal

pub returns-in-Some : goal.returns-in-Some
returns-in-Some c =
    let fault = c.in-Some.fault in
    subst (λ (x : Cell). IsFirstOfFaults c.args.windows.now (Some (record { cell = x; rule = fault.rule })))
    (sym (fault_counted c.args.bounds.now c.args.windows.now fault c.cell_in.result c.requires.make c.requires.cells c.in-Some.ensures c.cell_in.ensures)) c.in-Some.ensures
