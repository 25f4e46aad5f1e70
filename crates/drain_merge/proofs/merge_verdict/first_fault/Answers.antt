use Rattle.drain_merge.proofs.Names.{Option, List, subst, arith, take_all, Fault, WindowReport, IsEarlierFault, IsFirstOfFaults}
use Rattle.drain_merge.proofs.FirstOfFaults.{fault_of_next}
use Rattle.drain_merge.proofs.merge_verdict.first_fault.Goals as goal

pub loop-window-preserved : goal.loop-window-preserved
loop-window-preserved c =
    let first = c.loop-window.first in
    let found = c.earlier_fault-first.result in
    fault_of_next c.args.windows.now c.loop-window.window-index c.window-item.result first found c.loop-window-test.true c.window-item.is c.loop-window.invariant
    (subst (λ (second : Option Fault). IsEarlierFault first second found) c.fault_of.ensures c.earlier_fault-first.ensures)

pub returns : goal.returns
returns c =
    subst (λ (ws : List WindowReport). IsFirstOfFaults ws c.loop-window.first) (take_all c.loop-window.window-index c.args.windows.now (omega arith)) c.loop-window.invariant
