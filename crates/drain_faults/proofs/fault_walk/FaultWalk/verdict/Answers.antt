use Rattle.drain_faults.proofs.Names.{Some, None, subst, cells_above, IsFirstPatch}
use Rattle.drain_faults.proofs.FaultSteps.{counts_are}
use Rattle.drain_faults.proofs.RowOrder.{all_hold, first_fault}
use Rattle.drain_faults.proofs.fault_walk.FaultWalk.verdict.Goals as goal

pub returns-in-None : goal.returns-in-None
returns-in-None c = λ rules g ps extent all right counted. (
  all_hold rules g ps
      (subst (λ n. IsFirstPatch rules g ps (cells_above g n) None) all (subst (IsFirstPatch rules g ps (cells_above g c.args.self.now.rows)) c.in-None.is right.first_patch)),
  counts_are g ps c.args.shape c.args.self.now.rows c.rows.result c.cols.result c.args.self.now.tally extent c.rows.ensures c.cols.ensures all counted,
)

pub returns-in-Some : goal.returns-in-Some
returns-in-Some c = λ rules g ps extent all right counted.
    first_fault rules g ps c.in-Some.first
    (subst (λ n. IsFirstPatch rules g ps (cells_above g n) (Some c.in-Some.first)) all (subst (IsFirstPatch rules g ps (cells_above g c.args.self.now.rows)) c.in-Some.is right.first_patch))
