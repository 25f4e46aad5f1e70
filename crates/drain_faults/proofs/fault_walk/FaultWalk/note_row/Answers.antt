use Rattle.drain_rules.proofs.GridLemmas.{CountsAbove-more}
use Rattle.drain_faults.proofs.fault_walk.FaultWalk.note_row.Goals as goal

pub returns-in-Ok-clause-counted : goal.returns-in-Ok-clause-counted
returns-in-Ok-clause-counted g c = λ grid ps are counted.
    let join = c.join.ensures in
    CountsAbove-more grid ps c.args.self.now.rows c.args.self.now.tally c.in-Ok.row c.join.new.self counted (c.in-Ok.ensures.tally grid ps are)
    join.data_cells join.raised join.outlets
