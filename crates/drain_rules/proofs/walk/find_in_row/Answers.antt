use Rattle.drain_rules.proofs.Names.{◌+◌, arith, tried, IsTriedIf, place}
use Rattle.drain_rules.proofs.AllCells.{new_label-row}
use Rattle.drain_rules.proofs.AreaGrids.{first-row, sound-more}
use Rattle.drain_rules.proofs.walk.find_in_row.Goals as goal

pub returns-in-Ok-clause-outcome : goal.returns-in-Ok-clause-outcome
returns-in-Ok-clause-outcome g c = λ grid ps are sound.
    let join = c.join.ensures in
    sound-more (tried c.args.rules.now) (IsTriedIf g.L.Labels.compares c.args.rules.now.judged) (g.L.Labels.judges c.args.labels.now) grid ps c.args.row
    (g.L.Labels.are_before grid ps (place c.args.row 0) c.args.labels.now) (g.L.Labels.are_before grid ps (place (c.args.row + 1) 0) c.check_row.new.labels)
    c.args.total c.in-Ok.tally c.join.new.self c.requires.judged sound (c.in-Ok.ensures.tally grid ps are sound.kept) (c.in-Ok.ensures.labels grid ps are sound.kept)
    join.data_cells join.raised join.outlets

pub returns-in-Fault-clause-outcome : goal.returns-in-Fault-clause-outcome
returns-in-Fault-clause-outcome g c = λ grid ps are sound.
    first-row (tried c.args.rules.now) (IsTriedIf g.L.Labels.compares c.args.rules.now.judged) (g.L.Labels.judges c.args.labels.now) grid ps c.args.row c.in-Err.end.col c.in-Fault.rule
    (g.L.Labels.are_before grid ps (place c.args.row 0) c.args.labels.now) c.args.total c.requires.judged are.inside sound
    (rw c.in-Fault.is at (c.in-Err.ensures.stopped grid ps are sound.kept))

pub returns-in-OutOfMemory-clause-err : goal.returns-in-OutOfMemory-clause-err
returns-in-OutOfMemory-clause-err g c = λ grid ps are sound.
    new_label-row g.L.Labels.compares c.args.rules.now (g.L.Labels.judges c.args.labels.now) grid ps c.args.row c.in-Err.end.col
    (g.L.Labels.are_before grid ps (place c.args.row 0) c.args.labels.now) c.args.total (g.met.L.Labels.of_all c.args.labels.now) c.requires.row
    (omega (arith, c.in-Err.ensures.narrow, are.cols_are)) sound
    (rw c.in-OutOfMemory.is at (c.in-Err.ensures.stopped grid ps are sound.kept))
