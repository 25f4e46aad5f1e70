use Rattle.std.proofs.Common.{Some, None}
use Rattle.drain_maker.proofs.MosaicAnswers.{found_there}
use Rattle.drain_maker.proofs.maker.make_freeing.Goals as goal

pub returns-in-Some-clause-sinks : goal.returns-in-Some-clause-sinks
returns-in-Some-clause-sinks g c =
    rw c.as_elevation.ensures at (found_there c.found_off_data_is_right.ensures c.as_elevation.result.now c.args.sinks.now (Some c.in-Some.line) c.in-Some.ensures)

pub returns-in-Some-clause-succeeds : goal.returns-in-Some-clause-succeeds
returns-in-Some-clause-succeeds g c = λ on_data.
    let first = rw c.as_elevation.ensures at (found_there c.found_off_data_is_right.ensures c.as_elevation.result.now c.args.sinks.now (Some c.in-Some.line) c.in-Some.ensures) in
    absurd (on_data c.in-Some.line first.off)

pub returns-in-Ok-clause-sinks : goal.returns-in-Ok-clause-sinks
returns-in-Ok-clause-sinks g c =
    rw c.as_elevation.ensures at (found_there c.found_off_data_is_right.ensures c.as_elevation.result.now c.args.sinks.now None c.in_default.ensures)
