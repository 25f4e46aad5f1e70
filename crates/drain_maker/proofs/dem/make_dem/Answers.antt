use Rattle.std.proofs.Common.{Some, None}
use Rattle.drain_maker.proofs.DemLemmas.{found_in_dem}
use Rattle.drain_maker.proofs.dem.make_dem.Goals as goal

pub returns-in-Some-clause-sinks : goal.returns-in-Some-clause-sinks
returns-in-Some-clause-sinks g c =
    rw c.as_raster.ensures at (found_in_dem c.found_off_data_is_right.ensures c.as_raster.result.now c.args.sinks.now (Some c.in-Some.line) c.in-Some.ensures)

pub returns-in-Some-clause-succeeds : goal.returns-in-Some-clause-succeeds
returns-in-Some-clause-succeeds g c = λ on_data.
    let first = rw c.as_raster.ensures at (found_in_dem c.found_off_data_is_right.ensures c.as_raster.result.now c.args.sinks.now (Some c.in-Some.line) c.in-Some.ensures) in
    absurd (on_data c.in-Some.line first.off)

pub returns-in-Ok-clause-sinks : goal.returns-in-Ok-clause-sinks
returns-in-Ok-clause-sinks g c =
    rw c.as_raster.ensures at (found_in_dem c.found_off_data_is_right.ensures c.as_raster.result.now c.args.sinks.now None c.in_default.ensures)
