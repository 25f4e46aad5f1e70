use Rattle.drain_report.proofs.Names.{◌++◌, ◌∙◌, ◌<◌, ◌^◌, arith, grid_line, place_line, nodata_line, verdict_line, line_feeds, version_line}
use Rattle.drain_report.proofs.FaultLemmas.{at_two, few_feeds, later, line_fits}
use Rattle.drain_report.proofs.TextLemmas.{five_split, read_five, same_head}
use Rattle.drain_report.proofs.head.read_head.Goals as goal

pub returns-in-Err-clause-back : goal.returns-in-Err-clause-back
returns-in-Err-clause-back c = λ head rest fit is.
    let whole = is ∙ five_split version_line (grid_line head.grid) (place_line head.place) (nodata_line head.nodata) (verdict_line head.verdict) rest in
    c.in-Err.ensures.back (grid_line head.grid ++ (place_line head.place ++ (nodata_line head.nodata ++ (verdict_line head.verdict ++ rest)))) whole

pub returns-in-Err-read_grid-clause-back : goal.returns-in-Err-read_grid-clause-back
returns-in-Err-read_grid-clause-back c = λ head rest fit is.
    let whole = is ∙ five_split version_line (grid_line head.grid) (place_line head.place) (nodata_line head.nodata) (verdict_line head.verdict) rest in
    let after_version = c.in-Ok.ensures.back (grid_line head.grid ++ (place_line head.place ++ (nodata_line head.nodata ++ (verdict_line head.verdict ++ rest)))) whole in
    c.in-Err-read_grid.ensures.back head.grid (place_line head.place ++ (nodata_line head.nodata ++ (verdict_line head.verdict ++ rest))) fit.grid after_version

pub returns-in-Err-read_from-clause-back : goal.returns-in-Err-read_from-clause-back
returns-in-Err-read_from-clause-back c = λ head rest fit is.
    let whole = is ∙ five_split version_line (grid_line head.grid) (place_line head.place) (nodata_line head.nodata) (verdict_line head.verdict) rest in
    let after_version = c.in-Ok.ensures.back (grid_line head.grid ++ (place_line head.place ++ (nodata_line head.nodata ++ (verdict_line head.verdict ++ rest)))) whole in
    let grid = c.in-Ok-read_grid.ensures.back head.grid (place_line head.place ++ (nodata_line head.nodata ++ (verdict_line head.verdict ++ rest))) fit.grid after_version in
    c.in-Err-read_from.ensures.back head.place (nodata_line head.nodata ++ (verdict_line head.verdict ++ rest)) fit.place grid.1

pub returns-in-Err-read_from-2-clause-back : goal.returns-in-Err-read_from-2-clause-back
returns-in-Err-read_from-2-clause-back c = λ head rest fit is.
    let whole = is ∙ five_split version_line (grid_line head.grid) (place_line head.place) (nodata_line head.nodata) (verdict_line head.verdict) rest in
    let after_version = c.in-Ok.ensures.back (grid_line head.grid ++ (place_line head.place ++ (nodata_line head.nodata ++ (verdict_line head.verdict ++ rest)))) whole in
    let grid = c.in-Ok-read_grid.ensures.back head.grid (place_line head.place ++ (nodata_line head.nodata ++ (verdict_line head.verdict ++ rest))) fit.grid after_version in
    let place = c.in-Ok-read_from.ensures.back head.place (nodata_line head.nodata ++ (verdict_line head.verdict ++ rest)) fit.place grid.1 in
    c.in-Err-read_from-2.ensures.back head.nodata (verdict_line head.verdict ++ rest) fit.nodata place.1

pub returns-in-Err-read_from-3-clause-back : goal.returns-in-Err-read_from-3-clause-back
returns-in-Err-read_from-3-clause-back c = λ head rest fit is.
    let whole = is ∙ five_split version_line (grid_line head.grid) (place_line head.place) (nodata_line head.nodata) (verdict_line head.verdict) rest in
    let after_version = c.in-Ok.ensures.back (grid_line head.grid ++ (place_line head.place ++ (nodata_line head.nodata ++ (verdict_line head.verdict ++ rest)))) whole in
    let grid = c.in-Ok-read_grid.ensures.back head.grid (place_line head.place ++ (nodata_line head.nodata ++ (verdict_line head.verdict ++ rest))) fit.grid after_version in
    let place = c.in-Ok-read_from.ensures.back head.place (nodata_line head.nodata ++ (verdict_line head.verdict ++ rest)) fit.place grid.1 in
    let nodata = c.in-Ok-read_from-2.ensures.back head.nodata (verdict_line head.verdict ++ rest) fit.nodata place.1 in
    c.in-Err-read_from-3.ensures.back head.verdict rest fit.verdict nodata.1

pub returns-clause-sound : goal.returns-clause-sound
returns-clause-sound c =
    read_five c.args.text.now c.in-Ok.read.rest.now c.in-Ok-read_grid.read.1.rest.now c.in-Ok-read_from.read.1.rest.now c.in-Ok-read_from-2.read.1.rest.now c.in-Ok-read_from-3.read.1.rest.now
    version_line (grid_line c.in-Ok-read_grid.read.0) (place_line c.in-Ok-read_from.read.0) (nodata_line c.in-Ok-read_from-2.read.0) (verdict_line c.in-Ok-read_from-3.read.0)
    c.in-Ok.ensures.sound c.in-Ok-read_grid.ensures.sound c.in-Ok-read_from.ensures.sound c.in-Ok-read_from-2.ensures.sound c.in-Ok-read_from-3.ensures.sound

pub returns-clause-back : goal.returns-clause-back
returns-clause-back c = λ head rest fit is.
    let whole = is ∙ five_split version_line (grid_line head.grid) (place_line head.place) (nodata_line head.nodata) (verdict_line head.verdict) rest in
    let after_version = c.in-Ok.ensures.back (grid_line head.grid ++ (place_line head.place ++ (nodata_line head.nodata ++ (verdict_line head.verdict ++ rest)))) whole in
    let grid = c.in-Ok-read_grid.ensures.back head.grid (place_line head.place ++ (nodata_line head.nodata ++ (verdict_line head.verdict ++ rest))) fit.grid after_version in
    let place = c.in-Ok-read_from.ensures.back head.place (nodata_line head.nodata ++ (verdict_line head.verdict ++ rest)) fit.place grid.1 in
    let nodata = c.in-Ok-read_from-2.ensures.back head.nodata (verdict_line head.verdict ++ rest) fit.nodata place.1 in
    let verdict = c.in-Ok-read_from-3.ensures.back head.verdict rest fit.verdict nodata.1 in
    (same_head head _ _ _ _ grid.0 place.0 nodata.0 verdict.0, verdict.1)

pub returns-in-Err-clause-place : goal.returns-in-Err-clause-place
returns-in-Err-clause-place c = c.in-Err.ensures.place

pub returns-in-Err-read_grid-clause-place : goal.returns-in-Err-read_grid-clause-place
returns-in-Err-read_grid-clause-place c =
    let text = c.args.text.now in
    let few : line_feeds c.args.text.now < 2 ^ 63 = omega (arith, few_feeds c.args.text.now) in
    let first = at_two text c.in-Ok.read.number c.in-Ok.read.rest.now c.in-Ok.ensures.sound c.in-Ok.ensures.place in
    line_fits text c.in-Ok.read.number c.in-Err-read_grid.fault (c.in-Ok.read.rest.now, c.in-Ok.ensures.sound) first.least (c.in-Err-read_grid.ensures.place (line_feeds text) few first.at)

pub returns-in-Err-read_from-clause-place : goal.returns-in-Err-read_from-clause-place
returns-in-Err-read_from-clause-place c =
    let text = c.args.text.now in
    let few : line_feeds c.args.text.now < 2 ^ 63 = omega (arith, few_feeds c.args.text.now) in
    let first = at_two text c.in-Ok.read.number c.in-Ok.read.rest.now c.in-Ok.ensures.sound c.in-Ok.ensures.place in
    let count = later text c.in-Ok.read.rest.now c.in-Ok-read_grid.read.1.rest.now c.in-Ok.read.number c.in-Ok-read_grid.read.1.number first (c.in-Ok-read_grid.ensures.place (line_feeds text) few) in
    line_fits text c.in-Ok-read_grid.read.1.number c.in-Err-read_from.fault (c.in-Ok.read.rest.now, c.in-Ok.ensures.sound) count.least (c.in-Err-read_from.ensures.place (line_feeds text) few count.at)

pub returns-in-Err-read_from-2-clause-place : goal.returns-in-Err-read_from-2-clause-place
returns-in-Err-read_from-2-clause-place c =
    let text = c.args.text.now in
    let few : line_feeds c.args.text.now < 2 ^ 63 = omega (arith, few_feeds c.args.text.now) in
    let first = at_two text c.in-Ok.read.number c.in-Ok.read.rest.now c.in-Ok.ensures.sound c.in-Ok.ensures.place in
    let count = later text c.in-Ok.read.rest.now c.in-Ok-read_grid.read.1.rest.now c.in-Ok.read.number c.in-Ok-read_grid.read.1.number first (c.in-Ok-read_grid.ensures.place (line_feeds text) few) in
    let place = later text c.in-Ok-read_grid.read.1.rest.now c.in-Ok-read_from.read.1.rest.now c.in-Ok-read_grid.read.1.number c.in-Ok-read_from.read.1.number count (c.in-Ok-read_from.ensures.place (line_feeds text) few) in
    line_fits text c.in-Ok-read_from.read.1.number c.in-Err-read_from-2.fault (c.in-Ok.read.rest.now, c.in-Ok.ensures.sound) place.least (c.in-Err-read_from-2.ensures.place (line_feeds text) few place.at)

pub returns-in-Err-read_from-3-clause-place : goal.returns-in-Err-read_from-3-clause-place
returns-in-Err-read_from-3-clause-place c =
    let text = c.args.text.now in
    let few : line_feeds c.args.text.now < 2 ^ 63 = omega (arith, few_feeds c.args.text.now) in
    let first = at_two text c.in-Ok.read.number c.in-Ok.read.rest.now c.in-Ok.ensures.sound c.in-Ok.ensures.place in
    let count = later text c.in-Ok.read.rest.now c.in-Ok-read_grid.read.1.rest.now c.in-Ok.read.number c.in-Ok-read_grid.read.1.number first (c.in-Ok-read_grid.ensures.place (line_feeds text) few) in
    let place = later text c.in-Ok-read_grid.read.1.rest.now c.in-Ok-read_from.read.1.rest.now c.in-Ok-read_grid.read.1.number c.in-Ok-read_from.read.1.number count (c.in-Ok-read_from.ensures.place (line_feeds text) few) in
    let nodata = later text c.in-Ok-read_from.read.1.rest.now c.in-Ok-read_from-2.read.1.rest.now c.in-Ok-read_from.read.1.number c.in-Ok-read_from-2.read.1.number place (c.in-Ok-read_from-2.ensures.place (line_feeds text) few) in
    line_fits text c.in-Ok-read_from-2.read.1.number c.in-Err-read_from-3.fault (c.in-Ok.read.rest.now, c.in-Ok.ensures.sound) nodata.least (c.in-Err-read_from-3.ensures.place (line_feeds text) few nodata.at)

pub returns-clause-place : goal.returns-clause-place
returns-clause-place c =
    let text = c.args.text.now in
    let few : line_feeds c.args.text.now < 2 ^ 63 = omega (arith, few_feeds c.args.text.now) in
    let first = at_two text c.in-Ok.read.number c.in-Ok.read.rest.now c.in-Ok.ensures.sound c.in-Ok.ensures.place in
    let count = later text c.in-Ok.read.rest.now c.in-Ok-read_grid.read.1.rest.now c.in-Ok.read.number c.in-Ok-read_grid.read.1.number first (c.in-Ok-read_grid.ensures.place (line_feeds text) few) in
    let place = later text c.in-Ok-read_grid.read.1.rest.now c.in-Ok-read_from.read.1.rest.now c.in-Ok-read_grid.read.1.number c.in-Ok-read_from.read.1.number count (c.in-Ok-read_from.ensures.place (line_feeds text) few) in
    let nodata = later text c.in-Ok-read_from.read.1.rest.now c.in-Ok-read_from-2.read.1.rest.now c.in-Ok-read_from.read.1.number c.in-Ok-read_from-2.read.1.number place (c.in-Ok-read_from-2.ensures.place (line_feeds text) few) in
    let past = c.in-Ok-read_from-3.ensures.place (line_feeds text) few nodata.at in
    (omega (arith, nodata.least, past.0), past.1)
