use Rattle.drain_verdict.proofs.Names.{ap, arith, length, length-map, height_with}
use Rattle.drain_verdict.proofs.dem_ground.read_elevations.Goals as goal

pub returns-clause-narrow : goal.returns-clause-narrow
returns-clause-narrow g c =
    let is = ap length c.put_pixels.ensures.elevations in
    let same = length-map c.read_raster.new.out (height_with c.args.voids) in
    omega (arith, is, same, c.in_ok-read_raster.ensures.narrow)
