use Rattle.drain_raster.proofs.KindLemmas.{f32_kind}
use Rattle.drain_raster.proofs.pixel_rows.kind_of.Goals as goal

pub returns-in-Single-Least : goal.returns-in-Single-Least
returns-in-Single-Least c =
    let arm = c.in-Single-Least in
    f32_kind c.args.header.now _ c.header.view_is arm.is-0 (c.header.invariant.float_bits arm.is-0) arm.is-1
