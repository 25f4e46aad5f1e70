use Rattle.drain_raster.proofs.Names.{◌/◌, refl, ap, Fields}
use Rattle.drain_raster.proofs.LengthLemmas.{padding-fits}
use Rattle.drain_raster.proofs.raster_rows.padding.Goals as goal

pub overflow_sub-result : goal.overflow_sub-result
overflow_sub-result c =
    let len = c.header.inside.bits / 8 in
    rw c.from.ensures (padding-fits c.args.header.now _ len len c.header.view_is refl (ap (λ (h : Fields). h.bits / 8) c.header.view_is) c.header.invariant.row_holds)
