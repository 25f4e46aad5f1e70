use Rattle.std.proofs.Common.{arith, refl, ◌∙◌}
use Rattle.drain_raster.proofs.PixelLemmas.{pixel-stored}
use Rattle.drain_raster.proofs.RowNumberLemmas.{number-found, number_put}
use Rattle.drain_raster.proofs.number_rows.put_numbers.Goals as goal

pub loop-k-preserved : goal.loop-k-preserved
loop-k-preserved g c =
    let inv = c.loop-k.invariant in
    let number = g.P.Pixel.reads g.T.ByteOrder.number_of in
    let put = number_put g.P.Pixel.len number c.loop-k.k _ c.args.bytes.now c.loop-k.out c.number.result _ refl (omega arith) inv.items inv.pixels
    (pixel-stored c.number.result c.number.ensures.in_range)
    (c.number.ensures.value ∙ number-found number c.args.bytes.now c.loop-k.k g.P.Pixel.len c.len-len.result c.len-len.ensures) c.number.ensures.in_range in
    record { items = put.0; pixels = put.1 }
