use Rattle.drain_raster.proofs.Names.{◌≡◌, ◌+◌, ◌-◌, ◌*◌, ◌≤◌, length, take, drop, arith, sym, ap, subst, length-take, mul-le-mul_right, IsCellOf, IsPixel}
use Rattle.std.proofs.lemmas.List.{length-drop}
use Rattle.drain_raster.proofs.BufferLemmas.{put-more}
use Rattle.drain_raster.proofs.CellPlaces.{cell_of}
use Rattle.drain_raster.proofs.KeptLemmas.{at_each_cell, number_kept}
use Rattle.drain_raster.proofs.PixelLemmas.{pixel-stored}
use Rattle.drain_raster.proofs.write.put_kept.Goals as goal

pub put-requires-clause-spelled : goal.put-requires-clause-spelled
put-requires-clause-spelled g c =
    let raster = c.args.raster.now in
    let cell = cell_of c.args.row (c.args.first + c.loop-k.k) in
    let inside : IsCellOf raster.extent cell = record { row = c.requires.row; col = omega (arith, c.loop-k-test.true, c.requires.end) } in
    let number = number_kept raster (g.N.PixelNumbers.numbers c.args.numbers.now) c.shape.result c.args.row c.row_start.result c.args.first c.loop-k.k c.at.result c.requires.numbers c.shape.ensures
    c.row_start.ensures.place c.at.ensures in
    let pixel = subst IsPixel (sym number) (at_each_cell IsPixel raster c.requires.counted c.requires.pixels cell inside) in
    rw (pixel-stored c.at.result pixel, number) (c.requires.spelled cell inside)

pub loop-k-preserved : goal.loop-k-preserved
loop-k-preserved g c =
    let raster = c.args.raster.now in
    let k = c.loop-k.k in
    let cell = cell_of c.args.row (c.args.first + k) in
    let inside : IsCellOf raster.extent cell = record { row = c.requires.row; col = omega (arith, c.loop-k-test.true, c.requires.end) } in
    let number = number_kept raster (g.N.PixelNumbers.numbers c.args.numbers.now) c.shape.result c.args.row c.row_start.result c.args.first k c.at.result c.requires.numbers c.shape.ensures
    c.row_start.ensures.place c.at.ensures in
    let pixel = subst IsPixel (sym number) (at_each_cell IsPixel raster c.requires.counted c.requires.pixels cell inside) in
    let put = rw (pixel-stored c.at.result pixel) at c.put.ensures in
    let is_at : k * c.len.result ≡ k * g.P.Pixel.len = ap (λ l. k * l) c.len.ensures in
    let within = mul-le-mul_right {m = k + 1} {n = c.args.end - c.args.first} g.P.Pixel.len (omega (arith, c.loop-k-test.true)) in
    let room : k * c.len.result + g.P.Pixel.len ≤ length c.loop-k.bytes = omega (arith, within, is_at, c.requires.room, c.loop-k.auto.bytes) in
    let rest : length (take (length c.loop-k.bytes - k * c.len.result) (drop (k * c.len.result) c.loop-k.bytes)) ≡ length c.loop-k.bytes - k * c.len.result =
    simp (length-take, length-drop) (omega arith) in
    put-more (g.P.Pixel.spells g.T.ByteOrder.bytes_of) raster c.args.row c.args.first k g.P.Pixel.len _
    c.loop-k.bytes _ c.put.new.bytes c.at.result c.loop-k.invariant is_at room put c.put.auto.bytes rest number
