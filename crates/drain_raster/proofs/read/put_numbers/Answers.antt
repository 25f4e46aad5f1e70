use Rattle.drain_raster.proofs.Names.{◌+◌, ◌-◌, ◌<◌, arith, ◌∙◌, pixel_at}
use Rattle.drain_raster.proofs.BufferLemmas.{number-put}
use Rattle.drain_raster.proofs.PixelLemmas.{place-by, pixel-found, pixel-room, pixel-starts, pixel-stored}
use Rattle.drain_raster.proofs.read.put_numbers.Goals as goal

pub overflow_mul-at : goal.overflow_mul-at
overflow_mul-at g c =
    let col_in : c.loop-col.col < c.args.header.now.cols = omega (arith, c.requires.end, c.loop-col-test.true) in
    let start = pixel-starts c.args.header.now g.P.Pixel.len (g.P.Pixel.reads g.T.ByteOrder.number_of) c.args.body.now _ c.args.row c.loop-col.col c.requires.spelled c.requires.inside col_in c.requires.long
    (place-by c.args.header.now _ c.args.row c.loop-col.col c.len.result g.P.Pixel.len c.header.view_is c.len.ensures) in
    omega (arith, start)

pub overflow_add-at : goal.overflow_add-at
overflow_add-at g c =
    let col_in : c.loop-col.col < c.args.header.now.cols = omega (arith, c.requires.end, c.loop-col-test.true) in
    let start = pixel-starts c.args.header.now g.P.Pixel.len (g.P.Pixel.reads g.T.ByteOrder.number_of) c.args.body.now _ c.args.row c.loop-col.col c.requires.spelled c.requires.inside col_in c.requires.long
    (place-by c.args.header.now _ c.args.row c.loop-col.col c.len.result g.P.Pixel.len c.header.view_is c.len.ensures) in
    omega (arith, start)

pub slice_bounds-number-start : goal.slice_bounds-number-start
slice_bounds-number-start g c =
    let col_in : c.loop-col.col < c.args.header.now.cols = omega (arith, c.requires.end, c.loop-col-test.true) in
    pixel-starts c.args.header.now g.P.Pixel.len (g.P.Pixel.reads g.T.ByteOrder.number_of) c.args.body.now _ c.args.row c.loop-col.col c.requires.spelled c.requires.inside col_in c.requires.long
    (place-by c.args.header.now _ c.args.row c.loop-col.col c.len.result g.P.Pixel.len c.header.view_is c.len.ensures)

pub number-requires : goal.number-requires
number-requires g c =
    let col_in : c.loop-col.col < c.args.header.now.cols = omega (arith, c.requires.end, c.loop-col-test.true) in
    pixel-room c.args.header.now g.P.Pixel.len (g.P.Pixel.reads g.T.ByteOrder.number_of) c.args.body.now _ c.args.row c.loop-col.col c.requires.spelled c.requires.inside col_in c.requires.long
    (place-by c.args.header.now _ c.args.row c.loop-col.col c.len.result g.P.Pixel.len c.header.view_is c.len.ensures)

pub loop-col-preserved : goal.loop-col-preserved
loop-col-preserved g c =
    let inv = c.loop-col.invariant in
    let found = c.number.ensures.value ∙ pixel-found c.args.header.now g.P.Pixel.len (g.P.Pixel.reads g.T.ByteOrder.number_of) c.args.body.now _ c.args.row c.loop-col.col c.requires.spelled
    (place-by c.args.header.now _ c.args.row c.loop-col.col c.len.result g.P.Pixel.len c.header.view_is c.len.ensures) in
    let put = number-put (pixel_at c.args.header.now c.args.body.now) c.args.row c.args.first (c.loop-col.col - c.args.first) c.loop-col.col (c.loop-col.col + 1 - c.args.first)
    c.loop-col.buffer c.number.result _ (omega arith) (omega arith) (omega (arith, c.requires.room, c.loop-col.auto.buffer)) inv.items inv.pixels
    (pixel-stored c.number.result c.number.ensures.in_range) found c.number.ensures.in_range in
    record { items = put.0; pixels = put.1 }
