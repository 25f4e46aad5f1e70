use Rattle.drain_raster.proofs.Names.{◌-◌, ◌*◌, ℕ, replicate, row_cells, cells_bytes, bytes_of_row}
use Rattle.drain_raster.proofs.LengthLemmas.{row-bytes, padding-fits}
use Rattle.drain_raster.proofs.PixelLemmas.{pixel_len-most}
use Rattle.drain_raster.proofs.WritingLemmas.{Hands-both, Hands-halted}
use Rattle.drain_raster.proofs.write.write_row.Goals as goal

pub overflow_sub-padding : goal.overflow_sub-padding
overflow_sub-padding g c =
    padding-fits c.args.header.now _ g.P.Pixel.len c.len.result c.header.view_is c.len.ensures c.requires.written.len_is c.header.invariant.row_holds

pub write_pixels-requires-clause-len : goal.write_pixels-requires-clause-len
write_pixels-requires-clause-len g c =
    rw (c.requires.written.len_is, ← c.header.view_is) (pixel_len-most c.header.inside.bits c.header.invariant.bits_ok)

pub returns-in_err-write_pixels : goal.returns-in_err-write_pixels
returns-in_err-write_pixels g c =
    let bytes_taken = g.W.ByteSink.bytes_taken in
    let counts = g.W.ByteSink.counts in
    let stalls = g.W.ByteSink.stalls in
    Hands-halted (bytes_taken c.args.to.now) (bytes_taken c.write_pixels.new.to) (counts c.args.to.now) (counts c.write_pixels.new.to)
    (stalls c.args.to.now) (stalls c.write_pixels.new.to) c.args.patience.now c.write_pixels.new.patience _ c.from_residual.result
    (cells_bytes (g.P.Pixel.spells g.T.ByteOrder.bytes_of) c.args.raster.now (row_cells c.header.inside.cols c.args.row)) (replicate {A = ℕ} (c.header.inside.row_bytes - c.header.inside.cols * c.len.result) 0)
    (bytes_of_row c.args.header.now c.args.raster.now c.args.row) c.from_residual.ensures.0 c.in_err-write_pixels.ensures
    (row-bytes c.args.header.now _ g.P.Pixel.kind g.P.Pixel.len c.len.result g.P.Pixel.bits g.P.Pixel.signed (g.P.Pixel.spells g.T.ByteOrder.bytes_of) c.args.raster.now c.args.row c.requires.written c.header.view_is c.len.ensures)

pub returns : goal.returns
returns g c =
    let bytes_taken = g.W.ByteSink.bytes_taken in
    let counts = g.W.ByteSink.counts in
    let stalls = g.W.ByteSink.stalls in
    Hands-both (bytes_taken c.args.to.now) (bytes_taken c.write_pixels.new.to) (bytes_taken c.write_zeros.new.to) (counts c.args.to.now) (counts c.write_pixels.new.to) (counts c.write_zeros.new.to)
    (stalls c.args.to.now) (stalls c.write_pixels.new.to) (stalls c.write_zeros.new.to) c.args.patience.now c.write_pixels.new.patience c.write_zeros.new.patience c.write_zeros.result
    (cells_bytes (g.P.Pixel.spells g.T.ByteOrder.bytes_of) c.args.raster.now (row_cells c.header.inside.cols c.args.row)) (replicate {A = ℕ} (c.header.inside.row_bytes - c.header.inside.cols * c.len.result) 0)
    (bytes_of_row c.args.header.now c.args.raster.now c.args.row) c.in_ok-write_pixels.ensures c.write_zeros.ensures
    (row-bytes c.args.header.now _ g.P.Pixel.kind g.P.Pixel.len c.len.result g.P.Pixel.bits g.P.Pixel.signed (g.P.Pixel.spells g.T.ByteOrder.bytes_of) c.args.raster.now c.args.row c.requires.written c.header.view_is c.len.ensures)
