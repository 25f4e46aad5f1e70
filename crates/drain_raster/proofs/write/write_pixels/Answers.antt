use Rattle.drain_raster.proofs.Names.{◌-◌, ◌*◌, take, arith, ap, ◌∙◌, cells_bytes, cells_from}
use Rattle.drain_raster.proofs.BufferLemmas.{cells_bytes-on, cells_bytes-parts}
use Rattle.drain_raster.proofs.WritingLemmas.{Hands-more, Hands-ended}
use Rattle.drain_raster.proofs.write.write_pixels.Goals as goal

pub returns-in_err-hand : goal.returns-in_err-hand
returns-in_err-hand g c =
    let bytes_taken = g.W.ByteSink.bytes_taken in
    let counts = g.W.ByteSink.counts in
    let stalls = g.W.ByteSink.stalls in
    let inv = c.loop-first.invariant in
    let of_cells = cells_bytes (g.P.Pixel.spells g.T.ByteOrder.bytes_of) c.args.raster.now in
    Hands-ended (bytes_taken c.args.to.now) (bytes_taken c.loop-first.to) (bytes_taken c.hand.new.to) (counts c.args.to.now) (counts c.loop-first.to) (counts c.hand.new.to)
    (stalls c.args.to.now) (stalls c.loop-first.to) (stalls c.hand.new.to) c.args.patience.now c.loop-first.patience c.hand.new.patience _ c.from_residual.result
    (of_cells (cells_from c.args.row 0 c.loop-first.first)) _ (of_cells (cells_from c.args.row c.min-end.result (c.args.cols - c.min-end.result))) (of_cells (cells_from c.args.row 0 c.args.cols))
    c.from_residual.ensures.0 inv.handed c.in_err-hand.ensures
    (cells_bytes-parts (g.P.Pixel.spells g.T.ByteOrder.bytes_of) c.args.raster.now c.args.row c.loop-first.first c.min-end.result c.args.cols _
    (ap (λ l. take ((c.min-end.result - c.loop-first.first) * l) c.put_pixels.new.bytes) c.len.ensures ∙ c.put_pixels.ensures) (omega (arith, c.min-end.ensures)) (omega (arith, c.min-end.ensures)))

pub loop-first-preserved : goal.loop-first-preserved
loop-first-preserved g c =
    let bytes_taken = g.W.ByteSink.bytes_taken in
    let counts = g.W.ByteSink.counts in
    let stalls = g.W.ByteSink.stalls in
    let inv = c.loop-first.invariant in
    let of_cells = cells_bytes (g.P.Pixel.spells g.T.ByteOrder.bytes_of) c.args.raster.now in
    record {
      within = omega (arith, c.min-end.ensures);
      handed = Hands-more (bytes_taken c.args.to.now) (bytes_taken c.loop-first.to) (bytes_taken c.hand.new.to) (counts c.args.to.now) (counts c.loop-first.to) (counts c.hand.new.to)
          (stalls c.args.to.now) (stalls c.loop-first.to) (stalls c.hand.new.to) c.args.patience.now c.loop-first.patience c.hand.new.patience
          (of_cells (cells_from c.args.row 0 c.loop-first.first)) _ (of_cells (cells_from c.args.row 0 c.min-end.result)) inv.handed c.in_ok-hand.ensures
          (cells_bytes-on (g.P.Pixel.spells g.T.ByteOrder.bytes_of) c.args.raster.now c.args.row c.loop-first.first c.min-end.result _
          (ap (λ l. take ((c.min-end.result - c.loop-first.first) * l) c.put_pixels.new.bytes) c.len.ensures ∙ c.put_pixels.ensures) (omega (arith, c.min-end.ensures)));
    }
