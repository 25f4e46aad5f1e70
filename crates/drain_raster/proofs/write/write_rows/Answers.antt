use Rattle.drain_raster.proofs.Names.{◌+◌, ◌-◌, arith, ap, sym, range_with_len, flat_map, Fields, bytes_of_row}
use Rattle.drain_raster.proofs.BufferLemmas.{rows-parts}
use Rattle.drain_raster.proofs.CellPlaces.{flat_map-rows_more}
use Rattle.drain_raster.proofs.WritingLemmas.{Hands-both, Hands-ended}
use Rattle.drain_raster.proofs.write.write_rows.Goals as goal

pub returns-in_err-write_row : goal.returns-in_err-write_row
returns-in_err-write_row g c =
    let bytes_taken = g.W.ByteSink.bytes_taken in
    let counts = g.W.ByteSink.counts in
    let stalls = g.W.ByteSink.stalls in
    let f = bytes_of_row c.args.header.now c.args.raster.now in
    Hands-ended (bytes_taken c.args.to.now) (bytes_taken c.loop-row.to) (bytes_taken c.write_row.new.to) (counts c.args.to.now) (counts c.loop-row.to) (counts c.write_row.new.to)
    (stalls c.args.to.now) (stalls c.loop-row.to) (stalls c.write_row.new.to) c.args.patience.now c.loop-row.patience c.write_row.new.patience _ c.from_residual.result
    (flat_map f (range_with_len 0 c.loop-row.row)) (f c.loop-row.row) (flat_map f (range_with_len (c.loop-row.row + 1) (c.args.header.now.rows - (c.loop-row.row + 1))))
    (flat_map f (range_with_len 0 c.args.header.now.rows)) c.from_residual.ensures.0 c.loop-row.invariant c.in_err-write_row.ensures
    (rows-parts f c.loop-row.row c.args.header.now.rows (omega (arith, c.loop-row-test.true, ap (λ (h : Fields). h.rows) c.header.view_is)))

pub loop-row-preserved : goal.loop-row-preserved
loop-row-preserved g c =
    let bytes_taken = g.W.ByteSink.bytes_taken in
    let counts = g.W.ByteSink.counts in
    let stalls = g.W.ByteSink.stalls in
    let f = bytes_of_row c.args.header.now c.args.raster.now in
    Hands-both (bytes_taken c.args.to.now) (bytes_taken c.loop-row.to) (bytes_taken c.write_row.new.to) (counts c.args.to.now) (counts c.loop-row.to) (counts c.write_row.new.to)
    (stalls c.args.to.now) (stalls c.loop-row.to) (stalls c.write_row.new.to) c.args.patience.now c.loop-row.patience c.write_row.new.patience _
    (flat_map f (range_with_len 0 c.loop-row.row)) (f c.loop-row.row) (flat_map f (range_with_len 0 (c.loop-row.row + 1))) c.loop-row.invariant c.in_ok-write_row.ensures
    (sym (flat_map-rows_more f c.loop-row.row))
