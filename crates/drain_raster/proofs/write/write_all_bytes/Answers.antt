use Rattle.drain_raster.proofs.Names.{◌++◌, ℕ, replicate, ap, range_with_len, flat_map, Fields, bytes_of_row, raster_bytes}
use Rattle.drain_raster.proofs.WritingLemmas.{Hands-both, Hands-halted}
use Rattle.drain_raster.proofs.write.write_all_bytes.Goals as goal

pub returns-in_err-write_zeros : goal.returns-in_err-write_zeros
returns-in_err-write_zeros g c =
    let bytes_taken = g.W.ByteSink.bytes_taken in
    let counts = g.W.ByteSink.counts in
    let stalls = g.W.ByteSink.stalls in
    let rows = flat_map (bytes_of_row c.args.header.now c.args.raster.now) (range_with_len 0 c.args.header.now.rows) in
    Hands-halted (bytes_taken c.args.to.now) (bytes_taken c.write_zeros.new.to) (counts c.args.to.now) (counts c.write_zeros.new.to)
    (stalls c.args.to.now) (stalls c.write_zeros.new.to) c.args.patience.now c.write_zeros.new.patience _ c.from_residual.result
    (replicate {A = ℕ} c.header.inside.skip 0) rows (raster_bytes c.args.header.now c.args.raster.now) c.from_residual.ensures.0 c.in_err-write_zeros.ensures
    (ap (λ (h : Fields). replicate {A = ℕ} h.skip 0 ++ rows) c.header.view_is)

pub returns : goal.returns
returns g c =
    let bytes_taken = g.W.ByteSink.bytes_taken in
    let counts = g.W.ByteSink.counts in
    let stalls = g.W.ByteSink.stalls in
    let rows = flat_map (bytes_of_row c.args.header.now c.args.raster.now) (range_with_len 0 c.args.header.now.rows) in
    Hands-both (bytes_taken c.args.to.now) (bytes_taken c.write_zeros.new.to) (bytes_taken c.write_body.new.to) (counts c.args.to.now) (counts c.write_zeros.new.to) (counts c.write_body.new.to)
    (stalls c.args.to.now) (stalls c.write_zeros.new.to) (stalls c.write_body.new.to) c.args.patience.now c.write_zeros.new.patience c.write_body.new.patience c.write_body.result
    (replicate {A = ℕ} c.header.inside.skip 0) rows (raster_bytes c.args.header.now c.args.raster.now) c.in_ok-write_zeros.ensures c.write_body.ensures
    (ap (λ (h : Fields). replicate {A = ℕ} h.skip 0 ++ rows) c.header.view_is)
