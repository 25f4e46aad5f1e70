use Rattle.drain_raster.proofs.Names.{Ok, range_with_len, flat_map, GaveUp, bytes_of_row, Hands}
use Rattle.drain_raster.proofs.write.write_rows.Given as goal

-- the rows that were passed were written
abbrev pub invariant-loop-row : goal.invariant-loop-row
invariant-loop-row g l =
    let bytes_taken = g.W.ByteSink.bytes_taken in
    let counts = g.W.ByteSink.counts in
    let stalls = g.W.ByteSink.stalls in
    Hands {E = GaveUp} (bytes_taken l.fn.to) (bytes_taken l.to) (counts l.fn.to) (counts l.to) (stalls l.fn.to) (stalls l.to) l.fn.patience l.patience (Ok (tt {0}))
    (flat_map (bytes_of_row l.header l.raster) (range_with_len 0 l.row))
