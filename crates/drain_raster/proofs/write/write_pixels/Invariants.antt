use Rattle.drain_raster.proofs.Names.{◌-◌, ◌≤◌, Ok, GaveUp, cells_bytes, cells_from, Hands}
use Rattle.drain_raster.proofs.write.write_pixels.Given as goal

-- the pixels that were passed were written
abbrev pub invariant-loop-first : goal.invariant-loop-first
invariant-loop-first g l =
    let bytes_taken = g.W.ByteSink.bytes_taken in
    let counts = g.W.ByteSink.counts in
    let stalls = g.W.ByteSink.stalls in
    record {
      within : l.first ≤ l.cols;
      handed : Hands {E = GaveUp} (bytes_taken l.fn.to) (bytes_taken l.to) (counts l.fn.to) (counts l.to) (stalls l.fn.to) (stalls l.to) l.fn.patience l.patience (Ok (tt {0}))
          (cells_bytes (g.P.Pixel.spells g.T.ByteOrder.bytes_of) l.raster (cells_from l.row 0 l.first));
    }

abbrev pub decreases-loop-first : goal.decreases-loop-first
decreases-loop-first g l = l.cols - l.first
