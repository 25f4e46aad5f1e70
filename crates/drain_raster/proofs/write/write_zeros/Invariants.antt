use Rattle.drain_raster.proofs.Names.{◌-◌, ◌≤◌, Ok, replicate, GaveUp, Hands}
use Rattle.drain_raster.proofs.write.write_zeros.Given as goal

-- n zeros were written
abbrev pub invariant-loop-written : goal.invariant-loop-written
invariant-loop-written g l =
    let bytes_taken = g.W.ByteSink.bytes_taken in
    let counts = g.W.ByteSink.counts in
    let stalls = g.W.ByteSink.stalls in
    record {
      within : l.written ≤ l.count;
      handed : Hands {E = GaveUp} (bytes_taken l.fn.to) (bytes_taken l.to) (counts l.fn.to) (counts l.to) (stalls l.fn.to) (stalls l.to) l.fn.patience l.patience (Ok tt) (replicate l.written 0);
    }

abbrev pub decreases-loop-written : goal.decreases-loop-written
decreases-loop-written g l = l.count - l.written
