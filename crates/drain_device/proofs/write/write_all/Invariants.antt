use Rattle.drain_device.proofs.Names.{◌≡◌, ◌+◌, ◌-◌, ◌≤◌, length, take, Appends, Answered}
use Rattle.drain_device.proofs.write.write_all.Given as goal

-- this many bytes were taken, with only interruptions, all of them counted
abbrev pub invariant-loop-at : goal.invariant-loop-at
invariant-loop-at g l =
    let bytes_taken = g.W.ByteSink.bytes_taken in
    let counts = g.W.ByteSink.counts in
    let stalls = g.W.ByteSink.stalls in
    record {
      within : l.at ≤ length l.bytes;
      went : Appends (bytes_taken l.fn.to) (bytes_taken l.to) (take l.at l.bytes);
      fewer : l.patience ≤ l.fn.patience;
      answered : Answered (counts l.fn.to) (counts l.to) 0 (l.fn.patience - l.patience);
      moved : stalls l.to ≡ stalls l.fn.to;
    }

abbrev pub decreases-loop-at : goal.decreases-loop-at
decreases-loop-at g l = (length l.bytes - l.at) + l.patience
