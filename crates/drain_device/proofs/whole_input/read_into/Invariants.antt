use Rattle.drain_device.proofs.Names.{◌-◌, ◌≤◌, vec_len, vec_capacity, Consumes, Answered, full_patience}
use Rattle.drain_device.proofs.whole_input.read_into.Given as goal

-- the body holds what came, keeps its room for all, and there were only interruptions, all of them counted
abbrev pub invariant-chunks : goal.invariant-chunks
invariant-chunks g l =
    let bytes_left = g.R.ByteSource.bytes_left in
    let counts = g.R.ByteSource.counts in
    record {
      room : l.limit ≤ vec_capacity l.fn.body → l.limit ≤ vec_capacity l.body;
      within : vec_len l.body ≤ l.limit;
      came : Consumes (bytes_left l.fn.from) (bytes_left l.from) l.body.items;
      fewer : l.patience ≤ full_patience;
      answered : Answered (counts l.fn.from) (counts l.from) 0 (full_patience - l.patience);
    }

abbrev pub decreases-chunks : goal.decreases-chunks
decreases-chunks g l = l.limit - vec_len l.body
