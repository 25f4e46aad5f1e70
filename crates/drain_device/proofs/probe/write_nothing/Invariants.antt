use Rattle.drain_device.proofs.Names.{◌≡◌, Keeps, Answered}
use Rattle.drain_device.proofs.probe.write_nothing.Given as goal

-- nothing was taken, and each call so far was interrupted
abbrev pub invariant-loop-tried : goal.invariant-loop-tried
invariant-loop-tried g l = record {
  kept : Keeps (g.W.ByteSink.bytes_taken l.fn.to) (g.W.ByteSink.bytes_taken l.to);
  answered : Answered (g.W.ByteSink.counts l.fn.to) (g.W.ByteSink.counts l.to) 0 l.tried;
  moved : g.W.ByteSink.stalls l.to ≡ g.W.ByteSink.stalls l.fn.to;
}
