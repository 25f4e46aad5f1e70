use Rattle.drain_merge.proofs.Names.{take, AreCountsOf}
use Rattle.drain_merge.proofs.totals.total.Given as goal

abbrev pub invariant-loop-window : goal.invariant-loop-window
invariant-loop-window l = AreCountsOf l.fn.size (take l.window-index l.windows) l.counts
