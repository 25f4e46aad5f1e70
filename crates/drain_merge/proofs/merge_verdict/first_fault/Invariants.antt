use Rattle.drain_merge.proofs.Names.{take, IsFirstOfFaults}
use Rattle.drain_merge.proofs.merge_verdict.first_fault.Given as goal

abbrev pub invariant-loop-window : goal.invariant-loop-window
invariant-loop-window l = IsFirstOfFaults (take l.window-index l.windows) l.first
