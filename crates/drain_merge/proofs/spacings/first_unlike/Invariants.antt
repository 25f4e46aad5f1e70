use Rattle.drain_merge.proofs.Names.{AllWithin, HaveRowsAlike}
use Rattle.drain_merge.proofs.spacings.first_unlike.Given as goal

abbrev pub invariant-loop-i : goal.invariant-loop-i
invariant-loop-i l = AllWithin (λ v. HaveRowsAlike v l.window) l.windows 0 l.i
