use Rattle.std.proofs.Common.{take}
use Rattle.drain_merge.proofs.OuterSeams.{AreOuterOf}
use Rattle.drain_merge.proofs.outer_seams.outer_seams.Given as goal

abbrev pub invariant-loop-place : goal.invariant-loop-place
invariant-loop-place l = AreOuterOf l.bounds (take l.place l.shown) l.outer.items
