use Rattle.drain_merge.specs.Seams.{NoneDiffersBelow}
use Rattle.drain_merge.proofs.seams.first_differing.Given as goal

abbrev pub invariant-loop-place : goal.invariant-loop-place
invariant-loop-place l = NoneDiffersBelow l.seams l.place
