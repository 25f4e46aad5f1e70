use Rattle.drain_merge.proofs.Names.{take, AreLaid}
use Rattle.drain_merge.proofs.filling.levels_of.Given as goal

abbrev pub invariant-loop-place : goal.invariant-loop-place
invariant-loop-place l = AreLaid l.start l.ends l.levels.items (take l.place-index l.places)
