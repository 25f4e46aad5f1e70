-- The lists have one number at each data cell before this place.
use Rattle.drain_filled.specs.Compared.{AreOneBefore}
use Rattle.drain_filled.proofs.compare.first_other.Given as goal

abbrev pub invariant-loop-place : goal.invariant-loop-place
invariant-loop-place l = AreOneBefore l.ground l.con l.least l.place
