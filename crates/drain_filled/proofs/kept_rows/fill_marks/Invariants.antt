-- The marks of the places that were passed are there.
use Rattle.drain_filled.proofs.Names.{◌≡◌, ◌<◌, ℕ, None, get_or, mark_of}
use Rattle.drain_filled.proofs.kept_rows.fill_marks.Given as goal

abbrev pub invariant-loop-k : goal.invariant-loop-k
invariant-loop-k l = (i : ℕ) → i < l.k → get_or l.out i 0 ≡ mark_of (get_or l.z i None)
