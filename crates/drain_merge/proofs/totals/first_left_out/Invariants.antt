use Rattle.drain_merge.proofs.Names.{◌≡◌, ℕ, ◌<◌, true, Some, slice_get, SinkLine, is_among}
use Rattle.drain_merge.proofs.totals.first_left_out.Given as goal

-- the cells of the lines before are in the set
abbrev pub invariant-loop-i : goal.invariant-loop-i
invariant-loop-i l = (j : ℕ) (t : SinkLine) → j < l.i → slice_get l.listed j ≡ Some t → is_among l.taken.keys t.cell ≡ true
