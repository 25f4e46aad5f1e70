use Rattle.drain_merge.proofs.Names.{◌≡◌, ℕ, ◌<◌, true, Some, slice_get, Cell, is_listed}
use Rattle.drain_merge.proofs.totals.first_not_listed.Given as goal

-- the cells before are listed
abbrev pub invariant-loop-cell : goal.invariant-loop-cell
invariant-loop-cell l = (j : ℕ) (d : Cell) → j < l.cell-index → slice_get l.taken j ≡ Some d → is_listed l.listed d ≡ true
