use Rattle.drain_merge.proofs.Names.{◌≡◌, take, Cell, is_among}
use Rattle.drain_merge.proofs.totals.set_of.Given as goal

-- the set has the cells before
abbrev pub invariant-loop-cell : goal.invariant-loop-cell
invariant-loop-cell l = (c : Cell) → is_among l.set.keys c ≡ is_among (take l.cell-index l.cells) c
