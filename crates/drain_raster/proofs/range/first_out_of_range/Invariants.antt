use Rattle.drain_raster.proofs.Names.{ℕ, ◌<◌, CanSpellTo}
use Rattle.drain_raster.proofs.range.first_out_of_range.Given as goal

-- a pixel can encode the numbers of the rows that were passed
abbrev pub invariant-loop-row : goal.invariant-loop-row
invariant-loop-row l = (r : ℕ) → r < l.row → CanSpellTo l.header l.raster r l.header.cols
