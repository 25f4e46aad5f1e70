use Rattle.drain_raster.specs.Bytes.{CanSpellTo}
use Rattle.drain_raster.proofs.range.first_in_row.Given as goal

-- a pixel can encode the numbers that were passed
abbrev pub invariant-loop-col : goal.invariant-loop-col
invariant-loop-col l = CanSpellTo l.header l.raster l.row l.col
