use Rattle.drain_explain.specs.ElevationRanges.{IsOfRow, IsRange}
use Rattle.drain_explain.proofs.elevation_range.range_of.Given as goal

-- the range is that of the elevations before the column
abbrev pub invariant-loop-col : goal.invariant-loop-col
invariant-loop-col l = IsRange (IsOfRow l.row l.col) l.range
