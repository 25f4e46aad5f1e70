-- The codes of the rows so far.
use Rattle.drain_flood.proofs.Names.{◌≡◌, Grid, spacing_of, IsFlooded, IsSpaced}
use Rattle.drain_flood.proofs.Laying.{AreRowCodes}
use Rattle.drain_flood.proofs.ways.put_rows.Given as goal

abbrev pub invariant-loop-row : goal.invariant-loop-row
invariant-loop-row l =
    (g : Grid) → g.extent ≡ l.surface.extent → IsSpaced g (spacing_of l.spacings) → IsFlooded g l.surface → AreRowCodes g l.surface l.row l.dirs
