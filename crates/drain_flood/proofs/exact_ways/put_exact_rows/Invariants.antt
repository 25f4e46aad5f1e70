-- The codes of the rows so far.
use Rattle.drain_flood.proofs.Names.{◌≡◌, Grid, spacing_of, IsSurfaceOf, IsSpaced}
use Rattle.drain_flood.proofs.Laying.{AreRowCodes}
use Rattle.drain_flood.proofs.exact_ways.put_exact_rows.Given as goal

abbrev pub invariant-loop-row : goal.invariant-loop-row
invariant-loop-row t l =
    (g : Grid) → g.extent ≡ l.surface.extent → IsSpaced g (spacing_of l.spacings) → IsSurfaceOf g l.surface → AreRowCodes g l.surface l.row l.dirs
