-- The codes of the row so far.
use Rattle.drain_flood.proofs.Names.{◌≡◌, ℕ, ◌*◌, ◌<◌, slice_index, Cell, index_of, Grid, IsInside, IsSurfaceOf, IsCodeAt}
use Rattle.drain_flood.proofs.exact_ways.put_exact_row.Given as goal

abbrev pub invariant-loop-col : goal.invariant-loop-col
invariant-loop-col t l = record {
  others : (i : ℕ) → i < l.row * l.surface.extent.cols → slice_index l.dirs i ≡ slice_index l.fn.dirs i;
  codes : (g : Grid) → g.extent ≡ l.surface.extent → g.spacing l.row ≡ l.spacing → IsSurfaceOf g l.surface → (c : Cell) → IsInside g c → c.row ≡ l.row →
      c.col < l.col → IsCodeAt g l.surface c (slice_index l.dirs (index_of g.extent c));
}
