-- What holds of the flood still holds; what is left to do falls.
use Rattle.drain_flood.proofs.Names.{IsFloodOf, unreached, Grid, Surface, length, ◌*◌, ◌+◌, ◌<◌, ◌≡◌, ◌≤◌, All}
use Rattle.drain_flood.proofs.tracing.sweep.Given as goal

abbrev pub invariant-loop-place : goal.invariant-loop-place
invariant-loop-place t l = record {
  extent : l.flood.extent ≡ l.fn.flood.extent;
  places : All (λ place. place < l.fn.flood.extent.rows * l.fn.flood.extent.cols) l.later.items;
  work : unreached l.flood + length l.flood.ahead + length l.later.items ≤ unreached l.fn.flood + length l.fn.flood.ahead + length l.fn.later.items;
  waiting : l.flood.waiting ≡ l.fn.flood.waiting;
  flood : (g : Grid) (first : Surface) → g.extent ≡ l.fn.flood.extent → IsFloodOf g first l.fn.flood l.stand l.fn.later.items → IsFloodOf g first l.flood l.stand l.later.items;
}

abbrev pub decreases-loop-place : goal.decreases-loop-place
decreases-loop-place t l = unreached l.flood + unreached l.flood + length l.flood.ahead
