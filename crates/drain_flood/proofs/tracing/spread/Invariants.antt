-- What holds of the flood holds at some level; what is left to do falls.
use Rattle.drain_flood.proofs.Names.{IsFloodOf, unreached, Grid, Surface, None, Option, [], length, ℤ, ◌+◌, ◌≡◌}
use Rattle.drain_flood.proofs.tracing.spread.Given as goal

abbrev pub invariant-loop-level : goal.invariant-loop-level
invariant-loop-level t l = record {
  extent : l.flood.extent ≡ l.fn.flood.extent;
  none : l.later.items ≡ [];
  done : l.flood.ahead ≡ [];
  flood : (g : Grid) (first : Surface) → g.extent ≡ l.fn.flood.extent → IsFloodOf g first l.fn.flood None [] → (stand : Option ℤ) × IsFloodOf g first l.flood stand [];
}

abbrev pub decreases-loop-level : goal.decreases-loop-level
decreases-loop-level t l = unreached l.flood + length l.flood.waiting
