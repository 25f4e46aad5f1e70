-- The neighbours in the directions so far were looked at.
use Rattle.drain_flood.proofs.Names.{IsAround, IsLookedBefore, IsLessWork, Grid, Surface, List, Option, ℕ, ℤ, ◌≡◌}
use Rattle.drain_flood.proofs.flood.Flood.look_at_edge.Given as goal

abbrev pub invariant-loop-direction : goal.invariant-loop-direction
invariant-loop-direction t l = record {
  extent : l.self.extent ≡ l.fn.self.extent;
  work : IsLessWork l.fn.self l.self;
  around : (g : Grid) (first : Surface) (stand : Option ℤ) (busy : List ℕ) → g.extent ≡ l.fn.self.extent →
      IsLookedBefore g first l.fn.self stand busy l.cell l.level l.raises →
      IsAround g first l.self stand busy l.cell l.level l.raises l.left l.direction-index;
}
