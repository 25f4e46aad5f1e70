-- The neighbours in the directions so far were looked at.
use Rattle.drain_flood.proofs.Names.{◌≡◌, ℕ, List, Grid, con_at, IsWalked, IsLessWalk}
use Rattle.drain_flood.proofs.flats.Flats.walk_at_edge.Given as goal

abbrev pub invariant-loop-direction : goal.invariant-loop-direction
invariant-loop-direction t l = record {
  extent : l.self.extent ≡ l.fn.self.extent;
  work : IsLessWalk l.fn.self l.self;
  around : (g : Grid) (k : ℕ) (busy : List ℕ) → g.extent ≡ l.fn.self.extent → l.level ≡ con_at g.extent l.surface l.cell →
      IsWalked g l.surface l.fn.self k busy l.cell l.rank 0 → IsWalked g l.surface l.self k busy l.cell l.rank l.direction-index;
}
