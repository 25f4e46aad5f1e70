-- The cells so far were looked at.
use Rattle.drain_flood.proofs.Names.{◌≡◌, [], Grid, AreLaid}
use Rattle.drain_flood.proofs.flats.Flats.find_low_edges.Given as goal

abbrev pub invariant-loop-place : goal.invariant-loop-place
invariant-loop-place t l = record {
  extent : l.self.extent ≡ l.fn.self.extent;
  laid : (g : Grid) → g.extent ≡ l.fn.self.extent → AreLaid g l.surface l.fn.self 0 [] → AreLaid g l.surface l.self l.place [];
}
