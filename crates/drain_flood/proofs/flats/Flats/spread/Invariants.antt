-- What holds of the ways still holds; what is left to do falls.
use Rattle.drain_flood.proofs.Names.{◌≡◌, ◌+◌, ◌*◌, [], length, Grid, wayless, AreLaid}
use Rattle.drain_flood.proofs.flats.Flats.spread.Given as goal

abbrev pub invariant-loop-cell : goal.invariant-loop-cell
invariant-loop-cell t l = record {
  extent : l.self.extent ≡ l.fn.self.extent;
  laid : (g : Grid) → g.extent ≡ l.fn.self.extent → AreLaid g l.surface l.fn.self (l.fn.self.extent.rows * l.fn.self.extent.cols) [] →
      AreLaid g l.surface l.self (l.fn.self.extent.rows * l.fn.self.extent.cols) [];
}

abbrev pub decreases-loop-cell : goal.decreases-loop-cell
decreases-loop-cell t l = wayless l.self + wayless l.self + length l.self.ahead
