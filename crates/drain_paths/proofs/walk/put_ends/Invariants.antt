-- The flows are known, and the run of this cell ends.
use Rattle.drain_paths.proofs.Names.{◌≡◌, ◌*◌, length, IsCellOf, Grid, Products, HasData, RunEnds, AreKnownFlows}
use Rattle.drain_paths.proofs.FlowWalks.{EndsFrom}
use Rattle.drain_paths.proofs.walk.put_ends.Given as goal

abbrev pub invariant-loop : goal.invariant-loop
invariant-loop l = record {
  counted : length l.flows ≡ l.shape.rows * l.shape.cols;
  inside : IsCellOf l.shape l.here;
  ends : (g : Grid) → (ps : Products) → AreKnownFlows g ps l.shape l.fn.flows → HasData g l.fn.start → RunEnds g ps l.fn.start →
      EndsFrom g ps l.shape l.flows l.here;
}
