-- The walk hasn't come back, and the cells that it passed are in the list.
use Rattle.drain_paths.proofs.Names.{◌≡◌, length, min, IsCellOf, Grid, Products, HasData, AreKnownFlows, RING_TOLD}
use Rattle.drain_paths.proofs.EndlessSteps.{ArePassed, HasWalked}
use Rattle.drain_paths.proofs.endless_path.ring_from.Given as goal

abbrev pub invariant-loop-walked : goal.invariant-loop-walked
invariant-loop-walked l = record {
  inside : IsCellOf l.shape l.here;
  told : length l.cells.items ≡ min l.walked RING_TOLD;
  walked : (g : Grid) → (ps : Products) → AreKnownFlows g ps l.shape l.flows → HasData g l.first → HasWalked g ps l.first l.here l.walked;
  passed : (g : Grid) → (ps : Products) → AreKnownFlows g ps l.shape l.flows → HasData g l.first → ArePassed g ps l.first l.cells.items;
}
