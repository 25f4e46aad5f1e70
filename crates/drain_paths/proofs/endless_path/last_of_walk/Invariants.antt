-- The walk has led to a data cell, in as many steps as were counted.
use Rattle.drain_paths.proofs.Names.{IsCellOf, Grid, Products, HasData, AreKnownFlows}
use Rattle.drain_paths.proofs.EndlessSteps.{HasCome}
use Rattle.drain_paths.proofs.endless_path.last_of_walk.Given as goal

abbrev pub invariant-loop-walked : goal.invariant-loop-walked
invariant-loop-walked l = record {
  inside : IsCellOf l.shape l.here;
  come : (g : Grid) → (ps : Products) → AreKnownFlows g ps l.shape l.flows → HasData g l.fn.start → HasCome g ps l.fn.start l.here l._walked;
}
