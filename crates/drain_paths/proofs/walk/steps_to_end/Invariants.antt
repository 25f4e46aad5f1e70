-- So many steps lead from the start to here.
use Rattle.drain_paths.proofs.Names.{IsCellOf, Grid, Products, HasData, AreKnownFlows}
use Rattle.drain_paths.proofs.FlowWalks.{HasCome}
use Rattle.drain_paths.proofs.walk.steps_to_end.Given as goal

abbrev pub invariant-loop-walked : goal.invariant-loop-walked
invariant-loop-walked l = record {
  inside : IsCellOf l.shape l.here;
  come : (g : Grid) → (ps : Products) → AreKnownFlows g ps l.shape l.flows → HasData g l.fn.start →
      HasCome g ps l.walked l.fn.start l.here;
}
