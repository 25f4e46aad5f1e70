use Rattle.drain_paths.proofs.Names.{ap, direction_of}
use Rattle.drain_paths.proofs.FlowCells.{leads_nowhere}
use Rattle.drain_paths.proofs.KnownWays.{AreKnownFlows-grid}
use Rattle.drain_paths.proofs.ways.next_of.Goals as goal

pub returns-in-Ends-clause-leads : goal.returns-in-Ends-clause-leads
returns-in-Ends-clause-leads t c = λ g ps are here.
    leads_nowhere g ps c.args.shape (t.W.Ways.flows c.args.ways.now) are c.args.cell here (ap direction_of c.in-Ends.ensures.flows)

pub returns-in-On-clause-leads : goal.returns-in-On-clause-leads
returns-in-On-clause-leads t c = λ g ps are here.
    c.in-On.ensures.way g ps (AreKnownFlows-grid g ps c.args.shape (t.W.Ways.flows c.args.ways.now) are) here

pub returns-in-Lost-clause-leads : goal.returns-in-Lost-clause-leads
returns-in-Lost-clause-leads t c = λ g ps are here.
    (c.in-Lost.ensures.way g ps (AreKnownFlows-grid g ps c.args.shape (t.W.Ways.flows c.args.ways.now) are) here).0
