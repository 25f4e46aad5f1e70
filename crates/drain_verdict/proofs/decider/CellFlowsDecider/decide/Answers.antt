use Rattle.drain_verdict.proofs.Names.{◌∙◌, subst, Extent, AreFirstFlows}
use Rattle.drain_paths.proofs.GridFlows.{AreFlowsOf-all}
use Rattle.drain_verdict.proofs.OutcomeLemmas.{decided_by_flows}
use Rattle.drain_verdict.proofs.decider.CellFlowsDecider.decide.Goals as goal

pub returns-clause-cell : goal.returns-clause-cell
returns-clause-cell c = λ rules g ps decides same extent sinks flows verdict.
    let all = subst (λ (e : Extent). AreFirstFlows g ps e c.args.shape.rows c.args.self) extent flows in
    decided_by_flows c.args.judged g ps c.args.verdict.now c.first_endless-cell.result decides.0 decides.1
    (c.first_endless-cell.ensures.first rules g ps same verdict all.counted (AreFlowsOf-all g ps c.args.shape c.args.self all))

pub returns-clause-flows : goal.returns-clause-flows
returns-clause-flows c = λ rules g ps extent flows.
    let all = subst (λ (e : Extent). AreFirstFlows g ps e c.args.shape.rows c.args.self) extent flows in
    record {
      known = c.first_endless-cell.ensures.known g ps (AreFlowsOf-all g ps c.args.shape c.args.self all);
      counted = c.first_endless-cell.ensures.counted ∙ all.counted;
    }
