use Rattle.drain_paths.proofs.Names.{◌+◌, sym, subst, arith, rules, AreKnownFlows}
use Rattle.drain_paths.proofs.FlowWalks.{FirstEnd, FirstEnd-none, FirstEnd-pass, FirstEnd-walk, FirstEnd-endless, FirstEnd-all, data_at}
use Rattle.drain_paths.proofs.KnownWays.{AreKnownFlows-grid}
use Rattle.drain_paths.proofs.cell_flows.CellFlows.first_endless.Goals as goal
use Rattle.drain_paths.proofs.cell_flows.CellFlows.first_endless.Goals.{in-Void, in_default+in-Some}

pub loop-index-init : goal.loop-index-init
loop-index-init c = record {
  counted = c.requires;
  ends = λ g ps are. FirstEnd-none g ps c.args.shape c.args.self.now (AreKnownFlows-grid g ps c.args.shape c.args.self.now are);
}

pub returns-in-None-clause-first : goal.returns-in-None-clause-first
returns-in-None-clause-first c = λ g ps are.
    (let first = c.loop-index.invariant.ends g ps are in
    let here = data_at g ps c.args.shape c.loop-index.self c.cell-cell.result c.loop-index.index c.at.result first.known
    c.cell-cell.ensures.inside c.cell-cell.ensures.place c.at.ensures c.in_default.not-Void in
    FirstEnd-endless g ps c.args.shape c.loop-index.self c.loop-index.index c.cell-cell.result first here c.cell-cell.ensures.place
    (c.in-None.ensures g ps first.known here))

pub loop-index-preserved : goal.loop-index-preserved
loop-index-preserved c =
    elim c.match-at.branch [
      | in-Void w ↦ record {
        counted = search rules;
        ends = λ g ps are.
            subst (λ flows. FirstEnd g ps c.args.shape flows (c.loop-index.index + 1)) (sym w.self-is)
            (FirstEnd-pass g ps c.args.shape c.loop-index.self c.loop-index.index c.at.result (c.loop-index.invariant.ends g ps are)
            c.at.ensures w.in-Void.is);
      }
      | in_default+in-Some w ↦ record {
        counted = search rules;
        ends = λ g ps are.
            (let first = c.loop-index.invariant.ends g ps are in
            let here = data_at g ps c.args.shape c.loop-index.self w.cell-cell.result c.loop-index.index c.at.result first.known
            w.cell-cell.ensures.inside w.cell-cell.ensures.place c.at.ensures w.in_default.not-Void in
            let ends = w.in-Some.ensures g ps first.known here in
            FirstEnd-walk g ps c.args.shape c.loop-index.self c.match-at.self c.loop-index.index w.cell-cell.result first here.inside
            w.cell-cell.ensures.place ends
            (subst (λ flows. AreKnownFlows g ps c.args.shape flows) (sym w.self-is) (w.put_ends.ensures.known g ps first.known here ends)));
      }
    ]

pub returns-in-None-clause-known : goal.returns-in-None-clause-known
returns-in-None-clause-known c = λ g ps are. (c.loop-index.invariant.ends g ps are).known

pub returns-clause-known : goal.returns-clause-known
returns-clause-known c = λ g ps are. (c.loop-index.invariant.ends g ps are).known

pub returns-clause-first : goal.returns-clause-first
returns-clause-first c = λ g ps are. FirstEnd-all g ps c.args.shape c.loop-index.self c.loop-index.index (c.loop-index.invariant.ends g ps are)
    (let cells = c.cells-index-end.ensures.product in omega (arith, cells))
