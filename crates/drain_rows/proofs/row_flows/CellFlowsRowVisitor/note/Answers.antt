use Rattle.drain_rows.proofs.Names.{◌+◌, ◌∙◌, sym, subst, Dir}
use Rattle.drain_paths.specs.Flows.{AreFirstFlows}
use Rattle.drain_paths.proofs.GridFlows.{AreFirstFlows-row}
use Rattle.drain_rows.proofs.WindowLemmas.{on-ok}
use Rattle.drain_rows.proofs.row_flows.CellFlowsRowVisitor.note.Goals as goal

pub push_row-requires-clause-cells : goal.push_row-requires-clause-cells
push_row-requires-clause-cells c = sym (c.requires.whole.long Dir)

pub push_row-requires-clause-pixels : goal.push_row-requires-clause-pixels
push_row-requires-clause-pixels c = c.requires.whole.pixels Dir

pub returns-clause-noted : goal.returns-clause-noted
returns-clause-noted c =
    let row = c.args.row.now in
    on-ok c.push_row.result
    (λ is grid ps r numbers shown first.
    subst (AreFirstFlows grid ps grid.extent (r + 1)) (sym is) (AreFirstFlows-row grid ps grid.extent r c.args.self.now row.z row.products.dir first (record {
      samples_are = numbers.cols_are;
      numbers_are = c.requires.whole.long Dir ∙ numbers.cols_are;
      elevation = numbers.elevation;
      code = numbers.products Dir;
    })))
    c.push_row.ensures.ok
