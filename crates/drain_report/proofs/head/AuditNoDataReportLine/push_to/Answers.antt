use Rattle.drain_report.proofs.Names.{refl, subst, NoDataNumbers, IsAuditNoData}
use Rattle.drain_grid.specs.declared.product.Product.TheVariants.{Con, Dir, Acc, Bas}
use Rattle.drain_report.proofs.TextLemmas.{on_ok}
use Rattle.drain_report.proofs.head.AuditNoDataReportLine.push_to.Goals as goal

pub returns-clause-in_range : goal.returns-clause-in_range
returns-clause-in_range c =
    let range = c.self.invariant in
    on_ok c.push_line.result
    (λ _. subst (λ (n : NoDataNumbers). IsAuditNoData n) c.self.view_is
    (record { con = range Con; dir = range Dir; acc = range Acc; bas = range Bas; spl = refl; rnk = refl }))
    c.push_line.ensures
