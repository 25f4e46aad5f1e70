use Rattle.drain_merge.proofs.Names.{sym, subst, Report, UnionVerdict, Accepted}
use Rattle.drain_merge.specs.MapBoxes.{IsEndOf}
use Rattle.drain_merge.proofs.map_merge.end_of.Goals as goal

pub returns-clause-end : goal.returns-clause-end
returns-clause-end c =
    let v = c.by_labels.result in
    subst (λ (told : UnionVerdict). IsEndOf told c.args.report v) (sym c.in-Accepted.is)
    (subst (λ (r : Report). IsEndOf (Accepted c.in-Accepted.counts) r v) c.report.view_is c.by_labels.ensures)
