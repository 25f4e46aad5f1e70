use Rattle.drain_merge.proofs.Names.{sym, ap, ◌∙◌, WindowReport}
use Rattle.drain_merge.proofs.checks.check_nodata.Goals as goal

pub returns-in-Some-first_other_nodata-clause-refusal : goal.returns-in-Some-first_other_nodata-clause-refusal
returns-in-Some-first_other_nodata-clause-refusal c =
    (c.nodata_of.result, (λ d. sym (c.nodata_of.ensures ∙ ap (λ (w : WindowReport). w.report.nodata) (c.in-Some.ensures.item.3.1 d))), c.in-Some-first_other_nodata.ensures)

pub returns-in-None-clause-one : goal.returns-in-None-clause-one
returns-in-None-clause-one c = (c.nodata_of.result, c.in-None.ensures)
