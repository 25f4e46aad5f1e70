use Rattle.drain_kernel.proofs.Names.{sym, subst, ap, ◌∙◌, ThreeLanes, IsShownIn}
use Rattle.drain_kernel.proofs.kept.kept_until.Goals as goal

pub returns-in-Some-clause-kept : goal.returns-in-Some-clause-kept
returns-in-Some-clause-kept c = λ k low high p spaced shown.
    c.cleared_until.ensures.kept k low high p (spaced ∙ ap (λ (rows : ThreeLanes). rows.slopes.spacing) (sym c.in-Some.ensures)) (subst (λ rows. IsShownIn rows k p) (sym c.in-Some.ensures) shown)

pub returns-in-Some-wide_rows-clause-kept : goal.returns-in-Some-wide_rows-clause-kept
returns-in-Some-wide_rows-clause-kept c = λ k low high p spaced shown.
    c.cleared_until-in-Some-wide_rows.ensures.kept k low high p (spaced ∙ ap (λ (rows : ThreeLanes). rows.slopes.spacing) (sym c.in-Some-wide_rows.ensures)) (subst (λ rows. IsShownIn rows k p) (sym c.in-Some-wide_rows.ensures) shown)
