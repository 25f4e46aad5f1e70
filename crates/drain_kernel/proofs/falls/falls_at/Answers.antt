use Rattle.drain_kernel.proofs.Names.{sym, subst, ap, ◌∙◌, ThreeLanes, IsShownRoundIn}
use Rattle.drain_kernel.proofs.falls.falls_at.Goals as goal

pub returns-in-Some-clause-kept : goal.returns-in-Some-clause-kept
returns-in-Some-clause-kept c = λ falls p spaced shown.
    c.is_cleared_at.ensures.kept falls p (spaced ∙ ap (λ (rows : ThreeLanes). rows.slopes.spacing) (sym c.in-Some.ensures)) (subst (λ rows. IsShownRoundIn rows c.args.k p) (sym c.in-Some.ensures) shown)

pub returns-in-Some-wide_rows-clause-kept : goal.returns-in-Some-wide_rows-clause-kept
returns-in-Some-wide_rows-clause-kept c = λ falls p spaced shown.
    c.is_cleared_at-in-Some-wide_rows.ensures.kept falls p (spaced ∙ ap (λ (rows : ThreeLanes). rows.slopes.spacing) (sym c.in-Some-wide_rows.ensures)) (subst (λ rows. IsShownRoundIn rows c.args.k p) (sym c.in-Some-wide_rows.ensures) shown)
