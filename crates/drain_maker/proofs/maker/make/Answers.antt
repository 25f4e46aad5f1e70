use Rattle.drain_maker.proofs.Names.{IfOk, subst, IsCorrect, RunsAreSound, Grid, default_numbers, products_of, KeepsEveryRule}
use Rattle.drain_maker.proofs.UnitSpacing.{on_unit}
use Rattle.drain_maker.proofs.maker.make.Goals as goal

pub returns-clause-rules : goal.returns-clause-rules
returns-clause-rules c =
    subst (λ (g : Grid). IfOk c.make_freeing.result (KeepsEveryRule g))
    (on_unit c.same-spacings.result c.unit.result c.args.elevation.now c.args.sinks.now c.same-spacings.ensures c.unit.ensures) c.make_freeing.ensures.rules

pub returns-clause-correct : goal.returns-clause-correct
returns-clause-correct c =
    subst (λ (g : Grid). IfOk c.make_freeing.result (λ products. IsCorrect g (products_of products) default_numbers))
    (on_unit c.same-spacings.result c.unit.result c.args.elevation.now c.args.sinks.now c.same-spacings.ensures c.unit.ensures) c.make_freeing.ensures.correct

pub returns-clause-runs : goal.returns-clause-runs
returns-clause-runs c =
    subst (λ (g : Grid). IfOk c.make_freeing.result (λ products. RunsAreSound g (products_of products)))
    (on_unit c.same-spacings.result c.unit.result c.args.elevation.now c.args.sinks.now c.same-spacings.ensures c.unit.ensures) c.make_freeing.ensures.runs
