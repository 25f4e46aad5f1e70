use Rattle.drain_kernel.proofs.Names.{sym, ◌∙◌, subst, FallsWith}
use Rattle.drain_kernel.proofs.falls.judged_pass.Goals as goal

pub returns-then-has_dir : goal.returns-then-has_dir
returns-then-has_dir g c = λ falls.
    subst (λ ways. FallsWith ways c.args.rules.now c.args.rows.now c.args.k) (sym c.if-has_dir.true ∙ c.has_dir.ensures) (c.tests_pass.ensures falls)

pub returns-else-has_dir : goal.returns-else-has_dir
returns-else-has_dir g c = λ lies.
    subst (λ ways. FallsWith ways c.args.rules.now c.args.rows.now c.args.k) (sym c.if-has_dir.false ∙ c.has_dir.ensures) (c.lies_at.ensures lies)
