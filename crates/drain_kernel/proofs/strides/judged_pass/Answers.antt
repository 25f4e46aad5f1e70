use Rattle.drain_kernel.proofs.Names.{sym, ◌∙◌, subst, Along, PassesWith}
use Rattle.drain_kernel.proofs.strides.judged_pass.Goals as goal

pub returns-then-has_dir : goal.returns-then-has_dir
returns-then-has_dir g c = λ pass.
    subst (λ ways. Along c.args.from c.args.end (PassesWith ways c.args.rules.now c.args.rows.now)) (sym c.if-has_dir.true ∙ c.has_dir.ensures)
    (c.all_pass.ensures pass)

pub returns-else-has_dir : goal.returns-else-has_dir
returns-else-has_dir g c = λ pass.
    subst (λ ways. Along c.args.from c.args.end (PassesWith ways c.args.rules.now c.args.rows.now)) (sym c.if-has_dir.false ∙ c.has_dir.ensures)
    (c.surfaces_pass.ensures pass)
