use Rattle.drain_grid.proofs.Names.{◌++◌, ◌∷◌, [], ap, ◌∙◌, arith, line_number_at, numbered_from}
use Rattle.drain_grid.proofs.LineRuns.{numbered-same, numbered-more}
use Rattle.drain_grid.proofs.numbered_cells.NumberedCells.push.Goals as goal

pub returns-in_err-run_on-clause-kept : goal.returns-in_err-run_on-clause-kept
returns-in_err-run_on-clause-kept c = λ failed.
    numbered-same 0 c.self.inside.runs.items c.run_on.new.runs.items c.self.inside.cells.items
    (λ k less. c.run_on.ensures.before k (omega (arith, c.len-count.ensures))) ∙ c.self.view_is

pub returns-in_err-push-clause-kept : goal.returns-in_err-push-clause-kept
returns-in_err-push-clause-kept c = λ failed.
    ap (numbered_from 0 c.run_on.new.runs.items) c.in_err-push.ensures.items
    ∙ numbered-same 0 c.self.inside.runs.items c.run_on.new.runs.items c.self.inside.cells.items
    (λ k less. c.run_on.ensures.before k (omega (arith, c.len-count.ensures))) ∙ c.self.view_is

pub returns-clause-added : goal.returns-clause-added
returns-clause-added c =
    numbered-more c.run_on.new.runs.items c.self.inside.cells.items c.push.new.self.items c.args.cell c.args.line c.in_ok-push.ensures.items
    (ap (line_number_at c.run_on.new.runs.items) (omega (arith, c.len-count.ensures)) ∙ c.in_ok-run_on.ensures.next)
    ∙ ap (λ ss. ss ++ record { line = c.args.line; cell = c.args.cell } ∷ [])
    (numbered-same 0 c.self.inside.runs.items c.run_on.new.runs.items c.self.inside.cells.items
    (λ k less. c.run_on.ensures.before k (omega (arith, c.len-count.ensures))) ∙ c.self.view_is)
