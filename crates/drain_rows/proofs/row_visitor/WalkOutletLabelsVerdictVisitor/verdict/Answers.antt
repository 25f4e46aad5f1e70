use Rattle.drain_rows.proofs.row_visitor.WalkOutletLabelsVerdictVisitor.verdict.Goals as goal

pub returns : goal.returns
returns c = λ rules g ps extent are. c.verdict.ensures.verdict rules g ps extent are.rows_are are.right
