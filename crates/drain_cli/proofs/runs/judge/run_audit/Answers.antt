use Rattle.drain_cli.proofs.Names.{arith, ◌∙◌, as_five, Encode, AreCorrect, ForAudit, IsRight}
use Rattle.drain_cli.proofs.AnswerLemmas.{of_audited, not_of_rejected}
use Rattle.drain_verdict.specs.Given.{plain}
use Rattle.drain_cli.proofs.runs.judge.run_audit.Goals as goal

pub returns-clause-correct : goal.returns-clause-correct
returns-clause-correct g c zero i told =
    of_audited c.audit-answer.result (c.print_answer.ensures.answered (omega (arith, zero)) ∙ zero)
    (ForAudit g.R.ByteSource.bytes_left c.args.side c.args.tiles.now (plain c.args.sinks.now) c.args.products.now IsRight) c.audit-answer.ensures.right i told

pub returns-clause-not_correct : goal.returns-clause-not_correct
returns-clause-not_correct g c one i told =
    not_of_rejected c.audit-answer.result (c.print_answer.ensures.answered (omega (arith, one)) ∙ one)
    (Encode g.R.ByteSource.bytes_left c.args.side c.args.tiles.now (plain c.args.sinks.now) (as_five c.args.products.now)) AreCorrect
    c.audit-answer.ensures.exactly i told
