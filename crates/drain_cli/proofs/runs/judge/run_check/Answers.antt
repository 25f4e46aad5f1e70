use Rattle.drain_cli.proofs.Names.{arith, ◌∙◌, IsRight, ForCheck}
use Rattle.drain_cli.proofs.AnswerLemmas.{of_checked}
use Rattle.drain_verdict.specs.Given.{plain}
use Rattle.drain_cli.proofs.runs.judge.run_check.Goals as goal

pub returns-clause-correct : goal.returns-clause-correct
returns-clause-correct g c zero i told =
    of_checked c.check-answer.result (c.print_answer.ensures.answered (omega (arith, zero)) ∙ zero)
    (ForCheck g.R.ByteSource.bytes_left c.args.side c.args.tiles.now (plain c.args.sinks.now) c.args.products.now IsRight) c.check-answer.ensures.right i told
