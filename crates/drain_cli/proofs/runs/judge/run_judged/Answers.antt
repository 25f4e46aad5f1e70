use Rattle.drain_cli.proofs.Names.{arith, ◌∙◌}
use Rattle.drain_cli.proofs.runs.judge.run_judged.Goals as goal

pub returns-clause-correct : goal.returns-clause-correct
returns-clause-correct g c zero = c.outcome_of-answer.ensures.correct (c.print_answer.ensures.answered (omega (arith, zero)) ∙ zero)

pub returns-clause-not_correct : goal.returns-clause-not_correct
returns-clause-not_correct g c one = c.outcome_of-answer.ensures.not_correct (c.print_answer.ensures.answered (omega (arith, one)) ∙ one)
