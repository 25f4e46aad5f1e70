use Rattle.drain_cli.proofs.Names.{answer_status, status_stood}
use Rattle.drain_cli.proofs.answer.print_answer.Goals as goal

pub returns-clause-answered : goal.returns-clause-answered
returns-clause-answered g c below =
    status_stood c.print_line.ensures.done (answer_status c.args.answer.now) c.answer_status.result c.print_line.result c.answer_status.ensures c.print_line.ensures.code_is below
