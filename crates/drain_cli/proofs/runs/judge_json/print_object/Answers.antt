use Rattle.drain_cli.proofs.Names.{status_stood, outcome_status}
use Rattle.drain_cli.proofs.runs.judge_json.print_object.Goals as goal

pub returns-in-Ok-clause-answered : goal.returns-in-Ok-clause-answered
returns-in-Ok-clause-answered g c below =
    status_stood c.print_text.ensures.done (outcome_status c.args.answer.now) c.outcome_status-status.result c.print_text.result c.outcome_status-status.ensures c.print_text.ensures.code_is below
