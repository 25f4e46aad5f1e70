use Rattle.std.proofs.Common.{◌∙◌}
use Rattle.drain_cli.proofs.ReadReports.{failed_code}
use Rattle.drain_cli.proofs.runs.report_input.read_or_print.Goals as goal

pub returns-in-Err-clause-back : goal.returns-in-Err-clause-back
returns-in-Err-clause-back g c = λ w fits is.
    failed_code c.print_line.ensures.done c.status_of.result c.print_line.result (c.status_of.ensures ∙ c.in-Err.ensures.back w fits is) c.print_line.ensures.code_is
