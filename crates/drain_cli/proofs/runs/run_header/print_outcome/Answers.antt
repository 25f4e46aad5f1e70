use Rattle.std.specs.Prelude.{Err}
use Rattle.drain_cli.proofs.RoundTrips.{told_answer, told_failure}
use Rattle.drain_cli.proofs.runs.run_header.print_outcome.Goals as goal

pub returns-in-Ok : goal.returns-in-Ok
returns-in-Ok g c =
    let told = c.print_answer.ensures in (
      told.0,
      told_answer c.args.outcome told.0 c.in-Ok.answer c.in-Ok.is told.1,
      told.2,
    )

pub returns-in-Err : goal.returns-in-Err
returns-in-Err g c = (Err c.in-Err.fault, told_failure c.args.outcome c.in-Err.fault c.in-Err.is, c.print_failure.ensures)
