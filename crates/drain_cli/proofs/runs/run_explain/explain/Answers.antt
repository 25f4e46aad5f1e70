use Rattle.std.proofs.Common.{Err, inr, refl}
use Rattle.drain_answer.specs.declared.outcome.Status.TheVariants.{Failed}
use Rattle.drain_cli.proofs.runs.run_explain.explain.Goals as goal

pub returns-in-Err : goal.returns-in-Err
returns-in-Err g c =
    let printed = c.print_page_failure.ensures in (
      Err c.in-Err.fault,
      c.in-Err.ensures,
      record {
        text = printed.0;
        status = Failed;
        explained = inr (c.from.result, inr (c.in-Err.fault, refl, c.from.ensures), printed.1, refl);
        printed = printed.2;
      },
    )
