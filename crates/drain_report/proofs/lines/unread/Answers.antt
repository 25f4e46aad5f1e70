use Rattle.std.proofs.Common.{arith}
use Rattle.drain_report.proofs.FaultLemmas.{no_feed, some_feed}
use Rattle.drain_report.proofs.lines.unread.Goals as goal

pub returns-in-None : goal.returns-in-None
returns-in-None c = λ feeds at. let none = no_feed c.args.lines.rest.now c.in-None.ensures in (omega arith, omega (arith, at, none))

pub returns-in-Some : goal.returns-in-Some
returns-in-Some c = λ feeds at. let some = some_feed c.args.lines.rest.now c.in-Some.field-0 c.in-Some.ensures.0.high c.in-Some.ensures.1 in (omega arith, omega (arith, at, some))
