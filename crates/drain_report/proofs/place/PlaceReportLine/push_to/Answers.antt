use Rattle.std.proofs.Common.{arith}
use Rattle.drain_report.proofs.TextLemmas.{on_ok}
use Rattle.drain_report.proofs.place.PlaceReportLine.push_to.Goals as goal

pub returns-clause-in_range : goal.returns-clause-in_range
returns-clause-in_range c =
    on_ok c.push_line.result (λ _. record { top = omega arith; left = omega arith; extent = c.size-size.ensures.in_range }) c.push_line.ensures
