use Rattle.std.proofs.Common.{refl}
use Rattle.drain_report.proofs.FactLemmas.{narrow_long}
use Rattle.drain_report.proofs.numbers.read_count.Goals as goal

pub returns-clause-back : goal.returns-clause-back
returns-clause-back c = λ n rest small is. c.read_fact.ensures.back n rest small refl (record { long = (narrow_long n small, tt); is = is })
