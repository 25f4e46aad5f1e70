use Rattle.drain_report.proofs.Names.{ap, refl, Rejected}
use Rattle.drain_report.proofs.FactLemmas.{fault_long}
use Rattle.drain_report.proofs.verdict.read_fault.Goals as goal

pub returns-in-Err-clause-back : goal.returns-in-Err-clause-back
returns-in-Err-clause-back c = λ f rest fit is. c.in-Err.ensures.back f rest fit refl (record { long = fault_long f fit; is = is })

pub returns-clause-back : goal.returns-clause-back
returns-clause-back c = λ f rest fit is.
    let read = c.in-Ok.ensures.back f rest fit refl (record { long = fault_long f fit; is = is }) in
    (ap (λ found. Rejected found) read.0, read.1)

pub returns-in-Err-clause-place : goal.returns-in-Err-clause-place
returns-in-Err-clause-place c = λ feeds few at. c.in-Err.ensures.place feeds few refl at

pub returns-clause-place : goal.returns-clause-place
returns-clause-place c = λ feeds few at. c.in-Ok.ensures.place feeds few refl at
