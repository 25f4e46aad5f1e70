use Rattle.drain_report.proofs.head.first_lines.Goals as goal

pub returns-in-None-clause-place : goal.returns-in-None-clause-place
returns-in-None-clause-place c = λ version. c.in-None.ensures.back version.0 version.1
