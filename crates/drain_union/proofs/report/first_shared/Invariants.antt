use Rattle.drain_union.specs.Reports.{NoneShareBelow}
use Rattle.drain_union.proofs.report.first_shared.Given as goal

abbrev pub invariant-loop-place : goal.invariant-loop-place
invariant-loop-place l = NoneShareBelow l.outlets l.place
