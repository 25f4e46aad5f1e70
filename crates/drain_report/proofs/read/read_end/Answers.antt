use Rattle.std.proofs.Common.{inl}
use Rattle.drain_report.proofs.read.read_end.Goals as goal

pub returns-in_default-clause-fault : goal.returns-in_default-clause-fault
returns-in_default-clause-fault c = λ feeds at. inl (c.unread.ensures feeds at)
