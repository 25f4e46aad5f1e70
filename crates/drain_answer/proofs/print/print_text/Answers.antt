use Rattle.std.proofs.Common.{arith}
use Rattle.drain_answer.proofs.PrintLemmas.{PrintsText-write_all}
use Rattle.drain_answer.proofs.print.print_text.Goals as goal

pub returns-in-Ok : goal.returns-in-Ok
returns-in-Ok g c =
    PrintsText-write_all g.W.ByteSink _ _ _ _ _ c.new.result _ c.write_all.result (omega (arith, c.new.ensures)) c.write_all.ensures.bytes
    (rw c.in-Ok.is c.code.ensures) c.write_all.ensures.faults

pub returns-in-Err : goal.returns-in-Err
returns-in-Err g c =
    PrintsText-write_all g.W.ByteSink _ _ _ _ _ c.new.result _ c.write_all.result (omega (arith, c.new.ensures)) c.write_all.ensures.bytes
    (rw c.in-Err.is c.code-in-Err.ensures) c.write_all.ensures.faults
