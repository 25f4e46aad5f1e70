use Rattle.drain_grid.specs.OffData.{IsLeastOff}
use Rattle.drain_grid.proofs.off_data.first_off_data.Given as goal

-- of the lines that were passed, the least that lists a cell without data is known
abbrev pub invariant-loop-i : goal.invariant-loop-i
invariant-loop-i g l = IsLeastOff (g.D.SinkData.has l.cells) l.sinks l.i l.least
