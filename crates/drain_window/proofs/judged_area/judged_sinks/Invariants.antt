use Rattle.drain_window.specs.JudgedAreas.{AreLinesInside}
use Rattle.drain_window.proofs.judged_area.judged_sinks.Given as goal

abbrev pub invariant-loop-i : goal.invariant-loop-i
invariant-loop-i l = AreLinesInside l.fn.origin l.fn.place l.fn.sinks l.i l.cells.items
