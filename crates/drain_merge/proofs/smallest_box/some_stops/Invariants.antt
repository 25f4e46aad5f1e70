use Rattle.drain_merge.proofs.Names.{AllWithin, StopsAt}
use Rattle.drain_merge.proofs.smallest_box.some_stops.Given as goal

-- the union ends with none of the windows before
abbrev pub invariant-loop-window : goal.invariant-loop-window
invariant-loop-window l = AllWithin (λ w. ¬ StopsAt l.side l.at w) l.windows 0 l.window-index
