use Rattle.drain_merge.proofs.Names.{◌≡◌, take, places_of}
use Rattle.drain_merge.proofs.totals.places.Given as goal

abbrev pub invariant-loop-window : goal.invariant-loop-window
invariant-loop-window l = l.places.items ≡ places_of (take l.window-index l.windows)
