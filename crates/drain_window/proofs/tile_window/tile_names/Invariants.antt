use Rattle.std.proofs.Common.{◌≡◌, take}
use Rattle.drain_window.proofs.tile_window.tile_names.Given as goal

abbrev pub invariant-loop-i : goal.invariant-loop-i
invariant-loop-i l = l.tiles.items ≡ take l.i l.fn.layout.corners
