use Rattle.drain_c.proofs.Names.{take, bytes_left-value, AreTilesOf}
use Rattle.drain_c.proofs.sources.tile_inputs.Given as goal

-- the tiles before this one are taken
abbrev pub invariant-loop-tile : goal.invariant-loop-tile
invariant-loop-tile l = AreTilesOf bytes_left-value.it (take l.tile-index l.fn.given) l.tiles.items
