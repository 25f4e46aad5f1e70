use Rattle.drain_mosaic.proofs.Names.{map, tiles_of, AgreeAbove}
use Rattle.drain_mosaic.proofs.first_seam.first_seam.Given as goal

abbrev pub invariant-loop-row : goal.invariant-loop-row
invariant-loop-row l = AgreeAbove l.layout (tiles_of l.layout.corners (map (λ tile. tile.items) l.tiles)) l.row
