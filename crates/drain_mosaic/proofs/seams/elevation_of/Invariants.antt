use Rattle.drain_mosaic.proofs.Names.{◌≡◌, ◌*◌, length, map, extent_of, tiles_of, AreJoinedRows}
use Rattle.drain_mosaic.proofs.seams.elevation_of.Given as goal

abbrev pub invariant-loop-row : goal.invariant-loop-row
invariant-loop-row l =
    (length l.samples.items ≡ (extent_of l.layout).rows * (extent_of l.layout).cols)
    × AreJoinedRows l.layout (tiles_of l.layout.corners (map (λ tile. tile.items) l.tiles)) l.row l.samples.items
