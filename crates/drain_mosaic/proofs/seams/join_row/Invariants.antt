use Rattle.drain_mosaic.proofs.Names.{map, take, tiles_of, IsJoinedRow}
use Rattle.drain_mosaic.proofs.seams.join_row.Given as goal

abbrev pub invariant-loop-i : goal.invariant-loop-i
invariant-loop-i l = IsJoinedRow l.layout (take l.i (tiles_of l.layout.corners (map (λ tile. tile.items) l.tiles))) l.row l.out l.seam
