use Rattle.drain_mosaic.proofs.Names.{◌≡◌, map, take, tiles_of, HasTwoValues, first_value}
use Rattle.drain_mosaic.proofs.first_seam.has_two_values.Given as goal

abbrev pub invariant-loop-i : goal.invariant-loop-i
invariant-loop-i l =
    (l.first ≡ first_value l.layout (take l.i (tiles_of l.layout.corners (map (λ tile. tile.items) l.tiles))) l.cell)
    × ¬ HasTwoValues l.layout (take l.i (tiles_of l.layout.corners (map (λ tile. tile.items) l.tiles))) l.cell
