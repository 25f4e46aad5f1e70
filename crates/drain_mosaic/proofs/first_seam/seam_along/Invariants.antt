use Rattle.drain_mosaic.proofs.Names.{ℕ, ◌<◌, map, tiles_of, HasTwoValues}
use Rattle.drain_mosaic.proofs.first_seam.seam_along.Given as goal

abbrev pub invariant-loop-col : goal.invariant-loop-col
invariant-loop-col l = (k : ℕ) → k < l.col → ¬ HasTwoValues l.layout (tiles_of l.layout.corners (map (λ tile. tile.items) l.tiles)) (record { row = l.row; col = k })
