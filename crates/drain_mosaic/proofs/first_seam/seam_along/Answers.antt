use Rattle.drain_mosaic.proofs.Names.{map, arith, ap, ◌∙◌, false≢true, tiles_of, HasTwoValues}
use Rattle.drain_mosaic.proofs.Rows.{none_so_far}
use Rattle.drain_mosaic.proofs.first_seam.seam_along.Goals as goal

pub loop-col-preserved : goal.loop-col-preserved
loop-col-preserved c =
    none_so_far (λ col. HasTwoValues c.args.layout.now (tiles_of c.args.layout.now.corners (map (λ tile. tile.items) c.args.tiles.now)) (record { row = c.args.row; col = col })) c.loop-col.col c.loop-col.invariant (λ two. false≢true (c.if-has_two_values.ensures.1 two))

pub returns : goal.returns
returns c = λ k inside.
    let wide = c.cols-cols.ensures ∙ ap (λ e. e.cols) c.shape.ensures in
    c.loop-col.invariant k (omega (arith, wide, c.loop-col-test.false, inside))
