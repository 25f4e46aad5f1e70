use Rattle.drain_mosaic.proofs.Names.{map, ap, ◌∙◌, arith, tiles_of}
use Rattle.drain_mosaic.proofs.Rows.{agree_more, tiles_agree, first_seam}
use Rattle.drain_mosaic.proofs.first_seam.first_seam.Goals as goal

pub returns-in-Some : goal.returns-in-Some
returns-in-Some c =
    let t = c.args.layout.now in
    let tall = c.rows-rows.ensures ∙ ap (λ e. e.rows) c.shape.ensures in
    first_seam t (tiles_of t.corners (map (λ tile. tile.items) c.args.tiles.now)) c.loop-row.row c.in-Some.col (omega (arith, tall, c.loop-row-test.true)) c.loop-row.invariant c.in-Some.ensures

pub loop-row-preserved : goal.loop-row-preserved
loop-row-preserved c =
    let t = c.args.layout.now in
    agree_more t (tiles_of t.corners (map (λ tile. tile.items) c.args.tiles.now)) c.loop-row.row c.loop-row.invariant c.in_default.ensures

pub returns : goal.returns
returns c =
    let t = c.args.layout.now in
    let tall = c.rows-rows.ensures ∙ ap (λ e. e.rows) c.shape.ensures in
    tiles_agree t (tiles_of t.corners (map (λ tile. tile.items) c.args.tiles.now)) c.loop-row.row (omega (arith, tall, c.loop-row-test.false)) c.loop-row.invariant
