use Rattle.drain_mosaic.proofs.Names.{◌*◌, ◌+◌, length, map, sym, ap, ◌∙◌, subst, arith, Heights, elevation_at, extent_of, tiles_of, IsElevation}
use Rattle.drain_mosaic.proofs.Rows.{row_inside, rows_step, length_cut, tiles_agree, is_elevation, first_seam}
use Rattle.drain_mosaic.proofs.seams.elevation_of.Goals as goal

pub slice_bounds-join_row-end : goal.slice_bounds-join_row-end
slice_bounds-join_row-end c =
    let t = c.args.layout.now in
    let wide = c.cols-cols.ensures ∙ ap (λ e. e.cols) c.shape-shape.ensures in
    let tall = c.rows-row-end.ensures ∙ ap (λ e. e.rows) c.shape-shape.ensures in
    row_inside (extent_of t).rows (extent_of t).cols c.loop-row.row c.cols-cols.result (length c.deref_mut.result.now) (omega (arith, tall, c.loop-row-test.true)) wide (ap length c.deref_mut.ensures.value ∙ c.loop-row.invariant.0)

pub loop-row-preserved : goal.loop-row-preserved
loop-row-preserved c =
    let t = c.args.layout.now in
    let wide = c.cols-cols.ensures ∙ ap (λ e. e.cols) c.shape-shape.ensures in
    let tall = c.rows-row-end.ensures ∙ ap (λ e. e.rows) c.shape-shape.ensures in
    let v = c.loop-row.samples in
    let within = row_inside (extent_of t).rows (extent_of t).cols c.loop-row.row c.cols-cols.result (length c.deref_mut.result.now) (omega (arith, tall, c.loop-row-test.true)) wide (ap length c.deref_mut.ensures.value ∙ c.loop-row.invariant.0) in
    rows_step t (tiles_of t.corners (map (λ tile. tile.items) c.args.tiles.now)) c.loop-row.row c.cols-cols.result v.len c.deref_mut.result.now v.items c.join_row.new.out c.deref_mut.ensures.value wide (omega arith) (c.join_row.auto.out ∙ length_cut c.deref_mut.result.now (c.loop-row.row * c.cols-cols.result) (c.loop-row.row * c.cols-cols.result + c.cols-cols.result) within) c.loop-row.invariant.0
    (omega (arith, tall, c.loop-row-test.true)) c.loop-row.invariant.1 c.in_default.ensures

pub returns-in-Some-clause-seam : goal.returns-in-Some-clause-seam
returns-in-Some-clause-seam c =
    let t = c.args.layout.now in
    let tiles = tiles_of t.corners (map (λ tile. tile.items) c.args.tiles.now) in
    let tall = c.rows-row-end.ensures ∙ ap (λ e. e.rows) c.shape-shape.ensures in
    first_seam t tiles c.loop-row.row c.in-Some.col (omega (arith, tall, c.loop-row-test.true)) c.loop-row.invariant.1.agree c.in-Some.ensures.first

pub returns-clause-agree : goal.returns-clause-agree
returns-clause-agree c = λ done.
    let t = c.args.layout.now in
    let tall = c.rows-row-end.ensures ∙ ap (λ e. e.rows) c.shape-shape.ensures in
    tiles_agree t (tiles_of t.corners (map (λ tile. tile.items) c.args.tiles.now)) c.loop-row.row (omega (arith, tall, c.loop-row-test.false)) c.loop-row.invariant.1.agree

pub returns-clause-values : goal.returns-clause-values
returns-clause-values c =
    let t = c.args.layout.now in
    let tiles = tiles_of t.corners (map (λ tile. tile.items) c.args.tiles.now) in
    let tall = c.rows-row-end.ensures ∙ ap (λ e. e.rows) c.shape-shape.ensures in
    let is = is_elevation t tiles c.loop-row.row (record { extent = c.shape-shape.result; samples = c.loop-row.samples.items }) (omega (arith, tall, c.loop-row-test.false)) c.shape-shape.ensures c.loop-row.invariant.1 in
    subst (λ (h : Heights). IsElevation t tiles (elevation_at h)) (sym c.new.ensures) is
