use Rattle.drain_maker.proofs.Names.{◌≤◌, ◌*◌, ◌∙◌, refl, sym, ap, arith, spacing_of, spaced_grid, NO_HEIGHT, MAX_CELLS, bytes_flows}
use Rattle.drain_maker.proofs.ShownRasters.{ended, right}
use Rattle.drain_maker.proofs.products.build_on.Goals as goal

pub count_and_label-requires-clause-ends : goal.count_and_label-requires-clause-ends
count_and_label-requires-clause-ends g c =
    let few : c.shape-shape.result.rows * c.shape-shape.result.cols ≤ MAX_CELLS =
    (let product = c.cells-cells.ensures.product in let most = c.cells-cells.ensures.few in omega (arith, product, most)) in
    let known = c.requires.flooded in
    ended (spaced_grid (spacing_of c.args.spacings.now) known.0 known.1) NO_HEIGHT c.shape-shape.result (c.shape-shape.ensures ∙ sym known.2) c.in_ok-routes.routes.con.items c.in_ok-routes.routes.rnk.items
    c.in_ok-routes.routes.dir.items (bytes_flows c.deref.result.now) few (c.in_ok-routes.ensures.routes _ known.2 (λ row less. refl) known.3) (ap bytes_flows c.deref.ensures.value)

pub returns-clause-right : goal.returns-clause-right
returns-clause-right g c = λ heights sinks same flooded.
    (let few : c.shape-shape.result.rows * c.shape-shape.result.cols ≤ MAX_CELLS =
    (let product = c.cells-cells.ensures.product in let most = c.cells-cells.ensures.few in omega (arith, product, most)) in
    right (spaced_grid (spacing_of c.args.spacings.now) heights sinks) NO_HEIGHT c.shape-shape.result (c.shape-shape.ensures ∙ sym same) c.in_ok-routes.routes.con.items c.in_ok-routes.routes.rnk.items
    c.in_ok-routes.routes.dir.items c.in_ok-both.both.counts.items c.in_ok-both.both.labels.items (bytes_flows c.deref.result.now) c.raster_of_heights.result
    c.raster_of_codes.result c.raster_of_counts.result c.raster_of_counts-2.result c.raster_of_counts-3.result few (c.in_ok-routes.ensures.routes _ same (λ row less. refl) flooded)
    (ap bytes_flows c.deref.ensures.value) c.in_ok-both.ensures.right c.raster_of_heights.ensures.is
    c.raster_of_codes.ensures.is c.raster_of_counts.ensures.is c.raster_of_counts-2.ensures.is c.raster_of_counts-3.ensures.is)
