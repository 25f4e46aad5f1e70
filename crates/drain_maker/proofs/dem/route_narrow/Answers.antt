use Rattle.drain_maker.proofs.Names.{◌≡◌, ◌∙◌, refl, sym, ap, subst, Pixels, spacing_of, spaced_grid, spaced_dem_grid, AreRoutes}
use Rattle.drain_maker.proofs.NarrowDems.{flooded_there, narrow_routes, narrowed_cells}
use Rattle.drain_maker.proofs.dem.route_narrow.Goals as goal

pub returns-clause-routes : goal.returns-clause-routes
returns-clause-routes t c = λ p narrowed nodata.
    (let spacing = spacing_of c.args.spacings.now in
    let sinks = c.args.sinks.now in
    let g = spaced_dem_grid spacing p sinks in
    let elevation = c.args.elevation in
    let same : g.extent ≡ c.in_ok-flood.flood.extent = sym narrowed.extent ∙ sym c.in_ok-flood.ensures.extent in
    let flooded = flooded_there g (spaced_grid spacing elevation sinks) (narrowed_cells spacing p elevation sinks narrowed) c.in_ok-flood.flood (c.in_ok-flood.ensures.flooded spacing) in
    let routes = c.in_ok-routes.ensures.routes g same (λ row less. refl) flooded in
    subst (λ xs. AreRoutes g p.nodata xs c.in_ok-routes.routes.rnk.items c.in_ok-routes.routes.dir.items) (ap (λ (r : Pixels). r.numbers) (sym c.narrow_raster.ensures.is))
    (narrow_routes spacing p elevation sinks c.in_ok-routes.routes.con.items c.in_ok-routes.routes.rnk.items c.in_ok-routes.routes.dir.items narrowed routes))
