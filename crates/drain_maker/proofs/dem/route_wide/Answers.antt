use Rattle.drain_maker.proofs.Names.{refl, sym, ap, subst, Pixels, spacing_of, spaced_dem_grid, AreRoutes}
use Rattle.drain_maker.proofs.dem.route_wide.Goals as goal

pub returns-clause-routes : goal.returns-clause-routes
returns-clause-routes t c =
    let spacing = spacing_of c.args.spacings.now in
    let p = t.D.AsRaster.raster c.args.dem in
    let g = spaced_dem_grid spacing p c.args.sinks.now in
    let same = sym c.in_ok-surface.ensures.extent in
    let surface = c.in_ok-surface.ensures.surface spacing in
    let routes = c.in_ok-routes.ensures.routes g p.nodata same surface (c.in_ok-surface.ensures.voids spacing) (c.in_ok-codes.ensures.codes g same (λ row less. refl) surface) in
    subst (λ xs. AreRoutes g p.nodata xs c.in_ok-routes.routes.rnk.items c.in_ok-routes.routes.dir.items) (ap (λ (r : Pixels). r.numbers) (sym c.raster_of_numbers.ensures.is)) routes
