use Rattle.drain_maker.proofs.Names.{◌≡◌, ◌∙◌, sym, IfOk-weaker, Grid, spacing_of, NO_HEIGHT, IsFlooded, AreRoutes}
use Rattle.drain_flood.specs.Ways.{IsSpaced}
use Rattle.drain_maker.proofs.products.route_flooded.Goals as goal

pub returns-clause-routes : goal.returns-clause-routes
returns-clause-routes t c =
    IfOk-weaker c.route.result _ (λ routes. (g : Grid) → g.extent ≡ c.args.flood.extent → IsSpaced g (spacing_of c.args.spacings.now) → IsFlooded g c.args.flood →
    AreRoutes g NO_HEIGHT routes.con.items routes.rnk.items routes.dir.items)
    (λ routes are g same spaced flooded.
    (let there = same ∙ sym c.in_ok-surface.ensures.extent in
    let surface = c.in_ok-surface.ensures.flooded g flooded in
    are g NO_HEIGHT there surface.surface (c.flood_shows_voids.ensures g c.in_ok-surface.surface surface) (c.in_ok-codes.ensures.codes g there spaced surface)))
    c.route.ensures.routes
