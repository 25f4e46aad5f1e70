use Rattle.drain_maker.proofs.Names.{◌≡◌, ◌∙◌, ℕ, sym, subst, rules, SFits, to_z, of_z, to_z-of_z, IfOk-weaker, Distances, IsPixel, IsSurfaceOf, ShowsVoids, spaced_dem_grid}
use mir.Syntax.{w64}
use Rattle.drain_maker.proofs.DemLemmas.{both_ok, cells_of, heights_are, pixels_are, shows_voids, void_is_pixel}
use Rattle.drain_maker.proofs.dem.surface_of.Goals as goal

pub returns-clause-surface : goal.returns-clause-surface
returns-clause-surface t c =
    rw c.as_raster-raster.ensures at (let p = c.as_raster-raster.result.now in
    let sinks = c.args.sinks.now in
    let items = c.in_ok-heights.heights.items in
    IfOk-weaker c.filled_surface.result _ (λ surface. (spacing : ℕ → Distances) → IsSurfaceOf (spaced_dem_grid spacing p sinks) surface)
    (λ surface is spacing.
    is (spaced_dem_grid spacing p sinks) (cells_of spacing p sinks c.in_ok-ground.ground c.in_ok-ground.ensures) (heights_are spacing p sinks items c.in_ok-heights.ensures.heights)
    (pixels_are spacing p sinks items c.in_ok-heights.ensures.heights))
    c.filled_surface.ensures.surface)

pub returns-clause-voids : goal.returns-clause-voids
returns-clause-voids t c =
    rw c.as_raster-raster.ensures at (let p = c.as_raster-raster.result.now in
    let sinks = c.args.sinks.now in
    let items = c.in_ok-heights.heights.items in
    let fits : SFits w64 c.nodata.result = search rules in
    let void_fits : SFits w64 c.void_number-void.result = search rules in
    let nodata : to_z w64 (of_z w64 c.nodata.result) ≡ p.nodata = to_z-of_z w64 c.nodata.result fits ∙ c.nodata.ensures.number in
    both_ok c.filled_surface.result _ _
    (λ surface. (spacing : ℕ → Distances) → ShowsVoids (spaced_dem_grid spacing p sinks) surface p.nodata)
    (λ surface is voids spacing.
    (let cells = cells_of spacing p sinks c.in_ok-ground.ground c.in_ok-ground.ensures in
    shows_voids spacing p sinks surface _
    (is (spaced_dem_grid spacing p sinks) cells (heights_are spacing p sinks items c.in_ok-heights.ensures.heights) (pixels_are spacing p sinks items c.in_ok-heights.ensures.heights))
    (voids (spaced_dem_grid spacing p sinks) cells)
    (λ x inside none. to_z-of_z w64 c.void_number-void.result void_fits
    ∙ (c.void_number-void.ensures.same (subst IsPixel (sym nodata) (void_is_pixel spacing p sinks items c.in_ok-heights.ensures.heights x inside none)) ∙ nodata))))
    c.filled_surface.ensures.surface c.filled_surface.ensures.voids)
