use Rattle.drain_raster.proofs.Names.{◌*◌, ap, Fields}
use Rattle.drain_raster.proofs.PlacingLemmas.{coordinate-so, within-so}
use Rattle.drain_raster.proofs.placing.is_as_high.Goals as goal

pub returns : goal.returns
returns c =
    let here = c.header in
    let there = c.elevations in
    within-so _ _ _ c.distance-apart.result _ _ _ _ _ _ (ap (λ (f : Fields). 100 * f.rows) there.view_is)
    (coordinate-so _ _ there.invariant.ydim_ok (ap (λ (f : Fields). f.place.ydim) there.view_is))
    (coordinate-so _ _ here.invariant.ydim_ok (ap (λ (f : Fields). f.place.ydim) here.view_is))
    (coordinate-so _ _ there.invariant.ydim_ok (ap (λ (f : Fields). f.place.ydim) there.view_is))
    c.distance-apart.ensures.value c.is_within_pixel.ensures
