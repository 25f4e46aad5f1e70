use Rattle.drain_raster.proofs.Names.{ap, refl, Fields}
use Rattle.drain_raster.proofs.PlacingLemmas.{coordinate-so, within-so}
use Rattle.drain_raster.proofs.placing.is_at_west.Goals as goal

pub returns : goal.returns
returns c =
    let here = c.header in
    let there = c.elevations in
    within-so _ _ _ c.distance-apart.result _ _ _ _ _ _ refl
    (coordinate-so _ _ there.invariant.xdim_ok (ap (λ (f : Fields). f.place.xdim) there.view_is))
    (coordinate-so _ _ here.invariant.ulx_ok (ap (λ (f : Fields). f.place.ulx) here.view_is))
    (coordinate-so _ _ there.invariant.ulx_ok (ap (λ (f : Fields). f.place.ulx) there.view_is))
    c.distance-apart.ensures.value c.is_within_pixel.ensures
