use Rattle.drain_maker.proofs.Names.{◌≡◌, ◌∙◌, ap, subst, Pixels, Fields, IsKept, con_no_data, no_height}
use Rattle.drain_maker.proofs.DemReading.{raster_kept}
use Rattle.drain_maker.proofs.KeptNumbers.{fits_kept, float_pixel, void_float}
use Rattle.drain_maker.proofs.whole_dem.marked_raster.Goals as goal
use Rattle.drain_maker.proofs.whole_dem.marked_raster.Goals.{In-Ok-kept_raster}

pub kept_raster-requires : goal.kept_raster-requires
kept_raster-requires c = λ single.
    float_pixel c.in-Ok.pixels.nodata
    (void_float c.args.header.now _ c.in-Ok.pixels c.header.view_is c.header.invariant.float_nodata (ap (λ (p : Pixels). p.nodata) c.in-Ok.ensures.raster) single)

module _ (c : In-Ok-kept_raster) where
  nodata : c.in-Ok.pixels.nodata ≡ con_no_data c.args.header.now
  nodata = ap (λ (p : Pixels). p.nodata) c.in-Ok.ensures.raster

  kept : IsKept c.args.header.now.kind c.in-Ok.pixels c.in-Ok-kept_raster.raster
  kept = subst (λ (h : Fields). IsKept h.kind c.in-Ok.pixels c.in-Ok-kept_raster.raster) c.header.view_is c.in-Ok-kept_raster.ensures

pub returns-in-Ok-kept_raster-clause-raster : goal.returns-in-Ok-kept_raster-clause-raster
returns-in-Ok-kept_raster-clause-raster c =
    raster_kept c.numbers_are_pixels.ensures c.args.header.now (no_height c.args.header.now.kind) c.args.bytes.items c.in-Ok.pixels c.in-Ok-kept_raster.raster
    (rw c.deref.ensures.value at c.in-Ok.ensures.long) (rw c.deref.ensures.value at c.in-Ok.ensures.raster) (nodata c) (kept c)

pub returns-in-Ok-kept_raster-clause-fits : goal.returns-in-Ok-kept_raster-clause-fits
returns-in-Ok-kept_raster-clause-fits c =
    fits_kept c.args.header.now c.in-Ok.pixels c.in-Ok-kept_raster.raster
    (λ single.
    void_float c.args.header.now _ c.in-Ok.pixels c.header.view_is c.header.invariant.float_nodata (nodata c) (ap (λ (h : Fields). h.kind) c.header.view_is ∙ single))
    c.in-Ok.ensures.fits (kept c)

pub returns-in-Ok-kept_raster-clause-nodata : goal.returns-in-Ok-kept_raster-clause-nodata
returns-in-Ok-kept_raster-clause-nodata c = (kept c).nodata ∙ nodata c
