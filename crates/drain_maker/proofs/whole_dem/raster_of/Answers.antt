use Rattle.drain_maker.proofs.Names.{◌≡◌, ◌<◌, ◌∙◌, ℕ, ap, rules, subst, slice_index, IfOk-weaker, Single, Fields, IsPixelSize, default_number, raster_of, FitsHeader, no_height}
use Rattle.drain_grid.specs.declared.product.Product.TheVariants.{Con}
use Rattle.drain_maker.proofs.DemReading.{fits_header}
use Rattle.drain_maker.proofs.whole_dem.raster_of.Goals as goal

pub returns-clause-fits : goal.returns-clause-fits
returns-clause-fits c =
    let size : ∥ IsPixelSize c.args.header.now.bits ∥₁ = subst (λ (h : Fields). ∥ IsPixelSize h.bits ∥₁) c.header.view_is c.header.invariant.bits_ok in
    let wide : c.args.header.now.kind ≡ Single → c.args.header.now.bits ≡ 32 = subst (λ (h : Fields). h.kind ≡ Single → h.bits ≡ 32) c.header.view_is c.header.invariant.float_bits in
    let low : (k : ℕ) → slice_index c.args.bytes.now k < 256 = search rules in
    IfOk-weaker c.read_raster.result _ (FitsHeader c.args.header.now)
    (λ raster is. fits_header c.numbers_are_pixels.ensures c.args.header.now (no_height c.args.header.now.kind) c.args.bytes.now raster size wide low
    (is ∙ ap (λ (h : Fields). raster_of h (default_number h.kind Con) c.args.bytes.now) c.marked_header-marked.ensures))
    c.read_raster.ensures.raster
