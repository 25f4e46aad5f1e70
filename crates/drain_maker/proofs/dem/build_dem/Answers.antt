use Rattle.drain_maker.proofs.Names.{◌≡◌, ◌≤◌, ◌*◌, ◌∙◌, pos, get_or, sym, ap, arith, Extent, index_of, Pixels, spacing_of, MAX_CELLS, bytes_flows, header_extent, spaced_dem_grid}
use Rattle.drain_grid.specs.declared.set_product.SetProduct.TheVariants.{Con, Dir, Acc, Bas, Rnk}
use Rattle.drain_maker.proofs.DemLemmas.{con_spelled, of_ground}
use Rattle.drain_maker.proofs.ShownRasters.{ended, heights, right}
use Rattle.drain_maker.proofs.dem.build_dem.Goals as goal

pub count_and_label-requires-clause-ends : goal.count_and_label-requires-clause-ends
count_and_label-requires-clause-ends g c =
    let p = g.D.AsRaster.raster c.args.dem in
    let shape : c.shape-shape.result ≡ p.extent = c.shape-shape.ensures ∙ ap (λ (r : Pixels). r.extent) c.as_raster.ensures in
    let few : c.shape-shape.result.rows * c.shape-shape.result.cols ≤ MAX_CELLS =
    (let product = c.cells-cells.ensures.product in let most = c.cells-cells.ensures.few in omega (arith, product, most)) in
    ended (spaced_dem_grid (spacing_of c.args.spacings.now) p c.args.sinks.now) p.nodata c.shape-shape.result shape _ c.in_ok-routes.routes.rnk.items
    c.in_ok-routes.routes.dir.items (bytes_flows c.deref.result.now) few c.in_ok-routes.ensures.routes (ap bytes_flows c.deref.ensures.value)

pub returns-clause-right : goal.returns-clause-right
returns-clause-right g c =
    let p = g.D.AsRaster.raster c.args.dem in
    let con = c.in_ok-routes.routes.con in
    let shape : c.shape-shape.result ≡ p.extent = c.shape-shape.ensures ∙ ap (λ (r : Pixels). r.extent) c.as_raster.ensures in
    let few : c.shape-shape.result.rows * c.shape-shape.result.cols ≤ MAX_CELLS =
    (let product = c.cells-cells.ensures.product in let most = c.cells-cells.ensures.few in omega (arith, product, most)) in
    right (spaced_dem_grid (spacing_of c.args.spacings.now) p c.args.sinks.now) p.nodata c.shape-shape.result shape _ c.in_ok-routes.routes.rnk.items
    c.in_ok-routes.routes.dir.items c.in_ok-both.both.counts.items c.in_ok-both.both.labels.items (bytes_flows c.deref.result.now) con
    c.raster_of_codes.result c.raster_of_counts.result c.raster_of_counts-2.result c.raster_of_counts-3.result few c.in_ok-routes.ensures.routes
    (ap bytes_flows c.deref.ensures.value) c.in_ok-both.ensures.right
    (ap (λ (e : Extent). heights e con.nodata con.numbers) (c.in_ok-routes.ensures.extent ∙ sym shape) ∙ ap (λ z. heights c.shape-shape.result z con.numbers) c.in_ok-routes.ensures.nodata)
    c.raster_of_codes.ensures.is c.raster_of_counts.ensures.is c.raster_of_counts-2.ensures.is c.raster_of_counts-3.ensures.is

pub returns-clause-ground : goal.returns-clause-ground
returns-clause-ground g c = λ x here.
    (let p = g.D.AsRaster.raster c.args.dem in
    let routes = c.in_ok-routes.ensures.routes in
    let up = of_ground (spaced_dem_grid (spacing_of c.args.spacings.now) p c.args.sinks.now) routes.flood routes.surface x here in (
      up.0,
      up.1,
      ap (λ (e : Extent). get_or c.in_ok-routes.routes.con.numbers (index_of e x) (pos 0)) c.in_ok-routes.ensures.extent
          ∙ (ap (λ xs. get_or xs (index_of p.extent x) (pos 0)) routes.con_is ∙ up.2),
    ))

-- con has numbers of the raster alone, and the others those of their kind
pub returns-clause-written : goal.returns-clause-written
returns-clause-written g c = λ h fits.
    (let p = g.D.AsRaster.raster c.args.dem in
    let routes = c.in_ok-routes.ensures.routes in
    let extent = c.in_ok-routes.ensures.extent in
    let shape : c.shape-shape.result ≡ header_extent h = c.shape-shape.ensures ∙ ap (λ (r : Pixels). r.extent) c.as_raster.ensures ∙ fits.extent in
    elim [
      | Con ↦ λ held. record {
        extent = extent ∙ fits.extent;
        spelled = con_spelled (spacing_of c.args.spacings.now) p c.args.sinks.now c.in_ok-routes.routes.con h.kind h.signed h.bits extent (returns-clause-ground g c)
            (λ x inside none.
            ap (λ (e : Extent). get_or c.in_ok-routes.routes.con.numbers (index_of e x) (pos 0)) extent
            ∙ (ap (λ xs. get_or xs (index_of p.extent x) (pos 0)) routes.con_is ∙ routes.voids.voids x inside none))
            fits.spelled;
      }
      | Dir ↦ λ held. record { extent = ap (λ (r : Pixels). r.extent) c.raster_of_codes.ensures.is ∙ shape; spelled = c.raster_of_codes.ensures.spelled }
      | Acc ↦ λ held. record { extent = ap (λ (r : Pixels). r.extent) c.raster_of_counts.ensures.is ∙ shape; spelled = c.raster_of_counts.ensures.spelled }
      | Bas ↦ λ held. record { extent = ap (λ (r : Pixels). r.extent) c.raster_of_counts-2.ensures.is ∙ shape; spelled = c.raster_of_counts-2.ensures.spelled }
      | Rnk ↦ λ held. record { extent = ap (λ (r : Pixels). r.extent) c.raster_of_counts-3.ensures.is ∙ shape; spelled = c.raster_of_counts-3.ensures.spelled }
    ])

pub returns-clause-rasters : goal.returns-clause-rasters
returns-clause-rasters g c = elim [
  | Con ↦ c.in_ok-routes.ensures.pixels
  | Dir ↦ c.raster_of_codes.ensures.pixels
  | Acc ↦ c.raster_of_counts.ensures.pixels
  | Bas ↦ c.raster_of_counts-2.ensures.pixels
  | Rnk ↦ c.raster_of_counts-3.ensures.pixels
]
