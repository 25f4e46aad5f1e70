use Rattle.drain_maker.proofs.Names.{◌∙◌, ap, sym, IfOk-weaker, default_numbers, spacing_of, products_of, spaced_grid, AreRightProducts}
use Rattle.drain_maker.proofs.products.build.Goals as goal

pub build_on-requires : goal.build_on-requires
build_on-requires g c = record {
  flooded = (
    g.E.AsElevation.heights c.args.elevation,
    c.args.sinks.now,
    sym (c.in_ok-flood.ensures.extent ∙ ap (λ e. e.extent) c.as_elevation.ensures),
    rw c.as_elevation.ensures at (c.in_ok-flood.ensures.flooded (spacing_of c.args.spacings.now)),
  );
}

pub returns-clause-right : goal.returns-clause-right
returns-clause-right g c =
    let heights = g.E.AsElevation.heights c.args.elevation in
    IfOk-weaker c.build_on.result _ (λ products. AreRightProducts (spaced_grid (spacing_of c.args.spacings.now) heights c.args.sinks.now) default_numbers (products_of products))
    (λ products are_right. are_right heights c.args.sinks.now (sym (c.in_ok-flood.ensures.extent ∙ ap (λ e. e.extent) c.as_elevation.ensures)) (rw c.as_elevation.ensures at (c.in_ok-flood.ensures.flooded (spacing_of c.args.spacings.now)))) c.build_on.ensures.right
