use Rattle.drain_verdict.proofs.Names.{rules, by_set_product, of_product, AreWithinBounds}
use Rattle.drain_verdict.proofs.input_rows.begin_rows.Goals as goal

pub returns-clause-begun : goal.returns-clause-begun
returns-clause-begun g c = record {
  elevations = c.in-Ok.ensures.begun;
  bounds = by_set_product (λ p. AreWithinBounds (of_product c.args.headers p)) (search rules) (search rules) (search rules) (search rules) (search rules);
  raster = c.begin-rasters.ensures.begun;
}
