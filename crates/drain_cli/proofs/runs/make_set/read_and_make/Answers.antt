use Rattle.drain_cli.proofs.Names.{◌≡◌, ◌∙◌, rules, subst, sym, SomeReadFails-iff, Whole, Extent, IsSinkFault, sinks_of, AreGivenSpacings}
use Rattle.std.proofs.Common.{Ok}
use Rattle.drain_maker.proofs.FileLemmas.{FitHeaders-set}
use Rattle.drain_verdict.specs.Given.{Given}
use Rattle.drain_cli.proofs.runs.make_set.read_and_make.Goals as goal

pub returns-in-None-clause-made : goal.returns-in-None-clause-made
returns-in-None-clause-made g c =
    let mosaic = c.in-Ok.mosaic in
    let listed = c.in-Ok-parse_sinks.listed in
    let spacings = c.spacing_to_make-spacings.result.spacings in
    let made = c.in-Ok-make_freeing.ensures in
    record {
      elevation = mosaic.elevation;
      extent_is = mosaic.same_shape;
      mosaic = c.in-Ok.ensures.mosaic;
      listed = listed;
      listed_are = subst (λ (given : Given). sinks_of given.sinks ≡ Ok listed) c.given.view_is c.in-Ok-parse_sinks.ensures.listed;
      spacings = spacings;
      spacings_are = subst (λ (e : Extent). AreGivenSpacings Whole c.args.given.now.spacing e spacings) (c.shape.ensures ∙ sym mosaic.same_shape) (c.spacing_to_make-spacings.ensures.given c.in-None.is);
      made = record { shape = made.shape; nodata = made.nodata; rules = made.rules; written = made.written; rasters = made.rasters; on_data = made.sinks };
    }

pub returns-in-None-clause-written : goal.returns-in-None-clause-written
returns-in-None-clause-written g c =
    FitHeaders-set c.in-Ok.mosaic.layout c.in-Ok-make_freeing.products (c.in-Ok-make_freeing.ensures.shape ∙ c.in-Ok.mosaic.same_shape) c.in-Ok-make_freeing.ensures.written

pub returns-in-Err-parse_sinks-clause-refused : goal.returns-in-Err-parse_sinks-clause-refused
returns-in-Err-parse_sinks-clause-refused g c =
    (subst (λ (given : Given). IsSinkFault given.sinks c.in-Err-parse_sinks.fault) c.given.view_is c.in-Err-parse_sinks.ensures.err, SomeReadFails-iff (search rules) c.in-Ok.ensures.faults)

pub returns-clause-refused : goal.returns-clause-refused
returns-clause-refused g c = (
  record {
    elevation = c.in-Ok.mosaic.elevation;
    tiling = c.in-Ok.mosaic.layout;
    mosaic = c.in-Ok.ensures.mosaic;
    listed = c.in-Ok-parse_sinks.listed;
    listed_are = subst (λ (given : Given). sinks_of given.sinks ≡ Ok c.in-Ok-parse_sinks.listed) c.given.view_is c.in-Ok-parse_sinks.ensures.listed;
    refused = c.in-Err-make_freeing.ensures.sinks;
  },
  SomeReadFails-iff (search rules) c.in-Ok.ensures.faults,
)
