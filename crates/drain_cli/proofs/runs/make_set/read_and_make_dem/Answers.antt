use Rattle.drain_cli.proofs.Names.{ℤ, IfSome, ◌≡◌, ◌∙◌, ap, rules, subst, IsNoSpacing, SomeReadFails-iff, HeightKind, Extent, IsSinkFault, sinks_of, spacing_of, products_of, Fields, AreGivenSpacings, made_numbers}
use Rattle.std.proofs.Common.{Ok, Option}
use Rattle.drain_cli.specs.declared.runs.made_spacing.NoSpacing.{NoSpacing}
use Rattle.drain_grid.specs.GridRules.{RulesHold}
use Rattle.drain_grid.specs.PatchRules.{check_rules}
use Rattle.drain_grid.specs.Rule.{IsAnyRule}
use Rattle.drain_maker.specs.Dems.{spaced_dem_grid}
use Rattle.drain_verdict.specs.Given.{Given}
use Rattle.drain_cli.proofs.runs.make_set.read_and_make_dem.Goals as goal

pub returns-in-None-clause-made : goal.returns-in-None-clause-made
returns-in-None-clause-made g c =
    let read = c.in-Ok.read in
    let listed = c.in-Ok-parse_sinks.listed in
    let spacings = c.spacing_to_make-spacings.result.spacings in
    let products = c.in-Ok-make_dem.products in
    let made = c.in-Ok-make_dem.ensures in
    record {
      elevation = read.raster;
      dem_is = c.in-Ok.ensures.dem;
      listed = listed;
      listed_are = subst (λ (given : Given). sinks_of given.sinks ≡ Ok listed) c.given.view_is c.in-Ok-parse_sinks.ensures.listed;
      spacings = spacings;
      spacings_are = subst (λ (e : Extent). AreGivenSpacings read.header.kind c.args.given.now.spacing e spacings) c.shape.ensures
          (subst (λ (k : HeightKind). AreGivenSpacings k c.args.given.now.spacing c.shape.result spacings) (ap (λ (h : Fields). h.kind) c.header.view_is) (c.spacing_to_make-spacings.ensures.given c.in-None.is));
      made = record {
        shape = made.shape;
        nodata = made.nodata ∙ ap made_numbers read.nodata;
        rules = subst (λ (void : ℤ). RulesHold (check_rules (made_numbers void)) IsAnyRule (spaced_dem_grid (spacing_of spacings) read.raster listed) (products_of products)) read.nodata made.rules;
        written = made.written read.header read.fits;
        rasters = made.rasters;
        on_data = made.sinks;
      };
    }

pub returns-in-None-clause-written : goal.returns-in-None-clause-written
returns-in-None-clause-written g c = c.in-Ok-make_dem.ensures.written c.in-Ok.read.header c.in-Ok.read.fits

pub returns-in-Ok-make_dem-clause-refused : goal.returns-in-Ok-make_dem-clause-refused
returns-in-Ok-make_dem-clause-refused g c = (
  record {
    elevation = c.in-Ok.read.raster;
    header = c.in-Ok.read.header;
    dem_is = c.in-Ok.ensures.dem;
    listed = c.in-Ok-parse_sinks.listed;
    listed_are = subst (λ (given : Given). sinks_of given.sinks ≡ Ok c.in-Ok-parse_sinks.listed) c.given.view_is c.in-Ok-parse_sinks.ensures.listed;
    on_data = c.in-Ok-make_dem.ensures.sinks;
    why_is =
        subst
        (λ (e : Extent). IsNoSpacing c.args.given.now.spacing e c.in-Some.why)
        c.shape.ensures
        (subst (λ (fault : Option NoSpacing). IfSome fault (IsNoSpacing c.args.given.now.spacing c.shape.result)) c.in-Some.is c.spacing_to_make-spacings.ensures.fault);
  },
  SomeReadFails-iff (search rules) c.in-Ok.ensures.faults,
)

pub returns-in-Err-parse_sinks-clause-refused : goal.returns-in-Err-parse_sinks-clause-refused
returns-in-Err-parse_sinks-clause-refused g c =
    (subst (λ (given : Given). IsSinkFault given.sinks c.in-Err-parse_sinks.fault) c.given.view_is c.in-Err-parse_sinks.ensures.err, SomeReadFails-iff (search rules) c.in-Ok.ensures.faults)

pub returns-clause-refused : goal.returns-clause-refused
returns-clause-refused g c = (
  record {
    elevation = c.in-Ok.read.raster;
    header = c.in-Ok.read.header;
    dem_is = c.in-Ok.ensures.dem;
    listed = c.in-Ok-parse_sinks.listed;
    listed_are = subst (λ (given : Given). sinks_of given.sinks ≡ Ok c.in-Ok-parse_sinks.listed) c.given.view_is c.in-Ok-parse_sinks.ensures.listed;
    refused = c.in-Err-make_dem.ensures.sinks;
  },
  SomeReadFails-iff (search rules) c.in-Ok.ensures.faults,
)
