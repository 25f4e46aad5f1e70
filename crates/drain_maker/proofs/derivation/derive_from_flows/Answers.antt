use Rattle.drain_maker.proofs.Names.{ap, Pixels}
use Rattle.drain_maker.proofs.DerivedRasters.{AreDerived-rasters}
use Rattle.drain_maker.proofs.derivation.derive_from_flows.Goals as goal

pub label_ended-requires-clause-ends : goal.label_ended-requires-clause-ends
label_ended-requires-clause-ends c = λ g ps are. (c.in_ok-steps.ensures.steps g ps are).ends

pub accumulate-requires-clause-ends : goal.accumulate-requires-clause-ends
accumulate-requires-clause-ends c = λ g ps are. (c.in_ok-steps.ensures.steps g ps are).ends

pub returns-clause-derived : goal.returns-clause-derived
returns-clause-derived c = λ g ps are.
    AreDerived-rasters g ps c.args.shape c.in-Ok-accumulate.counts.items c.in-Ok.labels.items c.in_ok-steps.steps.items c.raster_of_counts.result c.raster_of_counts-2.result
    c.raster_of_counts-3.result (c.in-Ok-accumulate.ensures.counts g ps are) (c.in-Ok.ensures.labels g ps are) (c.in_ok-steps.ensures.steps g ps are)
    c.raster_of_counts.ensures.is c.raster_of_counts-2.ensures.is c.raster_of_counts-3.ensures.is

pub returns-clause-counts : goal.returns-clause-counts
returns-clause-counts c = record {
  acc = record { extent = ap (λ (p : Pixels). p.extent) c.raster_of_counts.ensures.is; pixels = c.raster_of_counts.ensures.pixels; spelled = c.raster_of_counts.ensures.spelled };
  bas = record { extent = ap (λ (p : Pixels). p.extent) c.raster_of_counts-2.ensures.is; pixels = c.raster_of_counts-2.ensures.pixels; spelled = c.raster_of_counts-2.ensures.spelled };
  rnk = record { extent = ap (λ (p : Pixels). p.extent) c.raster_of_counts-3.ensures.is; pixels = c.raster_of_counts-3.ensures.pixels; spelled = c.raster_of_counts-3.ensures.spelled };
}
