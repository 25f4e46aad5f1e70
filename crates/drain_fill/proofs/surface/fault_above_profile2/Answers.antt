use Rattle.drain_fill.proofs.Names.{sym, ◌∙◌, arith, false≢true}
use Rattle.drain_fill.proofs.SurfaceFaults.{all_above, all_before_least}
use Rattle.drain_fill.proofs.surface.fault_above_profile2.Goals as goal

pub returns-then-is_least : goal.returns-then-is_least
returns-then-is_least c = record {
  least = all_above c.args.patch.now (c.is_unraised_where_open.ensures.0 c.if-not-is_unraised_where_open.false) (c.is_least.ensures.0 c.if-is_least.true);
}

pub returns-else-is_least : goal.returns-else-is_least
returns-else-is_least c = record {
  least = (
    (omega arith, omega arith),
    λ holds. false≢true (sym c.if-is_least.false ∙ c.is_least.ensures.1 holds),
    all_before_least c.args.patch.now (c.is_unraised_where_open.ensures.0 c.if-not-is_unraised_where_open.false),
  );
}
