use Rattle.drain_mosaic.proofs.Names.{◌+ℤ◌, pos, w16, nat_abs, ◌≤◌, arith, ◌∙◌, ap, sym, subst, to_z-of_z}
use Rattle.drain_mosaic.proofs.Bounds.{fits, past_edge, count, near, near_past}
use Rattle.drain_mosaic.proofs.layout.bounds_of.Goals as goal

pub returns : goal.returns
returns c = λ side.
    let lats = c.lats-south.ensures in
    let lons = c.lons-west.ensures in
    record {
      west_is = to_z-of_z w16 c.lons-west.result.0 (fits 180 c.lons-west.result.0 (omega arith) lons.low) ∙ lons.least;
      north_is = past_edge 90 c.lats-south.result.1 (omega arith) lats.high ∙ ap (λ x. x +ℤ pos 1) lats.greatest;
      down_is = c.from.ensures ∙ c.unsigned_abs.ensures.value ∙ count 90 c.lats-south.result.0 c.lats-south.result.1 _ _ (omega arith) lats.low lats.high lats.least lats.greatest;
      across_is = c.from-2.ensures ∙ c.unsigned_abs-2.ensures.value ∙ count 180 c.lons-west.result.0 c.lons-west.result.1 _ _ (omega arith) lons.low lons.high lons.least lons.greatest;
      west_near = subst (λ x. nat_abs x ≤ 180) (sym (to_z-of_z w16 c.lons-west.result.0 (fits 180 c.lons-west.result.0 (omega arith) lons.low))) (near 180 c.lons-west.result.0 lons.low);
      north_near = subst (λ x. nat_abs x ≤ 90) (sym (past_edge 90 c.lats-south.result.1 (omega arith) lats.high)) (near_past 90 c.lats-south.result.1 lats.high);
    }
