use Rattle.drain_kernel.proofs.Names.{◌≡◌, ◌-◌, IsTrue, true, false, slice_index, sym, ◌∙◌, subst, around_in, ThreeLanes, keeps_direction_at, goes_by_fractions, is_whole, AreInOneUnit}
use Rattle.drain_kernel.proofs.UnitWays.{kept_in_unit}
use Rattle.drain_kernel.proofs.in_unit.UnitTestColumnTest.passes.Goals as goal

pub returns-clause-passed : goal.returns-clause-passed
returns-clause-passed g c = λ h.
    let test = c.args.self.now in
    let shown = kept_in_unit g.H.ElevationLane.bias test.unit
    (record { above = c.rows.inside.above; here = c.rows.inside.here; below = c.rows.inside.below; slopes = c.rows.inside.slopes.now })
    test.from test.count c.args.k test.above test.here test.below c.tell_bias.ensures c.tell.ensures
    (subst (λ (rows : ThreeLanes). is_whole rows.slopes.spacing.kind ≡ false) (sym c.rows.view_is) c.requires.1) c.requires.2 c.requires.3
    (subst (λ (rows : ThreeLanes). AreInOneUnit g.H.ElevationLane.bias test.unit rows test.from test.count test.above test.here test.below) (sym c.rows.view_is) c.requires.5)
    (subst (λ code. goes_by_fractions c.rows.inside.slopes.now (slice_index test.here (c.args.k - test.from)) code (around_in test.above test.here test.below (c.args.k - test.from)) ≡ true) c.code.ensures
    (subst (λ cons. goes_by_fractions c.rows.inside.slopes.now (slice_index test.here (c.args.k - test.from)) c.code.result cons ≡ true) c.cons_round.ensures (sym c.goes_by_fractions.ensures ∙ h))) in
    subst (λ (rows : ThreeLanes). IsTrue (keeps_direction_at rows c.args.k)) c.rows.view_is shown
