use Rattle.drain_kernel.proofs.Names.{◌≡◌, IsTrue, true, false, slice_index, sym, ◌∙◌, subst, ThreeLanes, cons_round, keeps_direction_at, goes_by_fractions, is_whole, AreInOneBlock}
use Rattle.drain_kernel.proofs.Blocks.{kept_in_block}
use Rattle.drain_kernel.proofs.in_unit.PlacesTestColumnTest.passes.Goals as goal

pub returns-clause-passed : goal.returns-clause-passed
returns-clause-passed g c = λ h.
    let test = c.args.self.now in
    let view : ThreeLanes = record { above = c.rows.inside.above; here = c.rows.inside.here; below = c.rows.inside.below; slopes = c.rows.inside.slopes.now } in
    let slopes = c.rows.inside.slopes.now in
    let shown = kept_in_block g.H.ElevationLane.bias test.block view test.from test.end c.args.k c.tell_bias.ensures c.tell.ensures
    (subst (λ (rows : ThreeLanes). is_whole rows.slopes.spacing.kind ≡ false) (sym c.rows.view_is) c.requires.1) c.requires.2 c.requires.3
    (subst (λ (rows : ThreeLanes). AreInOneBlock g.H.ElevationLane.bias test.block rows test.from test.end) (sym c.rows.view_is) c.requires.4)
    (subst (λ con. goes_by_fractions slopes con (slice_index view.here.dir c.args.k) (cons_round view c.args.k) ≡ true) c.con.ensures
    (subst (λ code. goes_by_fractions slopes (g.H.ElevationLane.number c.con.result) code (cons_round view c.args.k) ≡ true) c.code.ensures
    (subst (λ (rows : ThreeLanes). goes_by_fractions slopes (g.H.ElevationLane.number c.con.result) c.code.result (cons_round rows c.args.k) ≡ true) (sym c.rows.view_is)
    (subst (λ cons. goes_by_fractions slopes (g.H.ElevationLane.number c.con.result) c.code.result cons ≡ true) c.cons_round.ensures (sym c.goes_by_fractions.ensures ∙ h))))) in
    subst (λ (rows : ThreeLanes). IsTrue (keeps_direction_at rows c.args.k)) c.rows.view_is shown
