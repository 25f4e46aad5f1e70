use Rattle.drain_kernel.proofs.Names.{slice_index, ◌∙◌, ap, at_most, ThreeLanes}
use Rattle.drain_kernel.proofs.CappedSums.{ranked_by_capped}
use Rattle.drain_kernel.proofs.ranked.CappedRanksTestColumnTest.passes.Goals as goal

pub returns-clause-passed : goal.returns-clause-passed
returns-clause-passed g c = λ h.
    let bias = (c.args.self.now.0).now.here.bias in
    let slopes = (c.args.self.now.0).now.slopes in
    ranked_by_capped bias slopes _ _ _ _ _ _ _ _ _ _ (c.con.ensures ∙ ap (λ (r : ThreeLanes). slice_index r.here.con c.args.k) c.rows.view_is)
    (c.code.ensures ∙ ap (λ (r : ThreeLanes). slice_index r.here.dir c.args.k) c.rows.view_is) c.cons_round.ensures
    (c.capped_rank.ensures ∙ ap (λ (r : ThreeLanes). at_most (slice_index r.here.rnk c.args.k)) c.rows.view_is) c.capped_ranks_round.ensures
    (c.falls_or_is_ranked.ensures bias slopes h)
