use Rattle.drain_kernel.proofs.Names.{◌≡◌, ◌||◌, nat_lt, min, true, ◌∙◌, subst, eight}
use Rattle.drain_kernel.proofs.CappedSums.{falls_or_ranked}
use Rattle.drain_kernel.proofs.ranked.falls_or_is_ranked.Goals as goal

pub returns : goal.returns
returns g c = λ bias slopes h keeps.
    falls_or_ranked bias slopes (g.H.ElevationLane.number c.args.con) c.args.code c.args.capped_rank _ c.named.result (eight g.H.ElevationLane.number c.args.cons) c.args.capped_ranks
    (c.lesser-least.ensures ∙ (λ i. min (c.least_straight.ensures i) (c.least_across.ensures i))) (c.named.ensures 0)
    (subst (λ b. (b || nat_lt c.named.result c.args.capped_rank) ≡ true) c.is_below.ensures h) keeps
