use Rattle.drain_kernel.proofs.Names.{and_parts, leb-true, Decides-eqb, eight}
use Rattle.drain_kernel.proofs.NearWays.{lies_with, way_with}
use Rattle.drain_kernel.proofs.near.keeps_near.Goals as goal

pub returns-clause-surface : goal.returns-clause-surface
returns-clause-surface c = λ h.
    let parts = and_parts _ _ (and_parts _ _ h).0 in
    lies_with c.args.height c.args.con _ _ _ _ _ _ (eight (λ lane. lane) c.args.cons) c.least_straight.ensures c.min-straight.ensures c.least_across.ensures c.min-across.ensures
    c.min.ensures c.max.ensures ((Decides-eqb _ _).0 parts.0)

pub returns-clause-direction : goal.returns-clause-direction
returns-clause-direction c = λ h.
    let all = and_parts _ _ h in
    let parts = and_parts _ _ all.0 in
    way_with c.args.con c.args.code _ _ _ _ _ _ _ _ (eight (λ lane. lane) c.args.cons) _ _ c.least_straight.ensures c.min-straight.ensures c.least_across.ensures
    c.min-across.ensures c.square-along_square.ensures c.square-aslant_square.ensures c.saturating_add-twice.ensures c.max-2.ensures (leb-true _ _ parts.1)
    c.leads_straight.ensures c.leads_across.ensures all.1
