use Rattle.drain_maker.proofs.Names.{sym, subst, IfErr-weaker, IfOk-weaker, Extent, AreFlowsOf, GroundSet, set_grid, set_products}
use Rattle.drain_maker.proofs.DerivedRasters.{derive_refusal}
use Rattle.drain_maker.proofs.derivation.derive_in.Goals as goal

pub returns-in-Ok-clause-derived : goal.returns-in-Ok-clause-derived
returns-in-Ok-clause-derived g c =
    IfOk-weaker c.derive_flows.result _ _ (λ made derived x t means tell.
    (let s : GroundSet = record { terrain = g.T.GroundInput.terrain x; texts = t } in
    let flows = c.in-Ok.ensures.flows x t means tell in (
      flows.0,
      derived (set_grid s) (set_products s)
          (subst (λ (e : Extent). AreFlowsOf (set_grid s) (set_products s) e c.in-Ok.flows) (sym c.shape.ensures) flows.1),
    ))) c.derive_flows.ensures.derived

pub returns-in-Ok-clause-err : goal.returns-in-Ok-clause-err
returns-in-Ok-clause-err g c =
    IfErr-weaker c.derive_flows.result _ _ (λ why told x t means tell.
    (let s : GroundSet = record { terrain = g.T.GroundInput.terrain x; texts = t } in
    let flows = c.in-Ok.ensures.flows x t means tell in
    derive_refusal s why flows.0 (told (set_grid s) (set_products s)
    (subst (λ (e : Extent). AreFlowsOf (set_grid s) (set_products s) e c.in-Ok.flows) (sym c.shape.ensures) flows.1)))) c.derive_flows.ensures.err
