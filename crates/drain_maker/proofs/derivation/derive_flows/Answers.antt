use Rattle.drain_maker.proofs.Names.{◌∙◌, sym, subst, IfErr-weaker, IfOk-weaker, AreFlowsOf}
use Rattle.drain_maker.proofs.derivation.derive_flows.Goals as goal

pub returns-in-Ok-clause-derived : goal.returns-in-Ok-clause-derived
returns-in-Ok-clause-derived c =
    IfOk-weaker c.derive_listed.result _ _ (λ made derived g ps are. derived g ps
    (subst (AreFlowsOf g ps c.args.shape) (sym (c.deref.ensures.value ∙ c.in-Ok.ensures)) are)) c.derive_listed.ensures.derived

pub returns-in-Ok-clause-err : goal.returns-in-Ok-clause-err
returns-in-Ok-clause-err c =
    IfErr-weaker c.derive_listed.result _ _ (λ why told g ps are. told g ps
    (subst (AreFlowsOf g ps c.args.shape) (sym (c.deref.ensures.value ∙ c.in-Ok.ensures)) are)) c.derive_listed.ensures.err
