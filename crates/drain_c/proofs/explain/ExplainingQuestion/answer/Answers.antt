use Rattle.drain_c.proofs.Names.{AreFindingsIn, AreFoundIn, GroundSet, IsOutcomeIn, IsSome, outcome_in, refl, subst, sym}
use Rattle.drain_c.proofs.Explained.{explained_kept, outcome_kept}
use Rattle.drain_c.proofs.explain.ExplainingQuestion.answer.Goals as goal

pub returns-clause-answer : goal.returns-clause-answer
returns-clause-answer g c = λ x t means tell.
    let s : GroundSet = record { terrain = g.T.GroundInput.terrain x; texts = t } in
    rw c.explained_of.ensures (subst (IsOutcomeIn c.args.judged s) (sym (outcome_kept c.explain_on.result)) (c.explain_on.ensures.answer x t means tell))

pub returns-clause-says : goal.returns-clause-says
returns-clause-says g c =
    rw c.explained_of.ensures (explained_kept c.explain_on.result _ _ (λ e found x t means tell.
    (let is = found x t means tell in record { each_rule = is.each_rule; map = is.map })) c.explain_on.ensures.explained)

pub returns-clause-holds : goal.returns-clause-holds
returns-clause-holds g c = rw c.explained_of.ensures (explained_kept c.explain_on.result _ _ (λ e drawn. drawn.1 refl) c.explain_on.ensures.drawn)
