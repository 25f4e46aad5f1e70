use Rattle.drain_c.proofs.Names.{IsOutcomeIn, OfCall, set_in, subst}
use Rattle.drain_c.proofs.Told.{elevation_told, exactly_right, itself, ranked_right}
use Rattle.drain_c.proofs.judge.judge.Goals as goal

pub returns-clause-answer : goal.returns-clause-answer
returns-clause-answer c = λ i of. subst (IsOutcomeIn c.args.call.now.judged (set_in i)) (itself c.answer_to.result) (c.answer_to.ensures.answer.outcome_is i of)

pub returns-clause-elevation : goal.returns-clause-elevation
returns-clause-elevation c =
    elevation_told c.agreement_gives_elevation.ensures c.args.call.now (IsOutcomeIn c.args.call.now.judged) (λ s v is. is.0) c.answer_to.result
    (subst (λ answer. OfCall c.args.call.now (λ i. IsOutcomeIn c.args.call.now.judged (set_in i) answer)) (itself c.answer_to.result) c.answer_to.ensures.answer.outcome_is)

pub returns-clause-exactly : goal.returns-clause-exactly
returns-clause-exactly c unranked =
    exactly_right c.correct_is_local.ensures c.part_is_local.ensures c.surface_is_part.ensures c.args.call.now c.answer_to.result
    (subst (λ answer. OfCall c.args.call.now (λ i. IsOutcomeIn c.args.call.now.judged (set_in i) answer)) (itself c.answer_to.result) c.answer_to.ensures.answer.outcome_is) unranked

pub returns-clause-right : goal.returns-clause-right
returns-clause-right c ranked =
    ranked_right c.correct_from_rules.ensures c.args.call.now c.answer_to.result
    (subst (λ answer. OfCall c.args.call.now (λ i. IsOutcomeIn c.args.call.now.judged (set_in i) answer)) (itself c.answer_to.result) c.answer_to.ensures.answer.outcome_is) ranked
