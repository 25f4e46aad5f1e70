use Rattle.drain_c.proofs.Names.{IsOutcomeIn, outcome_in}
use Rattle.drain_c.proofs.Told.{elevation_told}
use Rattle.drain_c.proofs.explain.explain.Goals as goal

pub returns-clause-answer : goal.returns-clause-answer
returns-clause-answer c = c.answer_to.ensures.answer.outcome_is

pub returns-clause-elevation : goal.returns-clause-elevation
returns-clause-elevation c =
    elevation_told c.agreement_gives_elevation.ensures c.args.call.now (λ s answer. IsOutcomeIn c.args.call.now.judged s (outcome_in answer)) (λ s e is. is.0) c.answer_to.result c.answer_to.ensures.answer.outcome_is

pub returns-clause-explained : goal.returns-clause-explained
returns-clause-explained c = c.answer_to.ensures.answer.says
