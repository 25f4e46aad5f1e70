use Rattle.drain_verdict.proofs.Names.{err_from_is_err_and, GroundSet, set_grid, set_numbers, set_products}
use Rattle.drain_verdict.proofs.OutcomeLemmas.{exactly, outcome_is}
use Rattle.drain_verdict.proofs.part_auditor.audit_part_on.Goals as goal

pub returns-in_err-judgement-clause-answer : goal.returns-in_err-judgement-clause-answer
returns-in_err-judgement-clause-answer g c = λ x t means tell.
    let told = err_from_is_err_and c.from_residual.result c.from_residual.ensures.1 in
    rw (told.1, told.2) (c.in_err-judgement.ensures.answer x t means tell)

pub returns-in_err-judgement-clause-uses : goal.returns-in_err-judgement-clause-uses
returns-in_err-judgement-clause-uses g c =
    let told = err_from_is_err_and c.from_residual.result c.from_residual.ensures.1 in
    rw (told.1, told.2) c.in_err-judgement.ensures.uses

pub returns-clause-answer : goal.returns-clause-answer
returns-clause-answer g c = λ x t means tell.
    let s : GroundSet = record { terrain = g.T.GroundInput.terrain x; texts = t } in
    let j = c.in_ok-judgement.ensures.answer x t means tell in (
      j.readable,
      outcome_is c.args.judged (set_grid s) (set_products s) (set_numbers s) c.in_ok-judgement.judgement.verdict c.in_ok-judgement.judgement.cell c.outcome_of.result c.outcome_of.ensures j.verdict j.decided,
    )

pub returns-clause-exactly : goal.returns-clause-exactly
returns-clause-exactly g c = λ none x t means tell.
    let s : GroundSet = record { terrain = g.T.GroundInput.terrain x; texts = t } in
    let j = c.in_ok-judgement.ensures.answer x t means tell in
    exactly c.correct_is_local.ensures c.part_is_local.ensures c.surface_is_part.ensures c.args.judged (set_grid s) (set_products s) (set_numbers s) c.outcome_of.result none
    (outcome_is c.args.judged (set_grid s) (set_products s) (set_numbers s) c.in_ok-judgement.judgement.verdict c.in_ok-judgement.judgement.cell c.outcome_of.result c.outcome_of.ensures j.verdict j.decided)

pub returns-clause-uses : goal.returns-clause-uses
returns-clause-uses g c = c.in_ok-judgement.ensures.uses
