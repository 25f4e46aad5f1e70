use Rattle.drain_verdict.proofs.Names.{err_from_is_err_and, GroundSet, set_grid, set_numbers, set_products}
use Rattle.drain_verdict.proofs.Acceptance.{when_audited}
use Rattle.drain_verdict.proofs.AuditAnswers.{as_certified, exactly, plain_of}
use Rattle.drain_verdict.proofs.auditor.audit_on.Goals as goal

pub returns-in_err-judgement-clause-answer : goal.returns-in_err-judgement-clause-answer
returns-in_err-judgement-clause-answer g c = λ x t means tell.
    let told = err_from_is_err_and c.from_residual.result c.from_residual.ensures.1 in
    rw (told.1, told.2) (c.in_err-judgement.ensures.answer x t means tell)

pub returns-in_err-judgement-clause-uses : goal.returns-in_err-judgement-clause-uses
returns-in_err-judgement-clause-uses g c =
    let told = err_from_is_err_and c.from_residual.result c.from_residual.ensures.1 in
    rw (told.1, told.2) c.in_err-judgement.ensures.uses

pub returns-clause-answer : goal.returns-clause-answer
returns-clause-answer g c = λ x t means tell.
    let s : GroundSet = record { terrain = g.T.GroundInput.terrain x; texts = t } in
    let j = c.in_ok-judgement.ensures.answer x t means tell in
    (j.readable, as_certified c.ranks_play_no_part.ensures (set_grid s) (set_products s) (set_numbers s) c.verdict_of_both.result j.extent (plain_of s c.in_ok-judgement.judgement c.verdict_of_both.result c.verdict_of_both.ensures j))

pub returns-clause-exactly : goal.returns-clause-exactly
returns-clause-exactly g c = λ x t means tell.
    let s : GroundSet = record { terrain = g.T.GroundInput.terrain x; texts = t } in
    let j = c.in_ok-judgement.ensures.answer x t means tell in
    exactly c.correct_is_local.ensures (set_grid s) (set_products s) (set_numbers s) c.verdict_of_both.result (plain_of s c.in_ok-judgement.judgement c.verdict_of_both.result c.verdict_of_both.ensures j)

pub returns-clause-right : goal.returns-clause-right
returns-clause-right g c =
    when_audited g.T.GroundInput.terrain (g.T.GroundInput.encodes c.args.key.now c.args.inputs.now) g.R.ByteSource.bytes_left c.args.given.now (g.P.ProductInputs.inputs c.args.products.now)
    c.correct_is_local.ensures c.sound_from_correct.ensures c.verdict_of_both.result
    (λ x t means tell. plain_of (record { terrain = g.T.GroundInput.terrain x; texts = t }) c.in_ok-judgement.judgement c.verdict_of_both.result c.verdict_of_both.ensures (c.in_ok-judgement.ensures.answer x t means tell))

pub returns-clause-uses : goal.returns-clause-uses
returns-clause-uses g c = c.in_ok-judgement.ensures.uses
