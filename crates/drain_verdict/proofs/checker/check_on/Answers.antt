use Rattle.drain_verdict.proofs.Names.{err_from_is_err_and}
use Rattle.drain_verdict.proofs.Acceptance.{when_checked}
use Rattle.drain_verdict.proofs.checker.check_on.Goals as goal

pub returns-in_err-judgement-clause-answer : goal.returns-in_err-judgement-clause-answer
returns-in_err-judgement-clause-answer g c = λ x t means tell.
    let told = err_from_is_err_and c.from_residual.result c.from_residual.ensures.1 in
    rw (told.1, told.2) (c.in_err-judgement.ensures.answer x t means tell)

pub returns-in_err-judgement-clause-uses : goal.returns-in_err-judgement-clause-uses
returns-in_err-judgement-clause-uses g c =
    let told = err_from_is_err_and c.from_residual.result c.from_residual.ensures.1 in
    rw (told.1, told.2) c.in_err-judgement.ensures.uses

pub returns-clause-answer : goal.returns-clause-answer
returns-clause-answer g c = λ x t means tell. (let j = c.in_ok-judgement.ensures.answer x t means tell in (j.readable, j.verdict))

pub returns-clause-right : goal.returns-clause-right
returns-clause-right g c =
    when_checked g.T.GroundInput.terrain (g.T.GroundInput.encodes c.args.key.now c.args.inputs.now) g.R.ByteSource.bytes_left c.args.given.now c.args.products.now c.correct_from_rules.ensures c.in_ok-judgement.judgement.verdict
    (λ x t means tell. (c.in_ok-judgement.ensures.answer x t means tell).verdict)

pub returns-clause-uses : goal.returns-clause-uses
returns-clause-uses g c = c.in_ok-judgement.ensures.uses
