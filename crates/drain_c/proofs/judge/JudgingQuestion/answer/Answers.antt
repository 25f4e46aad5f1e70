use Rattle.drain_c.proofs.Names.{GroundSet, IsOutcomeIn, subst, sym}
use Rattle.drain_c.proofs.Told.{itself}
use Rattle.drain_c.proofs.judge.JudgingQuestion.answer.Goals as goal

pub returns-clause-answer : goal.returns-clause-answer
returns-clause-answer g c = λ x t means tell.
    let s : GroundSet = record { terrain = g.T.GroundInput.terrain x; texts = t } in
    subst (IsOutcomeIn c.args.judged s) (sym (itself c.audit_part_on.result)) (c.audit_part_on.ensures.answer x t means tell)
