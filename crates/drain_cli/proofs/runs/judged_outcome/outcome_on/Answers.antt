use Rattle.drain_cli.proofs.Names.{◌∙◌, ap, refl, subst, sym, IsAcceptedOutcome, status_code, IsJudgement, IsOutcomeOf, outcome_status, AcceptedOf, RejectedOf, UsesGround, AllWithRanks, ForSet, ProductsAreRight, as_five, AreRightIn}
use Rattle.std.proofs.Common.{◌↔◌}
use Rattle.drain_cli.proofs.AnswerLemmas.{accepted_by_0, of_checked, rejected_by_1}
use Rattle.drain_cli.proofs.RankedOutcomes.{ranked_judgement, ranked_status}
use Rattle.drain_files.specs.declared.open_judged.JudgedProducts.TheVariants as products
use Rattle.drain_cli.proofs.runs.judged_outcome.outcome_on.Goals as goal

pub returns-in-Five-clause-outcome : goal.returns-in-Five-clause-outcome
returns-in-Five-clause-outcome g c =
    let checked = c.check_on in
    let means = g.T.GroundInput.encodes c.args.key.now c.args.inputs.now in
    let bl = g.R.ByteSource.bytes_left in
    let uses = UsesGround g.T.GroundInput.devices (g.T.GroundInput.within c.args.key.now) g.T.GroundInput.kept bl g.R.ByteSource.counts c.args.inputs.now checked.new.inputs in
    subst (λ ps. IsOutcomeOf (ForSet g.T.GroundInput.terrain means bl c.args.given.now) uses ps (products.Five checked.new.products) c.ranked_outcome.result) (sym c.in-Five.is)
    (subst (λ a. IsJudgement (ForSet g.T.GroundInput.terrain means bl c.args.given.now c.in-Five.five) (uses _ (λ ps. ps) c.in-Five.five checked.new.products) AllWithRanks a) (sym c.ranked_outcome.ensures)
    (ranked_judgement g.T.GroundInput.terrain means bl c.args.given.now c.in-Five.five (uses _ (λ ps. ps) c.in-Five.five checked.new.products) checked.result checked.ensures.answer checked.ensures.uses))

pub returns-in-Four-clause-outcome : goal.returns-in-Four-clause-outcome
returns-in-Four-clause-outcome g c =
    let audited = c.audit_part_on in
    let means = g.T.GroundInput.encodes c.args.key.now c.args.inputs.now in
    let bl = g.R.ByteSource.bytes_left in
    let uses = UsesGround g.T.GroundInput.devices (g.T.GroundInput.within c.args.key.now) g.T.GroundInput.kept bl g.R.ByteSource.counts c.args.inputs.now audited.new.inputs in
    subst (λ ps. IsOutcomeOf (ForSet g.T.GroundInput.terrain means bl c.args.given.now) uses ps (products.Four audited.new.products c.in-Four.judged) audited.result) (sym c.in-Four.is)
    (record { answer = audited.ensures.answer; uses = audited.ensures.uses }, refl)

pub returns-in-Five-clause-correct : goal.returns-in-Five-clause-correct
returns-in-Five-clause-correct g c zero =
    let checked = c.check_on in
    let means = g.T.GroundInput.encodes c.args.key.now c.args.inputs.now in
    let status = ap (λ a. status_code (outcome_status a)) (sym c.ranked_outcome.ensures) ∙ zero in
    subst (λ ps. AcceptedOf (ForSet g.T.GroundInput.terrain means g.R.ByteSource.bytes_left c.args.given.now) ps) (sym c.in-Five.is)
    (of_checked checked.result (ap status_code (sym (ranked_status checked.result)) ∙ status)
    (ForSet g.T.GroundInput.terrain means g.R.ByteSource.bytes_left c.args.given.now c.in-Five.five ProductsAreRight) checked.ensures.right)

pub returns-in-Four-clause-correct : goal.returns-in-Four-clause-correct
returns-in-Four-clause-correct g c zero =
    let means = g.T.GroundInput.encodes c.args.key.now c.args.inputs.now in
    subst (λ ps. AcceptedOf (ForSet g.T.GroundInput.terrain means g.R.ByteSource.bytes_left c.args.given.now) ps) (sym c.in-Four.is) (λ none x texts is are_texts.
    let accepted = accepted_by_0 c.audit_part_on.result zero
    (λ outcome. ForSet g.T.GroundInput.terrain means g.R.ByteSource.bytes_left c.args.given.now (as_five c.in-Four.four) (λ s. IsAcceptedOutcome outcome ↔ AreRightIn c.in-Four.judged s))
    (c.audit_part_on.ensures.exactly none) in
    (accepted.2 x texts is are_texts).0 accepted.1)

pub returns-in-Four-clause-not_correct : goal.returns-in-Four-clause-not_correct
returns-in-Four-clause-not_correct g c one =
    let means = g.T.GroundInput.encodes c.args.key.now c.args.inputs.now in
    subst (λ ps. RejectedOf (ForSet g.T.GroundInput.terrain means g.R.ByteSource.bytes_left c.args.given.now) ps) (sym c.in-Four.is) (λ none x texts is are_texts.
    let rejected = rejected_by_1 c.audit_part_on.result one
    (λ outcome. ForSet g.T.GroundInput.terrain means g.R.ByteSource.bytes_left c.args.given.now (as_five c.in-Four.four) (λ s. IsAcceptedOutcome outcome ↔ AreRightIn c.in-Four.judged s))
    (c.audit_part_on.ensures.exactly none) in
    (λ right. rejected.1 ((rejected.2 x texts is are_texts).1 right)))
