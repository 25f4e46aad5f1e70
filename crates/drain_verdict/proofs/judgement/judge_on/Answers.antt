use Rattle.drain_verdict.proofs.Names.{◌≡◌, Some, ap, sym, subst, err_from_is_err_and, ReadFailed, ForTexts, GroundSet, UsesSet, set_devices}
use Rattle.std.proofs.Common.{Err}
use Rattle.drain_verdict.specs.Judgements.{IsJudgementIn}
use Rattle.drain_verdict.proofs.Acceptance.{when_given}
use Rattle.drain_verdict.proofs.InputLemmas.{set_uses_none}
use Rattle.drain_verdict.proofs.Order.{own_length, own_values}
use Rattle.drain_verdict.proofs.judgement.judge_on.Goals as goal

pub returns-in_err-frame-clause-answer : goal.returns-in_err-frame-clause-answer
returns-in_err-frame-clause-answer g c = λ x t means tell.
    let told = err_from_is_err_and c.from_residual.result c.from_residual.ensures.1 in
    rw (told.1, told.2) (c.in_err-frame.ensures.refusal x means t)

pub returns-in_err-frame-clause-uses : goal.returns-in_err-frame-clause-uses
returns-in_err-frame-clause-uses g c =
    let told = err_from_is_err_and c.from_residual.result c.from_residual.ensures.1 in
    let inputs = g.P.ProductInputs.inputs in
    rw (told.1, told.2) (set_uses_none {T = Unit {0}} inputs (λ xs ps. set_devices g.T.GroundInput.devices xs (inputs ps)) (g.T.GroundInput.within c.args.key.now) g.T.GroundInput.kept g.R.ByteSource.bytes_left g.R.ByteSource.counts
    c.args.inputs.now c.args.products.now (Err c.in_err-frame.field-0.0) (c.reading_laws.ensures.none_within c.args.key.now c.args.inputs.now) (c.reading_laws.ensures.none_kept c.args.inputs.now)
    (λ is. c.in_err-frame.ensures.no_read (let same : c.in_err-frame.field-0.0 ≡ ReadFailed = cc in ap Some same)))

pub judge_set-requires-clause-unnoted : goal.judge_set-requires-clause-unnoted
judge_set-requires-clause-unnoted g c = λ rules grid ps. record { rows_are = c.new-walk.ensures.rows; right = c.new-walk.ensures.outcome rules grid ps }

pub returns-clause-answer : goal.returns-clause-answer
returns-clause-answer g c = λ x t means tell.
    c.judge_set.ensures.answer x t (subst (λ key. g.T.GroundInput.encodes key c.args.inputs.now x) (sym c.in_ok-frame.ensures.keyed) means) tell

pub returns-clause-elevation : goal.returns-clause-elevation
returns-clause-elevation g c =
    when_given g.T.GroundInput.terrain (g.T.GroundInput.encodes (g.T.GroundInput.key_of c.in_ok-frame.frame) c.args.inputs.now) g.R.ByteSource.bytes_left c.args.given.now (g.P.ProductInputs.inputs c.args.products.now)
    (λ s answer. IsJudgementIn c.args.judged s answer)
    (ForTexts (g.T.GroundInput.encodes c.args.key.now c.args.inputs.now) g.R.ByteSource.bytes_left c.args.given.now (g.P.ProductInputs.inputs c.args.products.now) g.T.GroundInput.is_told)
    (λ j judged x t means tell.
    let s : GroundSet = record { terrain = g.T.GroundInput.terrain x; texts = t } in
    let said = subst (λ key. g.T.GroundInput.encodes key c.args.inputs.now x) (sym c.in_ok-frame.ensures.keyed) means in
    let readable = (judged x t said tell).readable in
    c.meaning_laws.ensures.told c.in_ok-frame.frame x (c.meaning_laws.ensures.framed c.in_ok-frame.frame c.args.inputs.now x c.in_ok-frame.ensures.fit said)
    (λ b kind refuses. readable b ((own_length s b kind).refuses refuses)) (λ b kind refuses. readable b ((own_values s b kind).refuses refuses)))
    c.judge_set.result c.judge_set.ensures.answer

pub returns-clause-uses : goal.returns-clause-uses
returns-clause-uses g c =
    let inputs = g.P.ProductInputs.inputs in
    subst (λ key. UsesSet inputs (λ xs ps. set_devices g.T.GroundInput.devices xs (inputs ps)) (g.T.GroundInput.within key) g.T.GroundInput.kept g.R.ByteSource.bytes_left g.R.ByteSource.counts
    (c.args.inputs.now, c.args.products.now) (c.judge_set.new.inputs, c.judge_set.new.products) c.judge_set.result)
    c.in_ok-frame.ensures.keyed c.judge_set.ensures.uses
