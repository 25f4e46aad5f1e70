use Rattle.drain_explain.proofs.Names.{Err, sym, subst, err_from_is_err_and, Extent, AreFlowsFor, GroundSet, set_grid, set_numbers, set_products, set_devices, no_memory_left, set_uses_none, OutOfMemory}
use Rattle.drain_verdict.proofs.OutcomeLemmas.{outcome_is}
use Rattle.drain_explain.proofs.Noting.{endless-told}
use Rattle.drain_explain.proofs.seen.see.Goals as goal

pub returns-in-Err-clause-uses : goal.returns-in-Err-clause-uses
returns-in-Err-clause-uses g c =
    let inputs = g.P.ProductInputs.inputs in
    set_uses_none {T = Unit {0}} inputs (λ xs ps. set_devices g.T.GroundInput.devices xs (inputs ps)) (g.T.GroundInput.within (g.T.GroundInput.key_of c.args.frame.now)) g.T.GroundInput.kept g.R.ByteSource.bytes_left g.R.ByteSource.counts
    c.args.inputs.now c.args.products.now (Err OutOfMemory) (c.reading_laws.ensures.none_within (g.T.GroundInput.key_of c.args.frame.now) c.args.inputs.now) (c.reading_laws.ensures.none_kept c.args.inputs.now) (λ is. cc)

pub returns-in_err-judgement-clause-answer : goal.returns-in_err-judgement-clause-answer
returns-in_err-judgement-clause-answer g c = λ x t means tell.
    let told = err_from_is_err_and c.from_residual.result c.from_residual.ensures.1 in
    rw (told.1, told.2) (c.in_err-judgement.ensures.answer x t means tell)

pub returns-in_err-judgement-clause-uses : goal.returns-in_err-judgement-clause-uses
returns-in_err-judgement-clause-uses g c =
    let told = err_from_is_err_and c.from_residual.result c.from_residual.ensures.1 in
    rw (told.1, told.2) c.in_err-judgement.ensures.uses

pub returns-clause-uses : goal.returns-clause-uses
returns-clause-uses g c = c.in_ok-judgement.ensures.uses

pub returns-in-Err-endless_of-clause-uses : goal.returns-in-Err-endless_of-clause-uses
returns-in-Err-endless_of-clause-uses g c =
    let inputs = g.P.ProductInputs.inputs in
    no_memory_left inputs (λ xs ps. set_devices g.T.GroundInput.devices xs (inputs ps)) (g.T.GroundInput.within (g.T.GroundInput.key_of c.args.frame.now)) g.T.GroundInput.kept g.R.ByteSource.bytes_left g.R.ByteSource.counts
    (c.args.inputs.now, c.args.products.now) (c.judge_set.new.inputs, c.judge_set.new.products) c.in_ok-judgement.ensures.uses

pub returns-clause-answer : goal.returns-clause-answer
returns-clause-answer g c = λ x t means tell.
    let s : GroundSet = record { terrain = g.T.GroundInput.terrain x; texts = t } in
    let told = c.in_ok-judgement.ensures.answer x t means tell in (
      told.readable,
      outcome_is c.args.judged (set_grid s) (set_products s) (set_numbers s) c.in_ok-judgement.judgement.verdict c.in_ok-judgement.judgement.cell
          c.outcome_of-outcome.result c.outcome_of-outcome.ensures told.verdict told.decided,
    )

pub returns-clause-noted : goal.returns-clause-noted
returns-clause-noted g c = λ x t means tell. ((c.in_ok-judgement.ensures.answer x t means tell).extent.some_row, c.in_ok-judgement.ensures.noted x t means tell)

pub returns-clause-endless : goal.returns-clause-endless
returns-clause-endless g c = λ x t means tell.
    let s : GroundSet = record { terrain = g.T.GroundInput.terrain x; texts = t } in
    let left = subst (λ (e : Extent). AreFlowsFor c.args.judged (set_grid s) (set_products s) e c.in_ok-judgement.judgement.flows) (sym c.shape-shape.ensures) (c.in_ok-judgement.ensures.flows x t means tell) in
    endless-told (set_grid s) (set_products s) (set_numbers s) c.outcome_of-outcome.result _ c.in_ok-judgement.judgement.flows c.in-Ok-endless_of.endless c.in-Ok-endless_of.ensures.named c.in-Ok-endless_of.ensures.run
    c.args.judged (returns-clause-answer g c x t means tell).1 left
