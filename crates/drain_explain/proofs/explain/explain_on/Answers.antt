use Rattle.drain_explain.proofs.Names.{◌≡◌, Option, Some, None, Err, ap, sym, subst, IfSome, err_from_is_err_and, ReadFailed, Cell, EndlessPath, GroundSet, IsEndlessIn, UsesTold, rules_in, set_devices, set_grid, set_products, set_uses_none}
use Rattle.drain_verdict.proofs.Order.{own_length, own_values}
use Rattle.drain_explain.proofs.explain.explain_on.Goals as goal

pub returns-in_err-frame-clause-answer : goal.returns-in_err-frame-clause-answer
returns-in_err-frame-clause-answer g c = λ x t means tell.
    let told = err_from_is_err_and c.from_residual.result c.from_residual.ensures.1 in
    rw (told.1, told.2) (c.in_err-frame.ensures.refusal x means t)

pub returns-in_err-frame-clause-uses : goal.returns-in_err-frame-clause-uses
returns-in_err-frame-clause-uses g c =
    let told = err_from_is_err_and c.from_residual.result c.from_residual.ensures.1 in
    let inputs = g.P.ProductInputs.inputs in
    rw (told.1, told.2) (set_uses_none {T = Unit {0}} inputs (λ xs ps. set_devices g.T.GroundInput.devices xs (inputs ps)) (g.T.GroundInput.within c.args.key.now) g.T.GroundInput.kept g.R.ByteSource.bytes_left g.R.ByteSource.counts
    c.args.inputs.now c.args.products.now (Err c.in_err-frame.field-0.0) (c.reading_laws.ensures.none_within c.args.key.now c.args.inputs.now) (c.reading_laws.ensures.none_kept c.args.inputs.now)
    (λ is. c.in_err-frame.ensures.no_read (let same : c.in_err-frame.field-0.0 ≡ ReadFailed = cc in ap Some same)))

pub returns-in_err-seen-clause-answer : goal.returns-in_err-seen-clause-answer
returns-in_err-seen-clause-answer g c = λ x t means tell.
    let told = err_from_is_err_and c.from_residual-in_err-seen.result c.from_residual-in_err-seen.ensures.1 in
    rw (told.1, told.2) (c.in_err-seen.ensures.answer x t (subst (λ key. g.T.GroundInput.encodes key c.args.inputs.now x) (sym c.in_ok-frame.ensures.keyed) means) tell)

pub returns-in_err-seen-clause-uses : goal.returns-in_err-seen-clause-uses
returns-in_err-seen-clause-uses g c =
    let told = err_from_is_err_and c.from_residual-in_err-seen.result c.from_residual-in_err-seen.ensures.1 in
    let inputs = g.P.ProductInputs.inputs in
    rw (told.1, told.2) (subst (λ key. UsesTold inputs (λ xs ps. set_devices g.T.GroundInput.devices xs (inputs ps)) (g.T.GroundInput.within key) g.T.GroundInput.kept g.R.ByteSource.bytes_left g.R.ByteSource.counts
    (c.args.inputs.now, c.args.products.now) (c.see.new.inputs, c.see.new.products) (Some c.in_err-seen.field-0.0))
    c.in_ok-frame.ensures.keyed c.in_err-seen.ensures.uses)

pub returns-clause-uses : goal.returns-clause-uses
returns-clause-uses g c =
    let inputs = g.P.ProductInputs.inputs in
    subst (λ key. UsesTold inputs (λ xs ps. set_devices g.T.GroundInput.devices xs (inputs ps)) (g.T.GroundInput.within key) g.T.GroundInput.kept g.R.ByteSource.bytes_left g.R.ByteSource.counts
    (c.args.inputs.now, c.args.products.now) (c.see.new.inputs, c.see.new.products) None)
    c.in_ok-frame.ensures.keyed c.in_ok-seen.ensures.uses

pub returns-clause-answer : goal.returns-clause-answer
returns-clause-answer g c = λ x t means tell.
    c.in_ok-seen.ensures.answer x t (subst (λ key. g.T.GroundInput.encodes key c.args.inputs.now x) (sym c.in_ok-frame.ensures.keyed) means) tell

pub returns-clause-explained : goal.returns-clause-explained
returns-clause-explained g c = λ x t means tell.
    let s : GroundSet = record { terrain = g.T.GroundInput.terrain x; texts = t } in
    let noted = c.in_ok-seen.ensures.noted x t (subst (λ key. g.T.GroundInput.encodes key c.args.inputs.now x) (sym c.in_ok-frame.ensures.keyed) means) tell in
    c.findings_of.ensures.found (rules_in c.args.judged s) (set_grid s) (set_products s) noted.0 noted.1

pub returns-clause-endless : goal.returns-clause-endless
returns-clause-endless g c = λ x t means tell.
    let s : GroundSet = record { terrain = g.T.GroundInput.terrain x; texts = t } in
    subst (λ (o : Option (Cell × EndlessPath)). IfSome o (IsEndlessIn s c.in_ok-seen.seen.outcome)) (sym c.findings_of.ensures.endless)
    (c.in_ok-seen.ensures.endless x t (subst (λ key. g.T.GroundInput.encodes key c.args.inputs.now x) (sym c.in_ok-frame.ensures.keyed) means) tell)

pub returns-clause-frame : goal.returns-clause-frame
returns-clause-frame g c =
    subst (λ frame. g.T.GroundInput.fit frame c.args.inputs.now) (sym c.findings_of.ensures.layout) c.in_ok-frame.ensures.fit

pub returns-clause-keyed : goal.returns-clause-keyed
returns-clause-keyed g c =
    subst (λ frame. g.T.GroundInput.key_of frame ≡ c.args.key.now) (sym c.findings_of.ensures.layout) c.in_ok-frame.ensures.keyed

pub returns-clause-elevation : goal.returns-clause-elevation
returns-clause-elevation g c = λ x t means tell.
    let s : GroundSet = record { terrain = g.T.GroundInput.terrain x; texts = t } in
    let said = subst (λ key. g.T.GroundInput.encodes key c.args.inputs.now x) (sym c.in_ok-frame.ensures.keyed) means in
    let readable = (c.in_ok-seen.ensures.answer x t said tell).0 in
    c.meaning_laws.ensures.told c.in_ok-frame.frame x (c.meaning_laws.ensures.framed c.in_ok-frame.frame c.args.inputs.now x c.in_ok-frame.ensures.fit said)
    (λ b kind refuses. readable b ((own_length s b kind).refuses refuses)) (λ b kind refuses. readable b ((own_values s b kind).refuses refuses))
