use Rattle.drain_maker.proofs.Names.{refl, sym, subst, err_from_is_err_and, Extent, AreFirstFlows, AreFlowsOf, EncodeTexts, GroundSet, set_grid, set_products, as_five, set_devices}
use Rattle.drain_paths.proofs.GridFlows.{AreFirstFlows-none, AreFlowsOf-all}
use Rattle.drain_maker.proofs.DerivedRasters.{counted_uses, if_same, of_memory_says_nothing}
use Rattle.drain_maker.proofs.derivation.flows_on.Goals as goal

pub read_set-requires-clause-unnoted : goal.read_set-requires-clause-unnoted
read_set-requires-clause-unnoted g c = λ rules grid ps. subst (AreFirstFlows grid ps grid.extent 0) (sym c.new-flows.ensures) (AreFirstFlows-none grid ps grid.extent refl)

pub returns-in_err-read_set-clause-err : goal.returns-in_err-read_set-clause-err
returns-in_err-read_set-clause-err g c =
    let told = err_from_is_err_and c.from_residual.result c.from_residual.ensures.1 in
    rw (told.1, told.2) (rw c.plain.ensures at c.in_err-read_set.ensures.answer)

pub returns-in_err-read_set-clause-uses : goal.returns-in_err-read_set-clause-uses
returns-in_err-read_set-clause-uses g c =
    let told = err_from_is_err_and c.from_residual.result c.from_residual.ensures.1 in
    rw (told.1, told.2) c.in_err-read_set.ensures.uses

pub returns-clause-flows : goal.returns-clause-flows
returns-clause-flows g c =
    if_same c.counted.result c.read_set.new.notes _ c.counted.ensures.same (λ x t means tell.
    (let s : GroundSet = record { terrain = g.T.GroundInput.terrain x; texts = t } in
    let told = subst (λ given. EncodeTexts g.R.ByteSource.bytes_left given (as_five c.args.products.now) t) (sym c.plain.ensures) tell in
    let framed = c.meaning_laws.ensures.framed c.args.frame.now c.args.inputs.now x c.requires.fit means in
    let flows = AreFlowsOf-all (set_grid s) (set_products s) (set_grid s).extent c.read_set.new.notes (c.in_ok-read_set.ensures.noted x t means told) in (
      c.in_ok-read_set.ensures.answer x t means told,
      subst (λ (e : Extent). AreFlowsOf (set_grid s) (set_products s) e c.read_set.new.notes) (c.meaning_laws.ensures.laid c.args.frame.now x framed).extent_is flows,
    )))

pub returns-clause-err : goal.returns-clause-err
returns-clause-err g c = of_memory_says_nothing c.counted.result _ c.counted.ensures.err (λ x t means tell. tt)

pub returns-clause-uses : goal.returns-clause-uses
returns-clause-uses g c =
    counted_uses as_five (λ xs ps. set_devices g.T.GroundInput.devices xs (as_five ps)) (g.T.GroundInput.within (g.T.GroundInput.key_of c.args.frame.now)) g.T.GroundInput.kept g.R.ByteSource.bytes_left g.R.ByteSource.counts
    (c.args.inputs.now, c.args.products.now) (c.read_set.new.inputs, c.read_set.new.products) c.counted.result c.counted.ensures.err c.in_ok-read_set.ensures.uses
