use Rattle.drain_maker.proofs.Names.{◌≡◌, Some, None, Err, ap, sym, subst, UsesTold, as_five, set_devices, set_uses_none, told_by}
use Rattle.drain_answer.specs.declared.refusal.Refusal.TheVariants.{ReadFailed}
use Rattle.drain_maker.specs.Derived.{reading_of}
use Rattle.drain_maker.proofs.derivation.derive_on.Goals as goal

pub returns-in-Err-clause-err : goal.returns-in-Err-clause-err
returns-in-Err-clause-err g c = λ x t means tell. c.in-Err.ensures.refusal x means t

pub returns-in-Err-clause-uses : goal.returns-in-Err-clause-uses
returns-in-Err-clause-uses g c =
    set_uses_none {T = Unit {0}} as_five (λ xs ps. set_devices g.T.GroundInput.devices xs (as_five ps)) (g.T.GroundInput.within c.args.key.now) g.T.GroundInput.kept g.R.ByteSource.bytes_left g.R.ByteSource.counts
    c.args.inputs.now c.args.products.now (Err c.in-Err.refusal) (c.reading_laws.ensures.none_within c.args.key.now c.args.inputs.now) (c.reading_laws.ensures.none_kept c.args.inputs.now)
    (λ is. c.in-Err.ensures.no_read (let same : c.in-Err.refusal ≡ ReadFailed = cc in ap Some same))

pub returns-in-Ok-derive_in-clause-derived : goal.returns-in-Ok-derive_in-clause-derived
returns-in-Ok-derive_in-clause-derived g c = λ x t means tell.
    c.in-Ok-derive_in.ensures.derived x t (subst (λ key. g.T.GroundInput.encodes key c.args.inputs.now x) (sym c.in-Ok.ensures.keyed) means) tell

pub returns-in-Ok-derive_in-clause-uses : goal.returns-in-Ok-derive_in-clause-uses
returns-in-Ok-derive_in-clause-uses g c =
    subst (λ key. UsesTold as_five (λ xs ps. set_devices g.T.GroundInput.devices xs (as_five ps)) (g.T.GroundInput.within key) g.T.GroundInput.kept g.R.ByteSource.bytes_left g.R.ByteSource.counts
    (c.args.inputs.now, c.args.products.now) (c.derive_in.new.inputs, c.derive_in.new.products) None)
    c.in-Ok.ensures.keyed c.in-Ok-derive_in.ensures.uses

pub returns-in-Err-derive_in-clause-err : goal.returns-in-Err-derive_in-clause-err
returns-in-Err-derive_in-clause-err g c = λ x t means tell.
    c.in-Err-derive_in.ensures.err x t (subst (λ key. g.T.GroundInput.encodes key c.args.inputs.now x) (sym c.in-Ok.ensures.keyed) means) tell

pub returns-in-Err-derive_in-clause-uses : goal.returns-in-Err-derive_in-clause-uses
returns-in-Err-derive_in-clause-uses g c =
    subst (λ key. UsesTold as_five (λ xs ps. set_devices g.T.GroundInput.devices xs (as_five ps)) (g.T.GroundInput.within key) g.T.GroundInput.kept g.R.ByteSource.bytes_left g.R.ByteSource.counts
    (c.args.inputs.now, c.args.products.now) (c.derive_in.new.inputs, c.derive_in.new.products) (told_by (reading_of c.in-Err-derive_in.why)))
    c.in-Ok.ensures.keyed c.in-Err-derive_in.ensures.uses
