use Rattle.drain_c.proofs.Names.{subst, OfCall, set_in}
use Rattle.drain_c.specs.Calls.{plain_call}
use Rattle.drain_c.specs.Derived.{AreDerivedNumbers, ReportsDerivation}
use Rattle.drain_c.proofs.Derivations.{numbers, reports, unwritten}
use Rattle.drain_c.proofs.exported_derive_request.drain_derive_request.Goals as goal

pub returns-clause-answer : goal.returns-clause-answer
returns-clause-answer c whole =
    subst (λ call. OfCall (plain_call call) (λ i. ReportsDerivation (set_in i) c.args.acc.now c.args.bas.now c.args.rnk.now c.show_derivation.new.answer)) c.derived_call-call.ensures
    (reports (plain_call c.derived_call-call.result) c.derive_rasters.result (c.args.acc.now, c.args.bas.now, c.args.rnk.now)
    (c.show_derivation.new.acc, c.show_derivation.new.bas, c.show_derivation.new.rnk) c.show_derivation.new.answer c.derive_rasters.ensures.counts
    c.derive_rasters.ensures.derived c.derive_rasters.ensures.err c.show_derivation.ensures)

pub returns-clause-derived : goal.returns-clause-derived
returns-clause-derived c zero =
    subst (λ call. OfCall (plain_call call) (λ i. AreDerivedNumbers (set_in i) c.show_derivation.new.acc c.show_derivation.new.bas c.show_derivation.new.rnk)) c.derived_call-call.ensures
    (numbers (plain_call c.derived_call-call.result) c.derive_rasters.result (c.args.acc.now, c.args.bas.now, c.args.rnk.now)
    (c.show_derivation.new.acc, c.show_derivation.new.bas, c.show_derivation.new.rnk) c.show_derivation.new.answer c.derive_rasters.ensures.derived c.show_derivation.ensures zero)

pub returns-clause-unwritten : goal.returns-clause-unwritten
returns-clause-unwritten c other =
    unwritten c.derive_rasters.result (c.args.acc.now, c.args.bas.now, c.args.rnk.now)
    (c.show_derivation.new.acc, c.show_derivation.new.bas, c.show_derivation.new.rnk) c.show_derivation.new.answer c.show_derivation.ensures other
