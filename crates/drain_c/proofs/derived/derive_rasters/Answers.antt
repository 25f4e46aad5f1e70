use Rattle.drain_c.specs.Calls.{plain_call}
use Rattle.drain_c.proofs.Told.{derived_told}
use Rattle.drain_c.proofs.derived.derive_rasters.Goals as goal
use Rattle.drain_maker.specs.Derived.{AreDerivedIn}

pub returns-clause-elevation : goal.returns-clause-elevation
returns-clause-elevation c =
    derived_told c.agreement_gives_elevation.ensures (plain_call c.args.call.now) (λ made s. AreDerivedIn s made.1) (λ made s is. is.0) c.answer_of.result c.answer_of.ensures.derived
