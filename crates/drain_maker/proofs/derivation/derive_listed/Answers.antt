use Rattle.drain_maker.proofs.DerivedRasters.{flows_refusal}
use Rattle.drain_maker.proofs.derivation.derive_listed.Goals as goal

pub returns-in-Err-clause-err : goal.returns-in-Err-clause-err
returns-in-Err-clause-err c = λ g ps are. flows_refusal g ps c.in-Err.refusal c.refusal_of.result c.refusal_of.ensures (c.in-Err.ensures.err g ps are)
