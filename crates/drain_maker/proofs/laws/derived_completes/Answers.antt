use Rattle.drain_maker.proofs.Completed.{derived_completes as law}
use Rattle.drain_maker.proofs.laws.derived_completes.Goals as goal

pub returns : goal.returns
returns c = law
