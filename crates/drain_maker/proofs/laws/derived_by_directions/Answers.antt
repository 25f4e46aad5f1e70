use Rattle.drain_maker.proofs.DerivedRasters.{derived_by_directions as law}
use Rattle.drain_maker.proofs.laws.derived_by_directions.Goals as goal

pub returns : goal.returns
returns c = law
