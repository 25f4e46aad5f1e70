use Rattle.drain_flood.proofs.FlatsPresent as lemmas
use Rattle.drain_flood.proofs.laws.flats_are_present.Goals as goal

pub returns : goal.returns
returns c = lemmas.flats_are_present
