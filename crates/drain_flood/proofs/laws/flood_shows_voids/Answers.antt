use Rattle.drain_flood.proofs.FlatsPresent as lemmas
use Rattle.drain_flood.proofs.laws.flood_shows_voids.Goals as goal

pub returns : goal.returns
returns c = lemmas.flood_shows_voids
