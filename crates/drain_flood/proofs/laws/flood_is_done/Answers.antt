use Rattle.drain_flood.proofs.AllReached as lemmas
use Rattle.drain_flood.proofs.laws.flood_is_done.Goals as goal

pub returns : goal.returns
returns c = lemmas.flood_is_done
