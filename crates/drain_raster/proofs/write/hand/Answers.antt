use Rattle.drain_raster.proofs.WritingLemmas.{Hands-write_all}
use Rattle.drain_raster.proofs.write.hand.Goals as goal

pub returns : goal.returns
returns g c = Hands-write_all _ _ _ _ _ _ _ _ _ _ c.write_all.ensures.bytes c.write_all.ensures.faults
