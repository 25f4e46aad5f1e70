use Rattle.drain_pixels.proofs.StoredLemmas.{u16_inside}
use Rattle.drain_pixels.proofs.stored.U16PixelsPixelNumbers.at.Goals as goal

pub u16_at-requires : goal.u16_at-requires
u16_at-requires c = u16_inside _ _ c.requires
