use Rattle.drain_pixels.proofs.StoredLemmas.{u8_inside}
use Rattle.drain_pixels.proofs.stored.U8PixelsPixelNumbers.at.Goals as goal

pub u8_at-requires : goal.u8_at-requires
u8_at-requires c = u8_inside _ _ c.requires
