use Rattle.drain_pixels.proofs.StoredLemmas.{u32_inside}
use Rattle.drain_pixels.proofs.stored.U32PixelsPixelNumbers.at.Goals as goal

pub u32_at-requires : goal.u32_at-requires
u32_at-requires c = u32_inside _ _ c.requires
