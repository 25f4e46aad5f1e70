use Rattle.drain_pixels.proofs.StoredLemmas.{i32_inside}
use Rattle.drain_pixels.proofs.stored.I32PixelsPixelNumbers.at.Goals as goal

pub i32_at-requires : goal.i32_at-requires
i32_at-requires c = i32_inside _ _ c.requires
