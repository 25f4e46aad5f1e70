use Rattle.drain_pixels.proofs.StoredLemmas.{f32_inside}
use Rattle.drain_pixels.proofs.stored.F32PixelsPixelNumbers.at.Goals as goal

pub f32_at-requires : goal.f32_at-requires
f32_at-requires c = f32_inside _ _ c.requires
