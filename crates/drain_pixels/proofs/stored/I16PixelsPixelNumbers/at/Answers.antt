use Rattle.drain_pixels.proofs.StoredLemmas.{i16_inside}
use Rattle.drain_pixels.proofs.stored.I16PixelsPixelNumbers.at.Goals as goal

pub i16_at-requires : goal.i16_at-requires
i16_at-requires c = i16_inside _ _ c.requires
