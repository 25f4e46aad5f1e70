use Rattle.drain_pixels.proofs.Names.{◌≡◌, IsTrue, length, whole_voids, AreGroundLanes}
use Rattle.drain_pixels.proofs.narrowing.put_wide_ground.Given as goal

-- the lanes that were passed are there, if none was found that doesn't fit
abbrev pub invariant-loop-k : goal.invariant-loop-k
invariant-loop-k g l = record {
  len : length l.out ≡ length (g.N.PixelNumbers.numbers l.numbers);
  lanes : IsTrue l.all → AreGroundLanes 2147483648 (whole_voids l.void) (g.N.PixelNumbers.numbers l.numbers) l.out l.k;
}
