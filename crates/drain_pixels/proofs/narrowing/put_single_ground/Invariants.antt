use Rattle.drain_pixels.proofs.Names.{◌≡◌, length, single_voids, AreGroundLanes}
use Rattle.drain_pixels.proofs.narrowing.put_single_ground.Given as goal

-- the lanes that were passed are there
abbrev pub invariant-loop-k : goal.invariant-loop-k
invariant-loop-k g l = record {
  len : length l.out ≡ length (g.N.PixelNumbers.numbers l.numbers);
  lanes : AreGroundLanes 2147483648 (single_voids l.void) (g.N.PixelNumbers.numbers l.numbers) l.out l.k;
}
