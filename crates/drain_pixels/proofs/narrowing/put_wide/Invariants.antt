use Rattle.drain_pixels.proofs.Names.{◌≡◌, IsTrue, length, AllFit, HoldFitting}
use Rattle.drain_pixels.proofs.narrowing.put_wide.Given as goal

-- the lanes that were passed are there, and all fit if none was found that doesn't
abbrev pub invariant-loop-k : goal.invariant-loop-k
invariant-loop-k g l = record {
  len : length l.out ≡ length (g.N.PixelNumbers.numbers l.numbers);
  lanes : HoldFitting g.W.Fits.fits g.W.Wide.lane (g.N.PixelNumbers.numbers l.numbers) l.out l.k;
  fit : IsTrue l.all → AllFit g.W.Fits.fits (g.N.PixelNumbers.numbers l.numbers) l.k;
}
