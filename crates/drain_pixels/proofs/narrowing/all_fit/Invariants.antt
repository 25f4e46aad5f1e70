use Rattle.drain_pixels.proofs.Names.{IsTrue, map, AllFitAt}
use Rattle.drain_pixels.proofs.narrowing.all_fit.Given as goal

-- all fit that were passed, except at voids, if none was found that doesn't
abbrev pub invariant-loop-k : goal.invariant-loop-k
invariant-loop-k g l = (IsTrue l.all → AllFitAt g.W.Fits.fits (map g.Z.ElevationLane.number l.z) (g.N.PixelNumbers.numbers l.numbers) l.k)
