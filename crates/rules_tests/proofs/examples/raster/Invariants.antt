use Rattle.std.proofs.Common.{All}
use Rattle.drain_grid.specs.Values.{IsPixel}
use Rattle.rules_tests.proofs.examples.raster.Given as goal

-- the numbers that were taken are pixels
abbrev pub invariant-loop-number : goal.invariant-loop-number
invariant-loop-number l = All IsPixel l.pixels.items
