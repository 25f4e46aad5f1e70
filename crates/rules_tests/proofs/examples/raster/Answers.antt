use Rattle.std.proofs.Common.{refl}
use Rattle.std.proofs.lemmas.List.Elements.{All-push}
use Rattle.drain_grid.specs.Values.{IsPixel}
use Rattle.rules_tests.proofs.examples.raster.Goals as goal

pub loop-number-preserved : goal.loop-number-preserved
loop-number-preserved c =
    rw c.in_ok-push.ensures.items (All-push IsPixel c.loop-number.pixels.items _ c.loop-number.invariant (c.if-not-is_pixel.ensures.0 refl))
