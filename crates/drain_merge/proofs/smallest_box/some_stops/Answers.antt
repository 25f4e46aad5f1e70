use Rattle.std.proofs.Common.{refl, sym}
use Rattle.drain_merge.proofs.smallest_box.some_stops.Goals as goal

pub returns-then-stops : goal.returns-then-stops
returns-then-stops c = (
  (λ yes. (c.window-item.result, (c.loop-window.window-index, c.loop-window-test.true, sym c.window-item.is), c.stops.ensures.0 c.if-stops.true)),
  (λ some. refl),
)
