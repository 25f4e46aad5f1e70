use Rattle.std.proofs.Common.{inl, sym}
use Rattle.drain_merge.proofs.joined_spacings.spacing_of_row.Goals as goal

pub returns-then-has_row : goal.returns-then-has_row
returns-then-has_row c =
    inl (c.window-item.result, (c.loop-window.window-index, c.loop-window-test.true, sym c.window-item.is), c.has_row.ensures.0 c.if-has_row.true, c.spacing_in.ensures)
