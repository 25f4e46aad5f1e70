use Rattle.std.proofs.Common.{◌≡◌, ◌+◌, ◌∙◌, ap}
use Rattle.drain_flood.proofs.GapMarks.{marks_above}
use Rattle.drain_flood.proofs.open_cells.RowMarks.new.Goals as goal

pub returns-clause-above : goal.returns-clause-above
returns-clause-above c =
    let cols : c.cols.result ≡ c.args.elevation.now.extent.cols = c.cols.ensures ∙ ap (λ e. e.cols) c.shape.ensures in
    marks_above c.args.elevation.now c.in_ok-gaps-2.field-0.items (c.in_ok-gaps-2.ensures.counted ∙ ap (λ n. n + 2) cols) c.in_ok-gaps-2.ensures.gaps
