use Rattle.std.proofs.Common.{map, sym, ap, ◌∙◌}
use Rattle.drain_grid.proofs.LineRuns.{cells_of_numbered}
use Rattle.drain_grid.proofs.numbered_cells.NumberedCells.cells.Goals as goal

pub returns : goal.returns
returns c = c.deref.ensures.value ∙ sym (cells_of_numbered 0 c.self.inside.runs.items c.self.inside.cells.items) ∙ ap (map (λ s. s.cell)) c.self.view_is
