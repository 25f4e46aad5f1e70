use Rattle.std.proofs.Common.{length, ap, arith}
use Rattle.drain_grid.proofs.LineRuns.{length-numbered}
use Rattle.drain_grid.proofs.numbered_cells.NumberedCells.len.Goals as goal

pub returns : goal.returns
returns c =
    let long = length-numbered 0 c.self.inside.runs.items c.self.inside.cells.items in
    let same = ap length c.self.view_is in
    omega (arith, long, same, c.len.ensures)
