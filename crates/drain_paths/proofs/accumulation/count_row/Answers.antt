use Rattle.std.proofs.Common.{◌≡◌, ◌∙◌, ◌+◌, length, arith}
use Rattle.drain_paths.proofs.InflowLemmas.{row_inflow}
use Rattle.drain_paths.proofs.accumulation.count_row.Goals as goal

pub returns-clause-row : goal.returns-clause-row
returns-clause-row t c = λ g ps are cell inside at.
    (let col = inside.col in
    let long : length c.lay_row-2.new.codes ≡ c.args.shape.cols + 2 = c.lay_row-2.ensures.len ∙ c.requires.here_len in
    row_inflow g ps c.args.shape (t.O.Onward.flows c.args.onward.now) are cell c.args.row c.row_start.result c.lay_row.new.codes c.lay_row-2.new.codes c.lay_row-3.new.codes
    c.put_inflows.new.waits inside at c.lay_row.ensures.codes c.lay_row-2.ensures.codes c.lay_row-3.ensures.codes c.row_start.ensures.place
    (c.put_inflows.ensures.row cell.col (omega (arith, col, long))))
