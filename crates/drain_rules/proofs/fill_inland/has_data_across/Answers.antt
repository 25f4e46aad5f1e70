use Rattle.std.proofs.Common.{arith}
use Rattle.drain_rules.proofs.InlandCells.{both_true, data_across, rows_round}
use Rattle.drain_rules.proofs.fill_inland.has_data_across.Goals as goal

pub has_data-requires-3 : goal.has_data-requires-3
has_data-requires-3 c =
    let side = c.args.input.now.shape.rows in
    let rows = rows_round side c.args.row c.args.col (omega (arith, c.if-row-eq0.false)) (omega (arith, c.requires, c.if-row-side.false, c.side-side.ensures))
    (omega (arith, c.if-side-col.false, c.side-side.ensures)) in
    omega (arith, rows.1, c.place-here.ensures.place, c.side-side.ensures)

pub returns : goal.returns
returns c = λ passed.
    let side = c.args.input.now.shape.rows in
    let two = both_true _ _ passed in
    let one = both_true _ _ two.0 in
    data_across side c.args.input.now.bytes.now c.args.row c.args.col c.place-here.result c.place-here.ensures.place
    (omega (arith, c.if-row-eq0.false)) (omega (arith, c.requires, c.if-row-side.false, c.side-side.ensures))
    (omega (arith, c.if-side-col.false, c.side-side.ensures))
    (rw c.side-side.ensures at (c.has_data.ensures.0 one.0)) (c.has_data-2.ensures.0 one.1) (rw c.side-side.ensures at (c.has_data-3.ensures.0 two.1))
