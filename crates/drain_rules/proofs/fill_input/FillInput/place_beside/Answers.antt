use Rattle.std.proofs.Common.{arith}
use Rattle.drain_rules.proofs.InlandCells.{furthest}
use Rattle.drain_rules.proofs.fill_input.FillInput.place_beside.Goals as goal

pub overflow_add-result : goal.overflow_add-result
overflow_add-result c =
    let most = furthest c.args.self.now.shape.rows c.args.direction in
    omega (arith, most, c.way.ensures, c.requires.after, c.side.ensures)

pub returns-clause-inside : goal.returns-clause-inside
returns-clause-inside c =
    let most = furthest c.args.self.now.shape.rows c.args.direction in
    omega (arith, most, c.way.ensures, c.requires.before, c.requires.after, c.side.ensures)
