use Rattle.std.proofs.Common.{arith}
use Rattle.drain_merge.proofs.JudgedEdges.{some_judged}
use Rattle.drain_merge.proofs.edges.judges_some.Goals as goal

pub returns-then-top_of-bottom_of : goal.returns-then-top_of-bottom_of
returns-then-top_of-bottom_of c =
    some_judged c.args.place.now c.left_of.result c.right_of.result c.left_of.ensures c.right_of.ensures
    (omega (arith, c.top_of.ensures, c.bottom_of.ensures, c.if-top_of-bottom_of.true))
