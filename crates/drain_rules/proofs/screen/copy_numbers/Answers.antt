use Rattle.std.proofs.Common.{arith, ◌∙◌}
use Rattle.drain_rules.proofs.RowPatches.{part_is}
use Rattle.drain_rules.proofs.screen.copy_numbers.Goals as goal

pub returns : goal.returns
returns g c = part_is _ c.loop-col.out c.args.first c.args.end c.requires.ordered c.requires.inside (c.loop-col.invariant.long ∙ c.requires.room)
    (λ k less. c.loop-col.invariant.same k (omega (arith, less, c.loop-col-test.false)))
