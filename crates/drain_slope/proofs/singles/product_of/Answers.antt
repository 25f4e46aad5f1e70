use Rattle.std.proofs.Common.{◌^◌, refl, arith}
use Rattle.drain_slope.proofs.Products.{of_machine}
use Rattle.drain_slope.proofs.singles.product_of.Goals as goal

pub returns-clause-low : goal.returns-clause-low
returns-clause-low c =
    (of_machine _ c.args.a c.args.b (2 ^ 24) (2 ^ 24) (record { low = c.requires.low_a; high = c.requires.high_a })
    (record { low = c.requires.low_b; high = c.requires.high_b }) (omega arith) c.ranges.a c.ranges.b refl).1.low

pub returns-clause-high : goal.returns-clause-high
returns-clause-high c =
    (of_machine _ c.args.a c.args.b (2 ^ 24) (2 ^ 24) (record { low = c.requires.low_a; high = c.requires.high_a })
    (record { low = c.requires.low_b; high = c.requires.high_b }) (omega arith) c.ranges.a c.ranges.b refl).1.high
