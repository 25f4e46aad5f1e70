use Rattle.std.proofs.Common.{◌^◌, refl, arith}
use Rattle.drain_slope.proofs.Products.{of_machine}
use Rattle.drain_slope.proofs.singles.scaled.Goals as goal

pub returns-clause-value : goal.returns-clause-value
returns-clause-value c =
    (of_machine _ c.args.a c.args.factor (2 ^ 48) (2 ^ 62) (record { low = c.requires.low_a; high = c.requires.high_a })
    (record { low = c.requires.low; high = c.requires.high }) (omega arith) c.ranges.a c.ranges.factor refl).0

pub returns-clause-low : goal.returns-clause-low
returns-clause-low c =
    (of_machine _ c.args.a c.args.factor (2 ^ 48) (2 ^ 62) (record { low = c.requires.low_a; high = c.requires.high_a })
    (record { low = c.requires.low; high = c.requires.high }) (omega arith) c.ranges.a c.ranges.factor refl).1.low

pub returns-clause-high : goal.returns-clause-high
returns-clause-high c =
    (of_machine _ c.args.a c.args.factor (2 ^ 48) (2 ^ 62) (record { low = c.requires.low_a; high = c.requires.high_a })
    (record { low = c.requires.low; high = c.requires.high }) (omega arith) c.ranges.a c.ranges.factor refl).1.high
