use Rattle.drain_slope.proofs.Names.{arith, ints}
use Rattle.drain_slope.proofs.terms.level.Goals as goal

pub returns-clause-low : goal.returns-clause-low
returns-clause-low c =
    omega (
      arith,
      ints,
      c.number_at.ensures,
      c.number_at-2.ensures,
      c.number_at-3.ensures,
      c.number_at-4.ensures,
      c.number_at-5.ensures,
      c.plus-last.ensures,
      c.plus-more.ensures,
      c.plus.ensures,
      c.plus-2.ensures,
    )

pub returns-clause-high : goal.returns-clause-high
returns-clause-high c =
    omega (
      arith,
      ints,
      c.number_at.ensures,
      c.number_at-2.ensures,
      c.number_at-3.ensures,
      c.number_at-4.ensures,
      c.number_at-5.ensures,
      c.plus-last.ensures,
      c.plus-more.ensures,
      c.plus.ensures,
      c.plus-2.ensures,
    )
