use Rattle.drain_header.proofs.Names.{arith, digits_value-lt, pow-le-pow_right}
use Rattle.drain_header.proofs.decimal.power.Goals as goal

pub overflow_cast-result : goal.overflow_cast-result
overflow_cast-result c = omega (arith, c.append_digits.ensures 0 (omega arith), digits_value-lt 10 c.args.exponent.now c.requires.digits, pow-le-pow_right {n = 10} (omega arith) c.requires.short)

pub returns-clause-value : goal.returns-clause-value
returns-clause-value c = omega (arith, c.append_digits.ensures 0 (omega arith), digits_value-lt 10 c.args.exponent.now c.requires.digits, pow-le-pow_right {n = 10} (omega arith) c.requires.short)

pub returns-clause-small : goal.returns-clause-small
returns-clause-small c = omega (arith, c.append_digits.ensures 0 (omega arith), digits_value-lt 10 c.args.exponent.now c.requires.digits, pow-le-pow_right {n = 10} (omega arith) c.requires.short)
