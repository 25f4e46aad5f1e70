use Rattle.drain_header.proofs.Names.{get_or, arith, digit_value_digit, digit_at, after_more}
use Rattle.drain_header.proofs.decimal.append_digits.Goals as goal

pub overflow_sub-digit : goal.overflow_sub-digit
overflow_sub-digit c = (digit_at c.args.digits.now c.loop-digit.digit-index c.requires c.loop-digit-test.true).0

pub loop-digit-preserved : goal.loop-digit-preserved
loop-digit-preserved c n is =
    let i = c.loop-digit.digit-index in
    let digit = digit_at c.args.digits.now i c.requires c.loop-digit-test.true in
    omega (arith, c.loop-digit.invariant n is, after_more n c.args.digits.now i c.loop-digit-test.true, digit_value_digit (get_or c.args.digits.now i 0) digit, c.saturating_mul.ensures, c.saturating_add-value.ensures)
