use Rattle.drain_header.proofs.Names.{◌+◌, take, get_or, arith, sym, ap, ◌∙◌, ne_eqb, digits_value, digit_value_digit, digit_at, digits_value-take-le, digits_value_more, take_all}
use Rattle.std.proofs.Common.{◌≡◌, eq-eqb}
use Rattle.drain_header.proofs.decimal.are_noughts.Goals as goal

pub loop-digit-preserved : goal.loop-digit-preserved
loop-digit-preserved c =
    let ds = c.args.digits.now in
    let i = c.loop-digit.digit-index in
    let before : digits_value 10 (take i ds) ≡ 0 = c.loop-digit.invariant in
    let digit = digit_at ds i c.requires c.loop-digit-test.true in
    digits_value_more 10 ds i c.loop-digit-test.true ∙ omega (arith, digit_value_digit (get_or ds i 0) digit)

pub returns-then-digit-ne48 : goal.returns-then-digit-ne48
returns-then-digit-ne48 c =
    let ds = c.args.digits.now in
    let i = c.loop-digit.digit-index in
    let digit = digit_at ds i c.requires c.loop-digit-test.true in
    sym (ne_eqb (digits_value 10 ds) 0 (λ e. absurd (omega (arith, digits_value_more 10 ds i c.loop-digit-test.true, digit_value_digit (get_or ds i 0) digit, digits_value-take-le 10 ds (i + 1) (omega arith)))))

pub returns : goal.returns
returns c =
    let ds = c.args.digits.now in
    let before : digits_value 10 (take c.loop-digit.digit-index ds) ≡ 0 = c.loop-digit.invariant in
    let all = ap (digits_value 10) (take_all c.loop-digit.digit-index ds c.loop-digit-test.false) in
    sym (eq-eqb (digits_value 10 ds) 0 (sym all ∙ before))
