use Rattle.std.proofs.Common.{arith, sym, ◌∙◌, get_or}
use Rattle.std.proofs.lemmas.Int.Digits.{digits_value_more}
use Rattle.drain_text.proofs.Digits.{digit_worth, all_digits_more}
use Rattle.drain_text.proofs.numbers.whole_number.Goals as goal

pub loop-byte-preserved : goal.loop-byte-preserved
loop-byte-preserved c =
    let word = c.args.word.now in
    let i = c.loop-byte.byte-index in
    let digit = sym c.is_ascii_digit.ensures.value ∙ c.if-not-is_ascii_digit.false in
    let worth = digit_worth (get_or word i 0) digit in
    let more = digits_value_more 10 word i c.loop-byte-test.true in
    (c.loop-byte.invariant.0 ∙ all_digits_more word i c.loop-byte-test.true digit, omega (arith, c.saturating_mul.ensures, c.loop-byte.invariant.1))
