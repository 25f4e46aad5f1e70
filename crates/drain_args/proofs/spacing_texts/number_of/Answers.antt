use Rattle.drain_args.proofs.Names.{◌≡◌, ◌<◌, ◌^◌, get_or, length, arith, sym, ap, ◌∙◌, digits_value, digit_at, pow-le-pow_right}
use Rattle.std.proofs.lemmas.Int.Digits.{digits_value-lt, digits_value_more}
use Rattle.std.proofs.lemmas.List.{take_all}
use Rattle.std.proofs.lemmas.Str.{digit_value_digit}
use Rattle.drain_args.proofs.Decimals.{all_ascii, all_digits}
use Rattle.drain_args.proofs.spacing_texts.number_of.Goals as goal
use Rattle.drain_args.proofs.spacing_texts.number_of.Goals.{then-word-gt-MAX_DIGITS-via-then-word-gt-MAX_DIGITS, then-word-gt-MAX_DIGITS-via-else-word-gt-MAX_DIGITS+then-not-are_digits}

pub returns-then-word-gt-MAX_DIGITS : goal.returns-then-word-gt-MAX_DIGITS
returns-then-word-gt-MAX_DIGITS c few = elim c.then-word-gt-MAX_DIGITS.branch [
  | then-word-gt-MAX_DIGITS-via-then-word-gt-MAX_DIGITS w ↦ absurd (omega (arith, few.few, w.if-word-gt-MAX_DIGITS.true))
  | then-word-gt-MAX_DIGITS-via-else-word-gt-MAX_DIGITS+then-not-are_digits w ↦ (
      let all = all_ascii c.args.word.now few.digits in
      let none = sym w.are_digits.ensures ∙ w.if-not-are_digits.true in
      cc)
]

pub overflow_sub-byte : goal.overflow_sub-byte
overflow_sub-byte c = (digit_at c.args.word.now c.loop-byte.byte-index (all_digits c.args.word.now c.loop-byte.invariant.0) c.loop-byte-test.true).0

pub loop-byte-preserved : goal.loop-byte-preserved
loop-byte-preserved c =
    let word = c.args.word.now in
    let i = c.loop-byte.byte-index in
    let digit = digit_at word i (all_digits word c.loop-byte.invariant.0) c.loop-byte-test.true in
    let more = digits_value_more 10 word i c.loop-byte-test.true in
    (c.loop-byte.invariant.0, omega (arith, c.loop-byte.invariant.1, more, digit_value_digit (get_or word i 0) digit, c.saturating_mul.ensures, c.saturating_add-value.ensures))

pub returns : goal.returns
returns c =
    let word = c.args.word.now in
    let digits = all_digits word c.loop-byte.invariant.0 in
    let few = c.if-word-gt-MAX_DIGITS.false in
    let low : digits_value 10 word < 10 ^ 18 = omega (arith, digits_value-lt 10 word digits, pow-le-pow_right {n = 10} (omega arith) {i = length word} {j = 18} few) in
    let all = ap (digits_value 10) (take_all c.loop-byte.byte-index word c.loop-byte-test.false) in
    let value : c.loop-byte.value ≡ digits_value 10 word = omega (arith, c.loop-byte.invariant.1, all, low) in
    (record { digits = digits; few = few }, value, omega (arith, value, low))
