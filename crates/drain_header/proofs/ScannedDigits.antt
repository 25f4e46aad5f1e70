-- The parts of a scanned decimal are of digits.
use Rattle.drain_header.proofs.Names.{true, false, length, arith, sym, Bool, ap, ◌+◌, ◌≤◌, drop, cond, slice_range, slice_index, ◌==◌, if◌then◌else◌, AllDigits, Parts, digits_end, exponent_start, has_exponent, dot, parts_of, IsOfDigits, counted_digits, append_digits}
use Rattle.std.proofs.Common.{◌≡◌, ℕ, List, []}
use Rattle.std.specs.Float.Numeral.{scan_numeral}
use Rattle.drain_header.specs.declared.numeral.Numeral.{Numeral}

run : (bs : List ℕ) (i : ℕ) → AllDigits 10 (slice_range bs i (digits_end bs i))
run bs i = counted_digits (drop i bs) _ (omega arith)

-- where an exponent would begin
abbrev mantissa_end : List ℕ → ℕ
mantissa_end bs = if slice_index bs (digits_end bs 0) == dot then digits_end bs (digits_end bs 0 + 1) else digits_end bs 0

maybe : (b : Bool) (xs : List ℕ) → AllDigits 10 xs → AllDigits 10 (cond b xs [])
maybe true xs h = h
maybe false xs h = tt

fraction_run : (bs : List ℕ) (a : ℕ) (b : Bool) → AllDigits 10 (cond b (slice_range bs (a + 1) (cond b (digits_end bs (a + 1)) a)) [])
fraction_run bs a true = run bs (a + 1)
fraction_run bs a false = tt

whole_digits : (bs : List ℕ) → AllDigits 10 (scan_numeral bs).whole
unfolding scan_numeral
whole_digits bs = run bs 0

fraction_digits : (bs : List ℕ) → AllDigits 10 (scan_numeral bs).fraction
unfolding scan_numeral
fraction_digits bs = fraction_run bs (digits_end bs 0) (slice_index bs (digits_end bs 0) == dot)

exponent_digits : (bs : List ℕ) → AllDigits 10 (scan_numeral bs).exponent
unfolding scan_numeral
exponent_digits bs =
    let c = exponent_start bs (mantissa_end bs) in
    maybe (has_exponent bs (mantissa_end bs)) (slice_range bs c (digits_end bs c)) (run bs c)

pub scanned_digits : (n : Numeral) (bs : List ℕ) → parts_of n ≡ scan_numeral bs → length n.exponent.now ≤ 3 → IsOfDigits n
scanned_digits n bs is short = record {
  mantissa = append_digits _ _ (rw (sym (ap (λ (p : Parts). p.whole) is)) at (whole_digits bs)) (rw (sym (ap (λ (p : Parts). p.fraction) is)) at (fraction_digits bs));
  exponent = rw (sym (ap (λ (p : Parts). p.exponent) is)) at (exponent_digits bs);
  short = short;
}
