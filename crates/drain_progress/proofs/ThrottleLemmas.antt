-- How many lines come in one second, by induction over the times of the tests: none after a line that comes in or after
-- it.
use Rattle.std.proofs.Common.{◌≡◌, ℕ, ◌+◌, ◌≤◌, ◌<◌, Bool, true, false, not, cond, List, [], ◌∷◌, refl, ap, arith}
use Rattle.std.specs.Prelude.{nat_lt}
use Rattle.std.specs.List.{count_by}
use Rattle.std.proofs.lemmas.Bool.{ltb-true, ltb-false, lt-ltb, le-ltb, and_left, and_right}
use Rattle.std.proofs.lemmas.List.Sums.{sum_by-cons, sum_by-append}
use Rattle.drain_progress.specs.Progress.{line_times, is_in_second, AtMostOneLineInASecond, AtMostTwoLinesInASecond}
use Rattle.drain_progress.specs.declared.throttle.TheConstants.{APART}

-- 1 for a line in the second, else 0
one_line : ℕ → ℕ → ℕ
one_line start time = cond (is_in_second start time) 1 0

lines_in : ℕ → List ℕ → ℕ
lines_in start times = count_by (is_in_second start) times

lines_in-cons : (start time : ℕ) (times : List ℕ) → lines_in start (time ∷ times) ≡ one_line start time + lines_in start times
unfolding one_line lines_in
lines_in-cons start time times = sum_by-cons (λ t. cond (is_in_second start t) 1 0) time times

one_line-behind : (start time : ℕ) → start + 1000 ≤ time → one_line start time ≡ 0
unfolding one_line
one_line-behind start time late =
    ap (λ b. cond b 1 0) (and_right (not (nat_lt time start)) (nat_lt time (start + 1000)) (le-ltb time (start + 1000) late))

one_line-before : (start time : ℕ) → time < start → one_line start time ≡ 0
unfolding one_line
one_line-before start time early =
    ap (λ b. cond b 1 0) (and_left (not (nat_lt time start)) (nat_lt time (start + 1000)) (ap not (lt-ltb time start early)))

one_line-fits : (start time : ℕ) → one_line start time ≤ 1
unfolding one_line
one_line-fits start time = fits (is_in_second start time)
  where
    fits : (b : Bool) → cond b 1 0 ≤ 1
    fits true = omega arith
    fits false = omega arith

none_later : (start last : ℕ) (times : List ℕ) → start ≤ last → lines_in start (line_times last times) ≡ 0
unfolding lines_in
none_later start last [] since = refl
none_later start last (now ∷ later) since =
    by_due (nat_lt now (last + APART)) refl (λ h. none_later start now later h) (none_later start last later since)
  where
    by_due : (early : Bool) → nat_lt now (last + APART) ≡ early → (start ≤ now → lines_in start (line_times now later) ≡ 0) →
        lines_in start (line_times last later) ≡ 0 →
        lines_in start (cond early (line_times last later) (now ∷ line_times now later)) ≡ 0
    by_due true is told untold = untold
    by_due false is told untold =
        let late : last + APART ≤ now = ltb-false now (last + APART) is in
        let rest : lines_in start (line_times now later) ≡ 0 = told (omega (arith, late, since)) in
        let here : one_line start now ≡ 0 = one_line-behind start now (omega (arith, late, since)) in
        omega (arith, lines_in-cons start now (line_times now later), here, rest)

-- a line, and later ones
with_first : (start now : ℕ) (times : List ℕ) → (start ≤ now → lines_in start times ≡ 0) → lines_in start times ≤ 1 → lines_in start (now ∷ times) ≤ 1
with_first start now times since fits = by_place (nat_lt now start) refl
  where
    by_place : (early : Bool) → nat_lt now start ≡ early → lines_in start (now ∷ times) ≤ 1
    by_place true is = omega (arith, lines_in-cons start now times, one_line-before start now (ltb-true now start is), fits)
    by_place false is = omega (arith, lines_in-cons start now times, one_line-fits start now, since (ltb-false now start is))

one_due : (last : ℕ) (times : List ℕ) (start : ℕ) → lines_in start (line_times last times) ≤ 1
unfolding lines_in
one_due last [] start = omega arith
one_due last (now ∷ later) start = by_due (nat_lt now (last + APART)) (one_due now later start) (one_due last later start)
  where
    by_due : (early : Bool) → lines_in start (line_times now later) ≤ 1 → lines_in start (line_times last later) ≤ 1 →
        lines_in start (cond early (line_times last later) (now ∷ line_times now later)) ≤ 1
    by_due true told untold = untold
    by_due false told untold = with_first start now (line_times now later) (none_later start now later) told

pub one_when_due : AtMostOneLineInASecond
unfolding lines_in
one_when_due last times start = one_due last times start

pub two_with_one_more : AtMostTwoLinesInASecond
unfolding lines_in
two_with_one_more last before now after start =
    let behind : lines_in start (now ∷ line_times now after) ≤ 1 = with_first start now (line_times now after) (none_later start now after) (one_due now after start) in
    omega (arith, sum_by-append (λ t. cond (is_in_second start t) 1 0) (line_times last before) (now ∷ line_times now after), one_due last before start, behind)
