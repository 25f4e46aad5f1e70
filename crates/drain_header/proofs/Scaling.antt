-- Digits that are cut after those that count, and shifted by powers of ten.
use Rattle.drain_header.proofs.Names.{zero, suc, ◌+◌, ◌-◌, ◌*◌, ◌^◌, ◌<◌, ◌≤◌, Bool, true, false, ◌∷◌, length, take, drop, min, arith, sym, ap, ◌∙◌, ◌&&◌, ◌==◌, nat_lt, digits_value, digits_value_after, AllDigits, Parts, tens_up, tens_down, IsScaled, ne_eqb, ltb-true, ltb-false, take-append-drop, take_min, drop_min, length-drop, pow-add, one-le-pow, mul-le-mul_right, mul-lt-mul_of_pos_right, pow-le-pow_right, digits_value-lt, value-append, after-append, drop_digits}
use Rattle.std.proofs.Common.{◌≡◌, ℕ, List, [], ◌++◌, refl, eq-eqb}
use Rattle.std.proofs.lemmas.List.{length-append}

take-append : (n : ℕ) (xs ys : List ℕ) → take n (xs ++ ys) ≡ take n xs ++ take (n - length xs) ys
take-append zero [] ys = refl
take-append (suc n) [] ys = let e : suc n - 0 ≡ suc n = omega arith in rw e refl
take-append zero (x ∷ xs) ys = let e : zero - length (x ∷ xs) ≡ zero = omega arith in rw e refl
take-append (suc n) (x ∷ xs) ys = let e : suc n - length (x ∷ xs) ≡ n - length xs = omega arith in rw e (ap (λ zs. x ∷ zs) (take-append n xs ys))

drop-append : (n : ℕ) (xs ys : List ℕ) → drop n (xs ++ ys) ≡ drop n xs ++ drop (n - length xs) ys
drop-append zero [] ys = refl
drop-append (suc n) [] ys = let e : suc n - 0 ≡ suc n = omega arith in rw e refl
drop-append zero (x ∷ xs) ys = let e : zero - length (x ∷ xs) ≡ zero = omega arith in rw e refl
drop-append (suc n) (x ∷ xs) ys = let e : suc n - length (x ∷ xs) ≡ n - length xs = omega arith in rw e (drop-append n xs ys)

-- a cut in a joined list is a cut in each part
pub take_parts : (whole fraction : List ℕ) (kept kw kf : ℕ) → kw ≡ min kept (length whole) → kf ≡ kept - kw → take kw whole ++ take kf fraction ≡ take kept (whole ++ fraction)
take_parts whole fraction kept kw kf is rest =
    let e : kf ≡ kept - length whole = omega arith in
    sym (take-append kept whole fraction ∙ rw (is, e, take_min) refl)

pub drop_parts : (whole fraction : List ℕ) (kept kw kf : ℕ) → kw ≡ min kept (length whole) → kf ≡ kept - kw → drop kw whole ++ drop kf fraction ≡ drop kept (whole ++ fraction)
drop_parts whole fraction kept kw kf is rest =
    let e : kf ≡ kept - length whole = omega arith in
    sym (drop-append kept whole fraction ∙ rw (is, e, drop_min) refl)

-- the last j digits are cut off, or all where there are fewer
pub cut : (ds : List ℕ) (j : ℕ) → AllDigits 10 ds
    → (digits_value 10 ds ≡ digits_value 10 (take (length ds - j) ds) * 10 ^ j + digits_value 10 (drop (length ds - j) ds)) × (digits_value 10 (drop (length ds - j) ds) < 10 ^ j)
cut ds j h = elim (nat_lt (length ds) j) as (λ b. nat_lt (length ds) j ≡ b → (digits_value 10 ds ≡ digits_value 10 (take (length ds - j) ds) * 10 ^ j + digits_value 10 (drop (length ds - j) ds)) × (digits_value 10 (drop (length ds - j) ds) < 10 ^ j)) [
  | true ↦ λ t. (
      let fewer = ltb-true _ _ t in
      let none : length ds - j ≡ 0 = omega arith in
      rw none (omega arith, omega (arith, digits_value-lt 10 ds h, pow-le-pow_right {n = 10} (omega arith) {i = length ds} {j = j} (omega arith))))
  | false ↦ λ t. (
      let more = ltb-false _ _ t in
      let k = length ds - j in
      let long : length (drop k ds) ≡ j = omega (arith, length-drop k ds) in
      let parts = ap (digits_value 10) (sym (take-append-drop k ds)) ∙ value-append (take k ds) (drop k ds) in
      (rw long at parts, rw long at (digits_value-lt 10 (drop k ds) (drop_digits k ds h))))
] refl

-- the number in units, from the digits that count
pub raised : (d v r up down : ℕ) → d ≡ v * 10 ^ (down - up) + r → r < 10 ^ (down - up) → (d * 10 ^ up ≡ v * 10 ^ (up - down) * 10 ^ down + r * 10 ^ up) × (r * 10 ^ up < 10 ^ down)
raised d v r up down parts below = elim (nat_lt up down) as (λ b. nat_lt up down ≡ b → (d * 10 ^ up ≡ v * 10 ^ (up - down) * 10 ^ down + r * 10 ^ up) × (r * 10 ^ up < 10 ^ down)) [
  | true ↦ λ t. (
      let less = ltb-true _ _ t in
      let none : up - down ≡ 0 = omega arith in
      let sum : down ≡ (down - up) + up = omega arith in
      let tens : 10 ^ down ≡ 10 ^ (down - up) * 10 ^ up = ap (λ (n : ℕ). 10 ^ n) sum ∙ pow-add 10 (down - up) up in
      let some = one-le-pow up 10 (omega arith) in
      rw none (
        omega (arith, ap (λ (x : ℕ). x * 10 ^ up) parts, ap (λ (x : ℕ). v * x) tens),
        omega (arith, tens, mul-lt-mul_of_pos_right {k = 10 ^ up} below (omega arith)),
      ))
  | false ↦ λ t. (
      let more = ltb-false _ _ t in
      let none : down - up ≡ 0 = omega arith in
      let sum : up ≡ (up - down) + down = omega arith in
      let tens : 10 ^ up ≡ 10 ^ (up - down) * 10 ^ down = ap (λ (n : ℕ). 10 ^ n) sum ∙ pow-add 10 (up - down) down in
      let small = rw none at below in
      let nought : r ≡ 0 = omega arith in
      let same = rw none at parts in
      let some = one-le-pow down 10 (omega arith) in
      let all : d ≡ v = omega arith in
      rw (nought, all) (omega (arith, ap (λ (x : ℕ). v * x) tens), omega arith))
] refl

-- a rest is zero exactly where both its parts are
pub no_rest : (a b r n up : ℕ) → r ≡ a * 10 ^ n + b → ((a == 0) && (b == 0)) ≡ (r * 10 ^ up == 0)
no_rest zero zero r n up is = let e : r ≡ 0 = omega arith in sym (eq-eqb (r * 10 ^ up) 0 (rw e (omega arith)))
no_rest zero (suc b) r n up is =
    let some = one-le-pow up 10 (omega arith) in
    let e : 1 ≤ r = omega arith in
    let f = mul-le-mul_right (10 ^ up) e in
    ne_eqb (suc b) 0 (λ h. absurd (omega arith)) ∙ sym (ne_eqb (r * 10 ^ up) 0 (λ h. absurd (omega arith)))
no_rest (suc a) b r n up is =
    let tens = one-le-pow n 10 (omega arith) in
    let some = one-le-pow up 10 (omega arith) in
    let e : 1 ≤ r = (let g = mul-le-mul_right {m = 1} {n = suc a} (10 ^ n) (omega arith) in omega arith) in
    let f = mul-le-mul_right (10 ^ up) e in
    ap (λ t. t && (b == 0)) (ne_eqb (suc a) 0 (λ h. absurd (omega arith))) ∙ sym (ne_eqb (r * 10 ^ up) 0 (λ h. absurd (omega arith)))

-- what the digits that count and those after them say of a decimal
pub scaled : (parts : Parts) (places up down kept kw kf told : ℕ) (ex : Bool) → AllDigits 10 (parts.whole ++ parts.fraction)
    → up ≡ tens_up parts + places → down ≡ tens_down parts
    → kept ≡ (length parts.whole + length parts.fraction) - (down - up) → kw ≡ min kept (length parts.whole) → kf ≡ kept - kw
    → told ≡ min (digits_value_after 10 (digits_value_after 10 0 (take kw parts.whole)) (take kf parts.fraction) * 10 ^ (up - down)) (2 ^ 128 - 1)
    → ex ≡ ((digits_value 10 (drop kw parts.whole) == 0) && (digits_value 10 (drop kf parts.fraction) == 0))
    → IsScaled parts places told ex
scaled parts places up down kept kw kf told ex digits up_is down_is kept_is kw_is kf_is told_is ex_is =
    let ds = parts.whole ++ parts.fraction in
    let v = digits_value 10 (take kept ds) in
    let r = digits_value 10 (drop kept ds) in
    let k : kept ≡ length ds - (down - up) = omega (arith, length-append parts.whole parts.fraction) in
    let halves = rw (← k) at (cut ds (down - up) digits) in
    let both = raised (digits_value 10 ds) v r up down halves.0 halves.1 in
    let front : digits_value_after 10 (digits_value_after 10 0 (take kw parts.whole)) (take kf parts.fraction) ≡ v =
    sym (after-append 0 (take kw parts.whole) (take kf parts.fraction)) ∙ ap (digits_value 10) (take_parts parts.whole parts.fraction kept kw kf kw_is kf_is) in
    let back = ap (digits_value 10) (sym (drop_parts parts.whole parts.fraction kept kw kf kw_is kf_is)) ∙ value-append (drop kw parts.whole) (drop kf parts.fraction) in
    let tens : 10 ^ up ≡ 10 ^ tens_up parts * 10 ^ places = ap (λ (n : ℕ). 10 ^ n) up_is ∙ pow-add 10 (tens_up parts) places in
    let lowered : 10 ^ down ≡ 10 ^ tens_down parts = ap (λ (n : ℕ). 10 ^ n) down_is in
    record {
      units = v * 10 ^ (up - down);
      rest = r * 10 ^ up;
      told_is = told_is ∙ ap (λ (x : ℕ). min (x * 10 ^ (up - down)) (2 ^ 128 - 1)) front;
      exact_is = ex_is ∙ no_rest _ _ r _ up back;
      sum = sum_of (digits_value 10 ds) (10 ^ tens_up parts) (10 ^ places) (10 ^ up) tens ∙ both.0 ∙ ap (λ (x : ℕ). v * 10 ^ (up - down) * x + r * 10 ^ up) lowered;
      below = rw lowered at both.1;
    }
  where
    sum_of : (d a b c : ℕ) → c ≡ a * b → d * a * b ≡ d * c
    sum_of d a b c e = rw e (omega arith)
