-- The least and the greatest of some numbers, one number more at a time.
use Rattle.drain_mosaic.proofs.Names.{◌≡◌, ℕ, ◌+◌, ◌<◌, ◌≤◌, ℤ, pos, negsuc, nat_abs, ◌+ℤ◌, ◌-ℤ◌, of_z, to_z, SFits, List, length, get_or, take, map, fold, zero, suc, [], ◌∷◌, ◌*◌, ◌-◌, ◌≤ℤ◌, w16, arith, sym, ap, ◌∙◌, int_min, int_max, ints, clamps, get_or-map, mul-le-mul_right, Corner, IsWithin}
use Rattle.std.proofs.lemmas.List.Sums.{fold_more}

-- what the code has of a corner is the number in the corner's place
pub step_is : (get : Corner → ℤ) (names : List Corner) (i : ℕ) (name : Corner) (x : ℤ) → name ≡ get_or names i name → i < length names → x ≡ get name → x ≡ get_or (map get names) i (pos 0)
step_is get names i name x item inside is = is ∙ ap get item ∙ sym (get_or-map get names i name (pos 0) inside)

pub least_step : (xs : List ℤ) (i : ℕ) (a m x r : ℤ) → i < length xs → x ≡ get_or xs i (pos 0) → r ≡ int_min m x → m ≡ fold int_min a (take i xs) → r ≡ fold int_min a (take (i + 1) xs)
least_step xs i a m x r inside is min so_far = min ∙ ap (λ y. int_min y x) so_far ∙ ap (int_min (fold int_min a (take i xs))) is ∙ sym (fold_more int_min a xs i (pos 0) inside)

pub greatest_step : (xs : List ℤ) (i : ℕ) (a m x r : ℤ) → i < length xs → x ≡ get_or xs i (pos 0) → r ≡ int_max m x → m ≡ fold int_max a (take i xs) → r ≡ fold int_max a (take (i + 1) xs)
greatest_step xs i a m x r inside is max so_far = max ∙ ap (λ y. int_max y x) so_far ∙ ap (int_max (fold int_max a (take i xs))) is ∙ sym (fold_more int_max a xs i (pos 0) inside)

pub within_least : (limit : ℕ) (m x r : ℤ) → IsWithin limit m → IsWithin limit x → r ≡ int_min m x → IsWithin limit r
within_least limit m x r h k e = record { low = omega (arith, ints, clamps, e, h.low, k.low); high = omega (arith, ints, clamps, e, h.high, k.high) }

pub within_greatest : (limit : ℕ) (m x r : ℤ) → IsWithin limit m → IsWithin limit x → r ≡ int_max m x → IsWithin limit r
within_greatest limit m x r h k e = record { low = omega (arith, ints, clamps, e, h.low, k.low); high = omega (arith, ints, clamps, e, h.high, k.high) }

-- degrees fit 16 bits, and so do sums and differences of them
pub fits : (limit : ℕ) (x : ℤ) → limit ≤ 180 → IsWithin limit x → SFits w16 x
fits limit (pos n) few h = record { sfits = omega (arith, ints, h.high) }
fits limit (negsuc n) few h = record { sfits = omega (arith, ints, h.low) }

pub past_edge : (limit : ℕ) (x : ℤ) → limit ≤ 180 → IsWithin limit x → to_z w16 (of_z w16 (to_z w16 (of_z w16 x) +ℤ pos 1)) ≡ x +ℤ pos 1
past_edge limit x few h = omega (arith, ints, h.low, h.high)

pub span : (limit : ℕ) (x y : ℤ) → limit ≤ 180 → IsWithin limit x → IsWithin limit y → to_z w16 (of_z w16 (to_z w16 (of_z w16 (to_z w16 (of_z w16 y) +ℤ pos 1)) -ℤ to_z w16 (of_z w16 x))) ≡ y +ℤ pos 1 -ℤ x
span limit x y few h k = omega (arith, ints, h.low, h.high, k.low, k.high)

-- how many tiles lie from the least to the greatest of their degrees
pub count : (limit : ℕ) (x y l g : ℤ) → limit ≤ 180 → IsWithin limit x → IsWithin limit y → x ≡ l → y ≡ g → nat_abs (to_z w16 (of_z w16 (to_z w16 (of_z w16 (to_z w16 (of_z w16 y) +ℤ pos 1)) -ℤ to_z w16 (of_z w16 x)))) ≡ nat_abs (g +ℤ pos 1 -ℤ l)
count limit x y l g few h k p q = ap nat_abs (span limit x y few h k ∙ ap (λ z. z +ℤ pos 1 -ℤ x) q ∙ ap (λ z. g +ℤ pos 1 -ℤ z) p)

pub near : (limit : ℕ) (x : ℤ) → IsWithin limit x → nat_abs x ≤ limit
near limit (pos n) h = omega (arith, ints, h.high)
near limit (negsuc n) h = omega (arith, ints, h.low)

pub near_past : (limit : ℕ) (x : ℤ) → IsWithin limit x → nat_abs (x +ℤ pos 1) ≤ limit
near_past limit (pos n) h = omega (arith, ints, h.high)
near_past limit (negsuc zero) h = omega (arith, ints, h.low)
near_past limit (negsuc (suc n)) h = omega (arith, ints, h.low)

least_start : (a : ℤ) (xs : List ℤ) → fold int_min a xs ≤ℤ a
least_start a [] = omega (arith, ints)
least_start a (x ∷ xs) = let h = least_start (int_min a x) xs in omega (arith, ints, clamps, h)

greatest_start : (a : ℤ) (xs : List ℤ) → a ≤ℤ fold int_max a xs
greatest_start a [] = omega (arith, ints)
greatest_start a (x ∷ xs) = let h = greatest_start (int_max a x) xs in omega (arith, ints, clamps, h)

-- the least number is at most each
pub least_le : (a : ℤ) (xs : List ℤ) (k : ℕ) → k < length xs → fold int_min a xs ≤ℤ get_or xs k (pos 0)
least_le a [] k inside = absurd (omega arith)
least_le a (x ∷ xs) zero inside = let h = least_start (int_min a x) xs in omega (arith, ints, clamps, h)
least_le a (x ∷ xs) (suc k) inside = least_le (int_min a x) xs k (omega arith)

pub greatest_ge : (a : ℤ) (xs : List ℤ) (k : ℕ) → k < length xs → get_or xs k (pos 0) ≤ℤ fold int_max a xs
greatest_ge a [] k inside = absurd (omega arith)
greatest_ge a (x ∷ xs) zero inside = let h = greatest_start (int_max a x) xs in omega (arith, ints, clamps, h)
greatest_ge a (x ∷ xs) (suc k) inside = greatest_ge (int_max a x) xs k (omega arith)

-- fewer tiles lie before a tile of a box than the box has
pub before_east : (l x g : ℤ) → l ≤ℤ x → x ≤ℤ g → nat_abs (x -ℤ l) < nat_abs (g +ℤ pos 1 -ℤ l)
before_east l x g p q = omega (arith, ints, p, q)

pub before_south : (l x g : ℤ) → l ≤ℤ x → x ≤ℤ g → nat_abs (g +ℤ pos 1 -ℤ pos 1 -ℤ x) < nat_abs (g +ℤ pos 1 -ℤ l)
before_south l x g p q = omega (arith, ints, p, q)

-- so a tile lies within its box
pub inside_box : (side a b : ℕ) → 2 ≤ side → a < b → a * (side - 1) + side ≤ b * (side - 1) + 1
inside_box side a b large less = let h = mul-le-mul_right (side - 1) less in omega (arith, h)
