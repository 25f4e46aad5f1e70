-- The count along one column more, and along columns where two tests agree.
use Rattle.drain_kernel.proofs.Names.{◌≡◌, ℕ, ◌+◌, ℤ, pos, ◌+ℤ◌, Bool, true, false, ◌&&◌, refl, arith, if◌then◌else◌, zero, suc, ◌-◌, ◌≤◌, ◌<◌, cond, map, List, [], ◌∷◌, sym, ◌∙◌, ap, subst, add-one, ◌≢◌, ◌<ℤ◌, ◌==◌, nat_lt, int_lt, Some, None, IsSome, is_some, unwrap_or, slice_index, false≢true, ints, Patch, Rule, VoidCell, Missing, BadCode, BelowGround, OpenRaised, NoSpill, SpillHeight, SpillRank, NotLeast, Slope, OutletCode, FlatStep, Accumulation, Label, SharedLabel, Profile, IfJudged, tested, without_sums, Decides-ltb, Values, less_complete, less_sound, LaneNumbers, is_raised_at, is_above_ground, RaisedAreCounted, Shows, lowered}
use Rattle.std.specs.List.{sum_by, count_by, range_with_len}
use Rattle.std.proofs.lemmas.List.FromFn.{sum_by-map-range_with_len_more}
use Rattle.drain_kernel.specs.Shown.{height_of}
use Rattle.drain_kernel.proofs.Keys.{same_tests}

-- What eight neighbours pass on.

-- a neighbour with data passes on its number where its code leads here
pub inflow_passed : (has_z named : Bool) (acc : ℕ) → has_z ≡ true → (if has_z && named then pos acc else pos 0) ≡ pos (if named then acc else 0)
inflow_passed true true acc h = refl
inflow_passed true false acc h = refl
inflow_passed false named acc h = absurd (false≢true h)

pub total_is : (acc a b c d e f g h : ℕ) (a2 b2 c2 d2 e2 f2 g2 h2 : ℤ) → a2 ≡ pos a → b2 ≡ pos b → c2 ≡ pos c → d2 ≡ pos d →
    e2 ≡ pos e → f2 ≡ pos f → g2 ≡ pos g → h2 ≡ pos h → acc ≡ ((((a + b) + c) + d) + (((e + f) + g) + h)) + 1 →
    pos acc ≡ pos 1 +ℤ (a2 +ℤ (b2 +ℤ (c2 +ℤ (d2 +ℤ (e2 +ℤ (f2 +ℤ (g2 +ℤ (h2 +ℤ pos 0))))))))
total_is acc a b c d e f g h a2 b2 c2 d2 e2 f2 g2 h2 is_a is_b is_c is_d is_e is_f is_g is_h is = omega (arith, ints)

same_list : (xs : List ℕ) → map (λ j. j) xs ≡ xs
same_list [] = refl
same_list (x ∷ xs) = ap (λ ys. x ∷ ys) (same_list xs)

one_longer : (p : ℕ → Bool) (from n k : ℕ) → from + n ≡ k →
    count_by p (range_with_len from (n + 1)) ≡ count_by p (range_with_len from n) + cond (p k) 1 0
one_longer p from n k h =
    let g : ℕ → ℕ = λ x. cond (p x) 1 0 in
    ap (sum_by g) (sym (same_list (range_with_len from (n + 1)))) ∙ sum_by-map-range_with_len_more g (λ j. j) from n k h ∙
    ap (λ xs. sum_by g xs + g k) (same_list (range_with_len from n))

pub one_more : (p : ℕ → Bool) (from k : ℕ) → from ≤ k →
    count_by p (range_with_len from ((k + 1) - from)) ≡ count_by p (range_with_len from (k - from)) + cond (p k) 1 0
one_more p from k h =
    let e : (k + 1) - from ≡ (k - from) + 1 = omega arith in
    rw e (one_longer p from (k - from) k (omega arith))

-- tests that agree count alike
pub count_alike : (p q : ℕ → Bool) (from n : ℕ) → ((k : ℕ) → from ≤ k → k < from + n → p k ≡ q k) →
    count_by p (range_with_len from n) ≡ count_by q (range_with_len from n)
count_alike p q from zero same = refl
count_alike p q from (suc n) same =
    let at : p (from + n) ≡ q (from + n) = same (from + n) (omega arith) (omega arith) in
    let before : count_by p (range_with_len from n) ≡ count_by q (range_with_len from n) =
    count_alike p q from n (λ k low high. same k low (omega arith)) in
    subst (λ m. count_by p (range_with_len from m) ≡ count_by q (range_with_len from m)) (add-one n)
    (one_longer p from n (from + n) refl ∙ ap (λ c. c + cond (p (from + n)) 1 0) before ∙ ap (λ b. count_by q (range_with_len from n) + cond b 1 0) at ∙
    sym (one_longer q from n (from + n) refl))

-- Rules with and without sums.

-- what follows from a fact follows where it is tested
pub if_tested : (sums : Bool) (P Q : Type 0) → (P → Q) → IfJudged sums P → IfJudged sums Q
if_tested true P Q gives known = gives known
if_tested false P Q gives known = tt

-- where all others hold, and that of the accumulation if sums are tested, all that are tried hold
pub summed : (sums : Bool) (profile : Profile) (p : Patch) → IfJudged sums (profile p Accumulation) → ((r : Rule) → without_sums profile p r) →
    (r : Rule) → tested sums profile p r
summed false profile p sum others r = others r
summed true profile p sum others VoidCell = others VoidCell
summed true profile p sum others Missing = others Missing
summed true profile p sum others BadCode = others BadCode
summed true profile p sum others BelowGround = others BelowGround
summed true profile p sum others OpenRaised = others OpenRaised
summed true profile p sum others NoSpill = others NoSpill
summed true profile p sum others SpillHeight = others SpillHeight
summed true profile p sum others SpillRank = others SpillRank
summed true profile p sum others NotLeast = others NotLeast
summed true profile p sum others Slope = others Slope
summed true profile p sum others OutletCode = others OutletCode
summed true profile p sum others FlatStep = others FlatStep
summed true profile p sum others Accumulation = sum
summed true profile p sum others Label = others Label
summed true profile p sum others SharedLabel = others SharedLabel

-- The columns that lanes count as raised are those whose shown values are.

lt_lowered : (bias a b : ℕ) → a < b → lowered bias a <ℤ lowered bias b
lt_lowered bias a b h = omega (arith, ints)

lt_from_lowered : (bias a b : ℕ) → lowered bias a <ℤ lowered bias b → a < b
lt_from_lowered bias a b h = omega (arith, ints)

-- heights are ordered as their lanes are
same_order : (bias a b : ℕ) → nat_lt a b ≡ int_lt (lowered bias a) (lowered bias b)
same_order bias a b =
    let lanes = Decides-ltb a b in
    same_tests (nat_lt a b) (int_lt (lowered bias a) (lowered bias b)) (λ h. less_complete _ _ (lt_lowered bias a b (lanes.0 h)))
    (λ h. lanes.1 (lt_from_lowered bias a b (less_sound _ _ h)))

-- a lane that holds a height
height_there : (bias n : ℕ) → is_some (height_of bias n) ≡ true → unwrap_or (height_of bias n) (pos 0) ≡ lowered bias n
height_there bias n h = by_test (n == 0) h
  where
    by_test : (b : Bool) → is_some (if b then None else Some (lowered bias n)) ≡ true → unwrap_or (if b then None else Some (lowered bias n)) (pos 0) ≡ lowered bias n
    by_test true e = absurd (false≢true e)
    by_test false e = refl

data_there : (bias n : ℕ) → is_some (height_of bias n) ≡ true → n ≢ 0
data_there bias n h void = false≢true (sym (ap (λ m. is_some (height_of bias m)) void) ∙ h)

same_at : (lanes : LaneNumbers) (k : ℕ) (v : Values) → Shows lanes k v → IsSome v.z → is_raised_at lanes k ≡ is_above_ground v
same_at lanes k v shows has =
    let there = ap is_some (sym shows.z_is) ∙ has in
    let ground : unwrap_or v.z (pos 0) ≡ lowered lanes.bias (slice_index lanes.z k) =
    ap (λ o. unwrap_or o (pos 0)) shows.z_is ∙ height_there _ _ there in
    same_order lanes.bias _ _ ∙ ap (λ z. int_lt z (lowered lanes.bias (slice_index lanes.con k))) (sym ground) ∙ ap (int_lt (unwrap_or v.z (pos 0))) (sym (shows.con_is (data_there _ _ there)))

pub raised_are_counted : RaisedAreCounted
raised_are_counted lanes from end shown shows has =
    count_alike (is_raised_at lanes) (λ k. is_above_ground (shown k)) from (end - from)
    (λ k low high. let inside : k < end = omega arith in same_at lanes k (shown k) (shows k low inside) (has k low inside))
