-- What the test by fractions gives of heights in one unit: of the floats that they stand for, no way of another class is steeper.
use Rattle.drain_kernel.proofs.Names.{◌≡◌, ℕ, ◌+◌, ◌-◌, ◌*◌, ◌^◌, ◌≤◌, ◌<◌, ℤ, pos, ◌-ℤ◌, ◌+ℤ◌, ◌*ℤ◌, ◌≤ℤ◌, ◌<ℤ◌, int_lt, Bool, true, false, not, ◌||◌, ◌&&◌, ◌==◌, nat_le, nat_lt, min, List, length, slice_index, slice_set, ◌≢◌, inl, inr, sym, ◌∙◌, ap, subst, arith, if◌then◌else◌, mul-le-mul_right, mul-lt-mul_of_pos_right, false≢true, false_from_ne_true, and_from, and_parts, cases_lt, le-leb, not_from_false, or_cases, or_left, or_right, Decides-eqb, Decides-ltb, ints, get_or-set_other, pow_pos, Direction, East, SouthEast, South, Single, single_height, slope_key, distance_square, weight_of, less_sound, numbers_order, by_fraction_below, Slopes, around_in, is_straight_code, least_across_in, least_straight_in, named_in, lowered, AreSound, falls_by_fractions, falls_by_heights, float_key, fraction_of, goes_by_fractions, is_col_code, is_no_steeper_by_fraction, is_no_steeper_by_key, is_row_code, is_whole, keeps_way_down, least_col_in, least_row_in, AreInOneUnit, AreInUnit, IsInUnit, made_offset, ThreeLanes, keeps_direction_at, cons_round}
use Rattle.std.proofs.lemmas.Grind.{get_or-set_at}
use Rattle.drain_slope.specs.Fractions.{IsBelow}
use Rattle.drain_slope.proofs.Products.{distributes}
use Rattle.drain_kernel.specs.Slopes.{falls_by}
use Rattle.drain_kernel.specs.Tests.{falls_steepest, steps_along}
use Rattle.drain_kernel.proofs.Inland.{le_from}

-- a lane that is 2^31 more than so many units
pub lane_is : (number units : ℤ) (unit lane : ℕ) → single_height number ≡ units *ℤ pos (2 ^ unit) → pos lane ≡ units +ℤ pos 2147483648 → IsInUnit unit (made_offset unit) number lane
lane_is number units unit lane is lifted =
    ap (λ z. z +ℤ pos (2147483648 * 2 ^ unit)) is ∙ sym (ap (λ z. z *ℤ pos (2 ^ unit)) lifted ∙ distributes units (pos 2147483648) (pos (2 ^ unit)))

-- two heights with as much added as whole multiples of a power
sums_rise : (x y k : ℤ) (m n : ℕ) → x +ℤ k ≡ pos m → y +ℤ k ≡ pos n → m < n → x <ℤ y
sums_rise x y k m n is_x is_y h = omega (arith, ints, is_x, is_y, h)

rising_sums : (x y k : ℤ) (m n : ℕ) → x +ℤ k ≡ pos m → y +ℤ k ≡ pos n → x <ℤ y → m < n
rising_sums x y k m n is_x is_y h = omega (arith, ints, is_x, is_y, h)

drop_of_sums : (x y k : ℤ) (m n d : ℕ) → x +ℤ k ≡ pos m → y +ℤ k ≡ pos n → m ≡ n + d → x -ℤ y ≡ pos d
drop_of_sums x y k m n d is_x is_y h = omega (arith, ints, is_x, is_y, h)

less_of_lowered : (bias a b : ℕ) → lowered bias a <ℤ lowered bias b → a < b
less_of_lowered bias a b h = omega (arith, ints, h)

lowered_less : (bias a b : ℕ) → a < b → lowered bias a <ℤ lowered bias b
lowered_less bias a b h = omega (arith, ints, h)

module _ (bias unit : ℕ) (offset : ℤ) where
  -- a number of a lane, and that of its height in the unit
  abbrev pub Are : ℕ → ℕ → Type 0
  Are a m = IsInUnit unit offset (lowered bias a) m

  -- they are ordered alike
  pub rises : (a b m n : ℕ) → Are a m → Are b n → m < n → a < b
  rises a b m n is_a is_b h =
      let more : m * 2 ^ unit < n * 2 ^ unit = mul-lt-mul_of_pos_right h (pow_pos unit) in
      less_of_lowered bias a b ((numbers_order Single (lowered bias a) (lowered bias b)).1
      (sums_rise (single_height (lowered bias a)) (single_height (lowered bias b)) offset (m * 2 ^ unit) (n * 2 ^ unit) is_a is_b more))

  pub rising : (a b m n : ℕ) → Are a m → Are b n → a < b → m < n
  rising a b m n is_a is_b h = elim (cases_lt m n) [
    | inl less ↦ less
    | inr least ↦ absurd (
        let more : n * 2 ^ unit ≤ m * 2 ^ unit = mul-le-mul_right (2 ^ unit) least in
        let less = rising_sums (single_height (lowered bias a)) (single_height (lowered bias b)) offset (m * 2 ^ unit) (n * 2 ^ unit) is_a is_b
        ((numbers_order Single (lowered bias a) (lowered bias b)).0 (lowered_less bias a b h)) in
        omega (arith, more, less))
  ]

  -- one height in the unit is one number
  pub same : (a b m n : ℕ) → Are a m → Are b n → m ≡ n → a ≡ b
  same a b m n is_a is_b h = elim (cases_lt a b) [
    | inl less ↦ absurd (let more = rising a b m n is_a is_b less in omega (arith, more, h))
    | inr least ↦ elim (cases_lt b a) [
      | inl less ↦ absurd (let more = rising b a n m is_b is_a less in omega (arith, more, h))
      | inr most ↦ omega (arith, least, most)
    ]
  ]

  -- the lesser of two
  pub least : (a b m n : ℕ) → Are a m → Are b n → Are (min a b) (min m n)
  least a b m n is_a is_b = elim (cases_lt a b) [
    | inl less ↦ (
        let more = rising a b m n is_a is_b less in
        let left : a ≡ min a b = omega (arith, less) in
        let right : m ≡ min m n = omega (arith, more) in
        subst (λ k. Are (min a b) k) right (subst (λ k. Are k m) left is_a))
    | inr most ↦ elim (cases_lt m n) [
      | inl less ↦ absurd (let more = rises a b m n is_a is_b less in omega (arith, more, most))
      | inr at_most ↦ (
          let left : b ≡ min a b = omega (arith, most) in
          let right : n ≡ min m n = omega (arith, at_most) in
          subst (λ k. Are (min a b) k) right (subst (λ k. Are k n) left is_b))
    ]
  ]

  -- of two by a test
  pub picked : (t : Bool) (a b m n : ℕ) → Are a m → Are b n → Are (if t then a else b) (if t then m else n)
  picked true a b m n is_a is_b = is_a
  picked false a b m n is_a is_b = is_b

  -- eight numbers, each with its own
  pub record AreEach (xs ms : List ℕ) : Type 0 where
    pub at_0 : Are (slice_index xs 0) (slice_index ms 0)
    pub at_1 : Are (slice_index xs 1) (slice_index ms 1)
    pub at_2 : Are (slice_index xs 2) (slice_index ms 2)
    pub at_3 : Are (slice_index xs 3) (slice_index ms 3)
    pub at_4 : Are (slice_index xs 4) (slice_index ms 4)
    pub at_5 : Are (slice_index xs 5) (slice_index ms 5)
    pub at_6 : Are (slice_index xs 6) (slice_index ms 6)
    pub at_7 : Are (slice_index xs 7) (slice_index ms 7)

  -- the one that a code names
  pub named : (code : ℕ) (xs ms : List ℕ) → AreEach xs ms → Are (named_in code xs) (named_in code ms)
  named code xs ms are =
      picked (code == 128) _ _ _ _ are.at_7 (picked (code == 64) _ _ _ _ are.at_6 (picked (code == 32) _ _ _ _ are.at_5
      (picked (code == 16) _ _ _ _ are.at_4 (picked (code == 8) _ _ _ _ are.at_3 (picked (code == 4) _ _ _ _ are.at_2
      (picked (code == 2) _ _ _ _ are.at_1 are.at_0))))))

-- The ways down, where con and its eight neighbours are in one unit.
module _ (bias unit : ℕ) (offset : ℤ) (s : Slopes) (sound : AreSound s) where
  -- a fraction shows it of floats too
  of_keys : (w v d k : ℕ) → w * (d * d) ≤ v * (k * k) → slope_key w (pos (d * 2 ^ unit)) ≤ℤ slope_key v (pos (k * 2 ^ unit))
  of_keys w v d k h =
      let square = mul-le-mul_right (2 ^ unit * 2 ^ unit) h in
      of_products (w * ((d * 2 ^ unit) * (d * 2 ^ unit))) (v * ((k * 2 ^ unit) * (k * 2 ^ unit))) (w * (d * d) * (2 ^ unit * 2 ^ unit)) (v * (k * k) * (2 ^ unit * 2 ^ unit))
      (omega arith) (omega arith) square
    where
      of_products : (a b m n : ℕ) → a ≡ m → b ≡ n → m ≤ n → pos a ≤ℤ pos b
      of_products a b m n is_a is_b h = omega (arith, ints, is_a, is_b, h)

  by_fraction : (con y x con' y' x' : ℕ) (e d : Direction) → Are bias unit offset con con' → Are bias unit offset y y' → Are bias unit offset x x' →
      IsBelow (distance_square s.spacing e) (distance_square s.spacing d) (fraction_of s e d) →
      is_no_steeper_by_fraction s con' e y' d x' ≡ true → is_no_steeper_by_key bias s.spacing con e y d x ≡ true
  by_fraction con y x con' y' x' e d is_con is_y is_x below h = elim (cases_lt y con) [
    | inr most ↦ or_left (nat_le con y) _ (le-leb con y most)
    | inl less ↦ (
        let p = (fraction_of s e d).p in
        let q = (fraction_of s e d).q in
        let down : y' < con' = rising bias unit offset y con y' con' is_y is_con less in
        let test : (con' - y') * p ≤ (con' - x') * q = le_from _ _ h in
        let other_down : x' < con' = lower_too con' y' x' p q below.some down test in
        let counts = by_fraction_below s.spacing e d (fraction_of s e d) (con' - y') (con' - x') sound.valid below test in
        let drop_y = drop_of_sums (single_height (lowered bias con)) (single_height (lowered bias y)) offset (con' * 2 ^ unit) (y' * 2 ^ unit) ((con' - y') * 2 ^ unit) is_con is_y (parts con' y' (2 ^ unit) down) in
        let drop_x = drop_of_sums (single_height (lowered bias con)) (single_height (lowered bias x)) offset (con' * 2 ^ unit) (x' * 2 ^ unit) ((con' - x') * 2 ^ unit) is_con is_x (parts con' x' (2 ^ unit) other_down) in
        let keys = of_keys (weight_of s.spacing e) (weight_of s.spacing d) (con' - y') (con' - x') counts in
        or_right (nat_le con y) _ (and_from _ _ ((Decides-ltb x con).1 (rises bias unit offset x con x' con' is_x is_con other_down))
        (not_less (float_key bias s.spacing con d x) (float_key bias s.spacing con e y)
        (subst (λ k. slope_key (weight_of s.spacing e) k ≤ℤ float_key bias s.spacing con d x) (sym drop_y)
        (subst (λ k. slope_key (weight_of s.spacing e) (pos ((con' - y') * 2 ^ unit)) ≤ℤ slope_key (weight_of s.spacing d) k) (sym drop_x) keys)))))
  ]
    where
      lower_too : (c y x p q : ℕ) → 0 < p → y < c → (c - y) * p ≤ (c - x) * q → x < c
      lower_too c y x p q some less h = elim (cases_lt x c) [
        | inl below ↦ below
        | inr above ↦ absurd (
            let none : c - x ≡ 0 = omega (arith, above) in
            let step : 0 < c - y = omega (arith, less) in
            let prod = mul-lt-mul_of_pos_right step some in
            let all : (c - y) * p ≤ 0 * q = subst (λ k. (c - y) * p ≤ k * q) none h in
            omega (arith, prod, all))
      ]

      distributed : (a b u : ℕ) → (a + b) * u ≡ a * u + b * u
      distributed a b u = omega arith

      parts : (c y u : ℕ) → y < c → c * u ≡ y * u + (c - y) * u
      parts c y u h =
          let d : c ≡ y + (c - y) = omega (arith, h) in
          let all : c * u ≡ (y + (c - y)) * u = ap (λ k. k * u) d in
          all ∙ distributed y (c - y) u

      not_less : (a b : ℤ) → b ≤ℤ a → not (int_lt a b) ≡ true
      not_less a b h = not_from_false (int_lt a b) (false_from_ne_true (int_lt a b) (λ less. let more = less_sound a b less in omega (arith, ints, more, h)))

  -- a code of a class leads to the least number of its class, and the ways to two other numbers are no steeper by a test
  abbrev goes_to : (Direction → ℕ → Direction → ℕ → Bool) → Bool → ℕ → Direction → Direction → Direction → ℕ → ℕ → ℕ → Bool
  goes_to test is_class next class e f low y z = (is_class && next == low) && (test e y class low && test f z class low)

  goes : (con con' next next' low low' y y' z z' : ℕ) (is_class : Bool) (class e f : Direction) → Are bias unit offset con con' → Are bias unit offset next next' → Are bias unit offset low low' →
      Are bias unit offset y y' → Are bias unit offset z z' → IsBelow (distance_square s.spacing e) (distance_square s.spacing class) (fraction_of s e class) →
      IsBelow (distance_square s.spacing f) (distance_square s.spacing class) (fraction_of s f class) →
      goes_to (is_no_steeper_by_fraction s con') is_class next' class e f low' y' z' ≡ true →
      goes_to (is_no_steeper_by_key bias s.spacing con) is_class next class e f low y z ≡ true
  goes con con' next next' low low' y y' z z' is_class class e f is_con is_next is_low is_y is_z below_e below_f h =
      let both = and_parts _ _ h in
      let way = and_parts _ _ both.0 in
      let others = and_parts _ _ both.1 in
      and_from (is_class && next == low) _ (and_from is_class (next == low) way.0 ((Decides-eqb _ _).1 (same bias unit offset next low next' low' is_next is_low ((Decides-eqb _ _).0 way.1))))
      (and_from _ _ (by_fraction con y low con' y' low' e class is_con is_y is_low below_e others.0) (by_fraction con z low con' z' low' f class is_con is_z is_low below_f others.1))

  -- the code leads down the steepest way between the floats
  pub falls_in_unit : (con code con' : ℕ) (xs ms : List ℕ) → Are bias unit offset con con' → AreEach bias unit offset xs ms →
      falls_by_fractions s con' code ms ≡ true → falls_by_heights bias s.spacing con code xs ≡ true
  unfolding falls_by
  falls_in_unit con code con' xs ms is_con are h =
      let next = named bias unit offset code xs ms are in
      let row : Are bias unit offset (least_row_in xs) (least_row_in ms) = least bias unit offset _ _ _ _ are.at_0 are.at_4 in
      let col : Are bias unit offset (least_col_in xs) (least_col_in ms) = least bias unit offset _ _ _ _ are.at_2 are.at_6 in
      let corner : Are bias unit offset (least_across_in xs) (least_across_in ms) =
      least bias unit offset _ _ _ _ (least bias unit offset _ _ _ _ are.at_1 are.at_3) (least bias unit offset _ _ _ _ are.at_5 are.at_7) in
      let test = is_no_steeper_by_key bias s.spacing con in
      let along = goes_to test (is_row_code code) (named_in code xs) East South SouthEast (least_row_in xs) (least_col_in xs) (least_across_in xs) in
      let down = goes_to test (is_col_code code) (named_in code xs) South East SouthEast (least_col_in xs) (least_row_in xs) (least_across_in xs) in
      let aslant = goes_to test (not (is_straight_code code)) (named_in code xs) SouthEast East South (least_across_in xs) (least_row_in xs) (least_col_in xs) in
      let parts = and_parts _ _ h in
      let lower : nat_lt (named_in code xs) con ≡ true = (Decides-ltb _ _).1 (rises bias unit offset _ _ _ _ next is_con ((Decides-ltb _ _).0 parts.0)) in
      and_from (nat_lt (named_in code xs) con) ((along || down) || aslant) lower (elim (or_cases _ _ parts.1) [
        | inl straight ↦ or_left (along || down) aslant (elim (or_cases _ _ straight) [
          | inl way ↦ or_left along down (goes con con' _ _ _ _ _ _ _ _ (is_row_code code) East South SouthEast is_con next row col corner sound.col_row sound.corner_row way)
          | inr way ↦ or_right along down (goes con con' _ _ _ _ _ _ _ _ (is_col_code code) South East SouthEast is_con next col row corner sound.row_col sound.corner_col way)
        ])
        | inr way ↦ or_right (along || down) aslant
            (goes con con' _ _ _ _ _ _ _ _ (not (is_straight_code code)) SouthEast East South is_con next corner row col sound.row_corner sound.col_corner way)
      ])

  -- or along the flat
  level : (a b m n : ℕ) → Are bias unit offset a m → Are bias unit offset b n → m ≤ n → a ≤ b
  level a b m n is_a is_b h = elim (cases_lt b a) [
    | inl less ↦ absurd (let more = rising bias unit offset b a n m is_b is_a less in omega (arith, more, h))
    | inr least ↦ least
  ]

  pub steps_in_unit : (con code con' : ℕ) (xs ms : List ℕ) → Are bias unit offset con con' → AreEach bias unit offset xs ms →
      steps_along con' code ms ≡ true → steps_along con code xs ≡ true
  unfolding steps_along
  steps_in_unit con code con' xs ms is_con are h =
      let next = named bias unit offset code xs ms are in
      let parts = and_parts _ _ h in
      let straight : Are bias unit offset (least_straight_in xs) (least_straight_in ms) =
      least bias unit offset _ _ _ _ (least bias unit offset _ _ _ _ are.at_0 are.at_2) (least bias unit offset _ _ _ _ are.at_4 are.at_6) in
      let across : Are bias unit offset (least_across_in xs) (least_across_in ms) =
      least bias unit offset _ _ _ _ (least bias unit offset _ _ _ _ are.at_1 are.at_3) (least bias unit offset _ _ _ _ are.at_5 are.at_7) in
      and_from _ _ ((Decides-eqb _ _).1 (same bias unit offset _ _ _ _ next is_con ((Decides-eqb _ _).0 parts.0)))
      (le-leb _ _ (level _ _ _ _ is_con (least bias unit offset _ _ _ _ straight across) (le_from _ _ parts.1)))

  -- the rules of the direction, without ranks, of floats
  pub goes_in_unit : (con code con' : ℕ) (xs ms : List ℕ) → is_whole s.spacing.kind ≡ false → Are bias unit offset con con' → AreEach bias unit offset xs ms →
      goes_by_fractions s con' code ms ≡ true → keeps_way_down bias s con code xs ≡ true
  goes_in_unit con code con' xs ms floats is_con are h =
      let parts = and_parts _ _ h in
      and_from _ _ parts.0 (elim (or_cases _ _ parts.1) [
        | inl falls ↦ or_left _ _ (by_heights (is_whole s.spacing.kind) ((s.spacing.width == 1) && (s.spacing.height == 1)) (falls_steepest con code xs) (falls_by_fractions s con code xs)
            (falls_by_heights bias s.spacing con code xs) floats (falls_in_unit con code con' xs ms is_con are falls))
        | inr steps ↦ or_right _ _ (steps_in_unit con code con' xs ms is_con are steps)
      ])
    where
      by_heights : (whole square a b c : Bool) → whole ≡ false → c ≡ true → (if whole && square then a else if whole then b else c) ≡ true
      by_heights true square a b c none h = absurd (false≢true (sym none))
      by_heights false square a b c none h = h

-- numbers round a column of three rows, by those round its place in a stretch
pub round_in_unit : (bias unit : ℕ) (above here below a h b : List ℕ) (from count k c : ℕ) → k ≡ from + c → 1 ≤ c → c + 1 < count →
    AreInUnit unit bias above from a count → AreInUnit unit bias here from h count → AreInUnit unit bias below from b count →
    AreEach bias unit (made_offset unit) (around_in above here below k) (around_in a h b c)
round_in_unit bias unit above here below a h b from count k c is some inside is_above is_here is_below = record {
  at_0 = at here h (k + 1) (c + 1) (omega (arith, is)) (omega (arith, inside)) is_here;
  at_1 = at below b (k + 1) (c + 1) (omega (arith, is)) (omega (arith, inside)) is_below;
  at_2 = at below b k c is (omega (arith, inside)) is_below;
  at_3 = at below b (k - 1) (c - 1) (omega (arith, is, some)) (omega (arith, inside)) is_below;
  at_4 = at here h (k - 1) (c - 1) (omega (arith, is, some)) (omega (arith, inside)) is_here;
  at_5 = at above a (k - 1) (c - 1) (omega (arith, is, some)) (omega (arith, inside)) is_above;
  at_6 = at above a k c is (omega (arith, inside)) is_above;
  at_7 = at above a (k + 1) (c + 1) (omega (arith, is)) (omega (arith, inside)) is_above;
}
  where
    at : (row lanes : List ℕ) (j i : ℕ) → j ≡ from + i → i < count → AreInUnit unit bias row from lanes count → Are bias unit (made_offset unit) (slice_index row j) (slice_index lanes i)
    at row lanes j i is few are = subst (λ m. Are bias unit (made_offset unit) (slice_index row m) (slice_index lanes i)) (sym is) (are i few)

-- what the test of a stretch in one unit gives at a column
pub kept_in_unit : (bias unit : ℕ) (rows : ThreeLanes) (from count k : ℕ) (above here below : List ℕ) → rows.here.bias ≡ bias → AreSound rows.slopes →
    is_whole rows.slopes.spacing.kind ≡ false → from + 1 ≤ k → k + 1 < from + count → AreInOneUnit bias unit rows from count above here below →
    goes_by_fractions rows.slopes (slice_index here (k - from)) (slice_index rows.here.dir k) (around_in above here below (k - from)) ≡ true →
    keeps_direction_at rows k ≡ true
kept_in_unit bias unit rows from count k above here below one sound floats left right are h =
    subst (λ b. keeps_way_down b rows.slopes (slice_index rows.here.con k) (slice_index rows.here.dir k) (cons_round rows k) ≡ true) (sym one)
    (goes_in_unit bias unit (made_offset unit) rows.slopes sound (slice_index rows.here.con k) (slice_index rows.here.dir k) (slice_index here (k - from)) (cons_round rows k) (around_in above here below (k - from)) floats
    (subst (λ m. Are bias unit (made_offset unit) (slice_index rows.here.con m) (slice_index here (k - from))) (back from k left) (are.here_is (k - from) (inside from count k left right)))
    (round_in_unit bias unit rows.above.con rows.here.con rows.below.con above here below from count k (k - from) (sym (back from k left)) (some from k left) (inside_right from count k left right)
    are.above_is are.here_is are.below_is) h)
  where
    back : (from k : ℕ) → from + 1 ≤ k → from + (k - from) ≡ k
    back from k left = omega (arith, left)

    some : (from k : ℕ) → from + 1 ≤ k → 1 ≤ k - from
    some from k left = omega (arith, left)

    inside : (from count k : ℕ) → from + 1 ≤ k → k + 1 < from + count → k - from < count
    inside from count k left right = omega (arith, left, right)

    inside_right : (from count k : ℕ) → from + 1 ≤ k → k + 1 < from + count → (k - from) + 1 < count
    inside_right from count k left right = omega (arith, left, right)

-- one lane more of a row
pub one_more : (unit bias : ℕ) (row : List ℕ) (from k : ℕ) (lanes : List ℕ) (lane : ℕ) → from ≤ k → k - from < length lanes →
    AreInUnit unit bias row from lanes (k - from) → IsInUnit unit (made_offset unit) (lowered bias (slice_index row k)) lane → AreInUnit unit bias row from (slice_set lanes (k - from) lane) (k + 1 - from)
one_more unit bias row from k lanes lane ordered inside are is = λ j less. (elim (cases_lt j (k - from)) [
  | inl below ↦ subst (λ m. IsInUnit unit (made_offset unit) (lowered bias (slice_index row (from + j))) m) (sym (get_or-set_other lanes (k - from) j lane 0 (other j below))) (are j below)
  | inr at ↦ (
      let same : j ≡ k - from = omega (arith, ordered, less, at) in
      let col : k ≡ from + j = omega (arith, ordered, same) in
      subst (λ m. IsInUnit unit (made_offset unit) (lowered bias (slice_index row m)) (slice_index (slice_set lanes (k - from) lane) j)) col
      (subst (λ m. IsInUnit unit (made_offset unit) (lowered bias (slice_index row k)) m) (sym (get_or-set_at lanes (k - from) j lane 0 same inside)) is))
])
  where
    other : (j : ℕ) → j < k - from → j ≢ k - from
    other j below = omega (arith, below)
