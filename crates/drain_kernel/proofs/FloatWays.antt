-- What the test of floats gives: no way of another class has a greater key, so no way has.
use Rattle.drain_kernel.proofs.Names.{◌≡◌, ℕ, ◌*◌, ◌≤◌, ◌<◌, ℤ, pos, negsuc, ◌-ℤ◌, ◌≤ℤ◌, ◌<ℤ◌, int_lt, Bool, true, false, not, ◌||◌, ◌&&◌, nat_le, nat_lt, map, FitsSigned, inl, inr, refl, sym, ap, subst, arith, mul-le-mul_left, w64, false≢true, and_parts, or_cases, Decides-ltb, ints, mul-le, Direction, East, South, SouthEast, Single, directions, Names, single_height, slope_key, Distances, IsSpacing, distance_square, weight_of, at_most_there, less_complete, less_sound, numbers_order, lowered, falls_by_heights, float_key, is_no_steeper_by_key}
use Rattle.drain_grid.proofs.Distances.{steeper_across}
use Rattle.drain_slope.specs.Singles.{ComparesSlopes, IsNumber}
use Rattle.drain_kernel.proofs.ClassWays.{ComparesWays, steepest_by}
use Rattle.drain_kernel.proofs.Inland.{le_from}
use Rattle.drain_kernel.proofs.Keys.{same_tests}

-- a number of a height fits 64 bits
pub fits : (z : ℤ) → IsNumber z → FitsSigned w64 z
fits z number = let low = number.low in let high = number.high in omega (arith, ints, low, high)

-- the height of a lane's number
abbrev pub float_at : ℕ → ℕ → ℤ
float_at bias n = single_height (lowered bias n)

-- a way to a number isn't down, or has no greater key
abbrev pub HasNoGreaterKey : ℕ → ℕ → ℕ → ℕ → ℕ → ℕ → Type 0
HasNoGreaterKey bias con w y v x = y < con → slope_key w (float_at bias con -ℤ float_at bias y) ≤ℤ slope_key v (float_at bias con -ℤ float_at bias x)

-- floats are ordered as their lanes
floats_rise : (bias a b : ℕ) → a ≤ b → float_at bias a ≤ℤ float_at bias b
floats_rise bias a b h =
    at_most_there (float_at bias a) (float_at bias b) (λ less. absurd (let back = (numbers_order Single (lowered bias b) (lowered bias a)).1 less in omega (arith, ints, back, h)))

-- a smaller drop has no greater key
natural_from : (z : ℤ) → pos 0 ≤ℤ z → (k : ℕ) × (pos k ≡ z)
natural_from (pos k) h = (k, refl)
natural_from (negsuc k) h = absurd (omega (arith, ints, h))

keys_rise : (w : ℕ) (a b : ℤ) → pos 0 ≤ℤ a → a ≤ℤ b → slope_key w a ≤ℤ slope_key w b
keys_rise w a b some h =
    let x = natural_from a some in
    let y = natural_from b (omega (arith, ints, some, h)) in
    subst (λ k. slope_key w k ≤ℤ slope_key w b) x.1 (subst (λ k. slope_key w (pos x.0) ≤ℤ slope_key w k) y.1
    (natural_keys w x.0 y.0 (of_naturals x.0 y.0 a b x.1 y.1 h)))
  where
    of_naturals : (m n : ℕ) (a b : ℤ) → pos m ≡ a → pos n ≡ b → a ≤ℤ b → m ≤ n
    of_naturals m n a b is_a is_b h = omega (arith, ints, is_a, is_b, h)

    of_products : (m n : ℕ) → m ≤ n → pos m ≤ℤ pos n
    of_products m n h = omega (arith, ints, h)

    natural_keys : (w m n : ℕ) → m ≤ n → slope_key w (pos m) ≤ℤ slope_key w (pos n)
    natural_keys w m n h = let more = mul-le-mul_left w (mul-le m m n n h h) in of_products (w * (m * m)) (w * (n * n)) more

-- a higher number is no steeper way
higher : (bias con w low x v y : ℕ) → low ≤ x → HasNoGreaterKey bias con w low v y → HasNoGreaterKey bias con w x v y
higher bias con w low x v y h least less =
    let least_key = least (omega (arith, h, less)) in
    let drops = keys_rise w (float_at bias con -ℤ float_at bias x) (float_at bias con -ℤ float_at bias low)
    (from_0 (float_at bias x) (float_at bias con) (floats_rise bias x con (omega (arith, less))))
    (drop_more (float_at bias con) (float_at bias x) (float_at bias low) (floats_rise bias low x h)) in
    omega (arith, ints, least_key, drops)
  where
    from_0 : (a b : ℤ) → a ≤ℤ b → pos 0 ≤ℤ (b -ℤ a)
    from_0 a b h = omega (arith, ints, h)

    drop_more : (c a b : ℤ) → b ≤ℤ a → (c -ℤ a) ≤ℤ (c -ℤ b)
    drop_more c a b h = omega (arith, ints, h)

-- the test of floats shows it
shown : (bias : ℕ) (s : Distances) (con : ℕ) (e : Direction) (y : ℕ) (d : Direction) (x : ℕ) → is_no_steeper_by_key bias s con e y d x ≡ true →
    HasNoGreaterKey bias con (weight_of s e) y (weight_of s d) x
shown bias s con e y d x h less = elim (or_cases _ _ h) [
  | inl level ↦ absurd (let most = le_from con y level in omega (arith, most, less))
  | inr down ↦ at_most_there (float_key bias s con e y) (float_key bias s con d x) (λ greater. false≢true (not_greater (int_lt (float_key bias s con d x) (float_key bias s con e y)) (and_parts _ _ down).1 (less_complete _ _ greater)))
]
  where
    not_greater : (b : Bool) → not b ≡ true → b ≡ true → false ≡ true
    not_greater true none is = none
    not_greater false none is = is

by_keys : (bias : ℕ) (s : Distances) (con : ℕ) → ComparesWays (is_no_steeper_by_key bias s con) s (HasNoGreaterKey bias con)
by_keys bias s con = record {
  itself = λ w x less. omega (arith, ints);
  higher = λ w low x v y. higher bias con w low x v y;
  row_col = λ y x. shown bias s con East y South x;
  row_corner = λ y x. shown bias s con East y SouthEast x;
  col_row = λ y x. shown bias s con South y East x;
  col_corner = λ y x. shown bias s con South y SouthEast x;
  corner_row = λ y x. shown bias s con SouthEast y East x;
  corner_col = λ y x. shown bias s con SouthEast y South x;
}

-- the code leads down the steepest way between floats
pub steepest_by_keys : (bias : ℕ) (s : Distances) (con code : ℕ) (cons : Direction → ℕ) (d : Direction) → Names (pos code) d →
    falls_by_heights bias s con code (map cons directions) ≡ true →
    (cons d < con) × ((e : Direction) → HasNoGreaterKey bias con (weight_of s e) (cons e) (weight_of s d) (cons d))
steepest_by_keys bias s con code cons d named h = steepest_by _ s _ (by_keys bias s con) con code cons d named h

-- The test itself: products across compare keys.

-- a drop is a natural number
drop_down : (bias con y : ℕ) → y < con → (k : ℕ) × (pos k ≡ float_at bias con -ℤ float_at bias y)
drop_down bias con y less = natural_from (float_at bias con -ℤ float_at bias y) (from_0 (float_at bias y) (float_at bias con) (floats_rise bias y con (omega (arith, less))))
  where
    from_0 : (a b : ℤ) → a ≤ℤ b → pos 0 ≤ℤ (b -ℤ a)
    from_0 a b h = omega (arith, ints, h)

below_from : (a b : ℕ) → nat_le a b ≡ false → b < a
below_from a b h = grind arith

-- whether the way to y is steeper than that to x, by products, is whether its key is greater
keys_by_products : (bias : ℕ) (s : Distances) (con : ℕ) (e : Direction) (y : ℕ) (d : Direction) (x : ℕ) (over other : ℕ) (steeper : Bool) → IsSpacing s →
    over ≡ distance_square s e → other ≡ distance_square s d → y < con → x < con →
    ComparesSlopes (lowered bias con) (lowered bias y) (lowered bias x) over other steeper → steeper ≡ int_lt (float_key bias s con d x) (float_key bias s con e y)
keys_by_products bias s con e y d x over other steeper valid is_over is_other low low_x compares =
    let m = drop_down bias con y low in
    let n = drop_down bias con x low_x in
    let decides = compares m.0 n.0 m.1 n.1 in
    let order = steeper_across s e d m.0 n.0 valid in
    same_tests steeper (int_lt (float_key bias s con d x) (float_key bias s con e y))
    (λ h. less_complete _ _ (subst (λ k. float_key bias s con d x <ℤ slope_key (weight_of s e) k) m.1
    (subst (λ k. slope_key (weight_of s d) k <ℤ slope_key (weight_of s e) (pos m.0)) n.1
    (order.0 (subst (λ k. (n.0 * n.0) * k < (m.0 * m.0) * distance_square s d) is_over
    (subst (λ k. (n.0 * n.0) * over < (m.0 * m.0) * k) is_other (decides.0 h)))))))
    (λ h. decides.1 (subst (λ k. (n.0 * n.0) * over < (m.0 * m.0) * k) (sym is_other)
    (subst (λ k. (n.0 * n.0) * k < (m.0 * m.0) * distance_square s d) (sym is_over)
    (order.1 (subst (λ k. slope_key (weight_of s d) k <ℤ slope_key (weight_of s e) (pos m.0)) (sym n.1)
    (subst (λ k. float_key bias s con d x <ℤ slope_key (weight_of s e) k) (sym m.1) (less_sound _ _ h)))))))

pub test_by_products : (bias : ℕ) (s : Distances) (con : ℕ) (e : Direction) (y : ℕ) (d : Direction) (x : ℕ) (here there beside : ℤ) (over other : ℕ) (steeper : Bool) →
    IsSpacing s → here ≡ lowered bias con → there ≡ lowered bias y → beside ≡ lowered bias x → over ≡ distance_square s e → other ≡ distance_square s d →
    nat_le con y ≡ false → nat_le con x ≡ false → ComparesSlopes here there beside over other steeper → not steeper ≡ is_no_steeper_by_key bias s con e y d x
test_by_products bias s con e y d x here there beside over other steeper valid here_is there_is beside_is is_over is_other low low_x compares =
    let low_is = below_from con y low in
    let low_x_is = below_from con x low_x in
    of_tests (nat_le con y) (nat_lt x con) steeper (int_lt (float_key bias s con d x) (float_key bias s con e y)) low ((Decides-ltb x con).1 low_x_is)
    (keys_by_products bias s con e y d x over other steeper valid is_over is_other low_is low_x_is
    (subst (λ z. ComparesSlopes z (lowered bias y) (lowered bias x) over other steeper) here_is
    (subst (λ z. ComparesSlopes here z (lowered bias x) over other steeper) there_is (subst (λ z. ComparesSlopes here there z over other steeper) beside_is compares))))
  where
    of_tests : (p q a b : Bool) → p ≡ false → q ≡ true → a ≡ b → not a ≡ (p || (q && not b))
    of_tests true q a b none some same = absurd (false≢true (sym none))
    of_tests false false a b none some same = absurd (false≢true some)
    of_tests false true a b none some same = ap not same
