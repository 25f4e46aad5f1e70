-- The first steepest of eight drops, found by two minima.
--
-- Twice the square of a whole number is a square only at 0, so a way along a row or column and one across a corner are
-- never equally steep. Of two ways of one kind the one with the less lane is steeper.
use Rattle.drain_flood.proofs.Names.{◌≡◌, ◌≢◌, ◌⊎◌, ℕ, zero, suc, ◌+◌, ◌-◌, ◌*◌, ◌/◌, ◌%◌, ◌≤◌, ◌<◌, Bool, true, false, ◌==◌, nat_lt, min, map, inl, inr, refl, sym, ap, subst, if◌then◌else◌, arith, cases_lt, cases_eq, cases_Bool, false≢true, eqb-true, eqb-false, Decides-ltb, nat_tests, mul-le, mul-lt, Direction, East, SouthEast, South, SouthWest, West, NorthWest, North, NorthEast, directions, code_of, is_straight, order_of, first_across, first_along, is_steeper, least_across, least_along, level_of_lane}
use Rattle.drain_flood.specs.Laid.{fall_in}

-- the key of a drop, by its square
abbrev pub weight : Bool → ℕ → ℕ
weight true square = 2 * square
weight false square = square

abbrev pub key_of : ℕ → (Direction → ℕ) → Direction → ℕ
key_of level L d = weight (is_straight d) ((level - L d) * (level - L d))

-- no lane has a greater key, and none in an earlier direction as great a one
pub record IsFirstFall (level : ℕ) (L : Direction → ℕ) (d : Direction) : Type 0 where
  pub lower : L d < level
  pub greatest : (e : Direction) → key_of level L e ≤ key_of level L d
  pub first : (e : Direction) → order_of e < order_of d → key_of level L e < key_of level L d

-- twice a square is a square only at 0
of_even : (x y z : ℕ) → y ≡ 2 * z → 2 * (x * x) ≡ y * y → 2 * (z * z) ≡ x * x
of_even x y z even twice =
    let square : y * y ≡ (2 * z) * (2 * z) = ap (λ n. n * n) even in
    omega (arith, square, twice)

not_odd : (x y z : ℕ) → y ≡ 2 * z + 1 → 2 * (x * x) ≡ y * y → ⊥
not_odd x y z odd twice =
    let square : y * y ≡ (2 * z + 1) * (2 * z + 1) = ap (λ n. n * n) odd in
    absurd (omega (arith, square, twice))

less_root : (x y : ℕ) → 2 * (x * x) ≡ y * y → 0 < y → x < y
less_root x y twice some =
    elim (cases_lt x y) [
      | inl less ↦ less
      | inr most ↦
          (let squares : y * y ≤ x * x = mul-le y y x x most most in
          let more : 0 < y * y = mul-lt 0 0 y y some some in
          absurd (omega (arith, squares, more, twice)))
    ]

never_twice : (n x y : ℕ) → y ≤ n → 2 * (x * x) ≡ y * y → y ≡ 0
never_twice zero x y most twice = omega (arith, most)
never_twice (suc n) x y most twice =
    elim (cases_eq y 0) [
      | inl none ↦ none
      | inr some ↦
          (let positive : 0 < y = omega (arith, some) in
          let less = less_root x y twice positive in
          elim (cases_eq (y % 2) 0) [
            | inl even ↦
                (let half : y ≡ 2 * (y / 2) = omega (arith, even) in
                let none : x ≡ 0 = never_twice n (y / 2) x (omega (arith, less, most)) (of_even x y (y / 2) half twice) in
                let square : x * x ≡ 0 * 0 = ap (λ m. m * m) none in
                let more : 0 < y * y = mul-lt 0 0 y y positive positive in
                absurd (omega (arith, square, more, twice)))
            | inr odd ↦
                (let half : y ≡ 2 * (y / 2) + 1 = omega (arith, odd) in
                absurd (not_odd x y (y / 2) half twice))
          ])
    ]

square_le : (a b : ℕ) → a ≤ b → a * a ≤ b * b
square_le a b most = mul-le a a b b most most

square_lt : (a b : ℕ) → a < b → a * a < b * b
square_lt a b less = mul-lt a a b b less less

no_drop : (level a : ℕ) → level ≤ a → (level - a) * (level - a) ≡ 0
no_drop level a most = let none : level - a ≡ 0 = omega (arith, most) in ap (λ n. n * n) none

-- where the way along is steeper
module _ (level a b : ℕ) (steeper : ((level - b) * (level - b)) / 2 < (level - a) * (level - a)) where
  straight_lower : a < level
  straight_lower =
      elim (cases_lt a level) [
        | inl less ↦ less
        | inr most ↦ (let none = no_drop level a most in absurd (omega (arith, none, steeper)))
      ]

  straight_most : (x : ℕ) → a ≤ x → weight true ((level - x) * (level - x)) ≤ weight true ((level - a) * (level - a))
  straight_most x most = let squares = square_le (level - x) (level - a) (omega (arith, most)) in omega (arith, squares)

  straight_more : (x : ℕ) → a ≤ x → x ≢ a → weight true ((level - x) * (level - x)) < weight true ((level - a) * (level - a))
  straight_more x most other =
      let lower = straight_lower in
      let squares = square_lt (level - x) (level - a) (omega (arith, most, other, lower)) in
      omega (arith, squares)

  straight_aslant : (x : ℕ) → b ≤ x → weight false ((level - x) * (level - x)) < weight true ((level - a) * (level - a))
  straight_aslant x most = let squares = square_le (level - x) (level - b) (omega (arith, most)) in omega (arith, squares, steeper)

-- where it isn't, and some lane is lower
module _ (level a b : ℕ) (steeper : (level - a) * (level - a) ≤ ((level - b) * (level - b)) / 2) (some : min a b < level) where
  across_lower : b < level
  across_lower =
      elim (cases_lt b level) [
        | inl less ↦ less
        | inr most ↦
            (let none = no_drop level b most in
            let lower : a < level = omega (arith, some, most) in
            let positive : 0 < level - a = omega (arith, lower) in
            let more : 0 < (level - a) * (level - a) = mul-lt 0 0 (level - a) (level - a) positive positive in
            absurd (omega (arith, none, more, steeper)))
      ]

  across_strict : 2 * ((level - a) * (level - a)) < (level - b) * (level - b)
  across_strict =
      elim (cases_eq (2 * ((level - a) * (level - a))) ((level - b) * (level - b))) [
        | inl twice ↦
            (let none = never_twice (level - b) (level - a) (level - b) (omega arith) twice in
            let lower = across_lower in
            absurd (omega (arith, none, lower)))
        | inr other ↦ omega (arith, other, steeper)
      ]

  across_most : (x : ℕ) → b ≤ x → weight false ((level - x) * (level - x)) ≤ weight false ((level - b) * (level - b))
  across_most x most = let squares = square_le (level - x) (level - b) (omega (arith, most)) in omega (arith, squares)

  across_more : (x : ℕ) → b ≤ x → x ≢ b → weight false ((level - x) * (level - x)) < weight false ((level - b) * (level - b))
  across_more x most other =
      let lower = across_lower in
      let squares = square_lt (level - x) (level - b) (omega (arith, most, other, lower)) in
      omega (arith, squares)

  across_straight : (x : ℕ) → a ≤ x → weight true ((level - x) * (level - x)) < weight false ((level - b) * (level - b))
  across_straight x most =
      let squares = square_le (level - x) (level - a) (omega (arith, most)) in
      let strict = across_strict in
      omega (arith, squares, strict)

-- the first direction of a kind that leads to the least lane of the kind, and its code
record IsFirstOf (L : Direction → ℕ) (straight : Bool) (least code : ℕ) : Type 0 where
  way : Direction
  kind : is_straight way ≡ straight
  leads : L way ≡ least
  code_is : code ≡ code_of way
  bound : (e : Direction) → is_straight e ≡ straight → least ≤ L e
  earlier : (e : Direction) → is_straight e ≡ straight → order_of e < order_of way → L e ≢ least

-- the four ways along a row or a column, and the four across a corner
by_straight : (P : Direction → Type 0) → P East → P South → P West → P North → (e : Direction) → is_straight e ≡ true → P e
by_straight P east south west north East kind = east
by_straight P east south west north South kind = south
by_straight P east south west north West kind = west
by_straight P east south west north North kind = north
by_straight P east south west north e kind = absurd (false≢true kind)

by_aslant : (P : Direction → Type 0) → P SouthEast → P SouthWest → P NorthWest → P NorthEast → (e : Direction) → is_straight e ≡ false → P e
by_aslant P se sw nw ne SouthEast kind = se
by_aslant P se sw nw ne SouthWest kind = sw
by_aslant P se sw nw ne NorthWest kind = nw
by_aslant P se sw nw ne NorthEast kind = ne
by_aslant P se sw nw ne e kind = absurd (false≢true (sym kind))

bound_along : (L : Direction → ℕ) (e : Direction) → is_straight e ≡ true → least_along (map L directions) ≤ L e
bound_along L = by_straight (λ e. least_along (map L directions) ≤ L e) (omega arith) (omega arith) (omega arith) (omega arith)

bound_across : (L : Direction → ℕ) (e : Direction) → is_straight e ≡ false → least_across (map L directions) ≤ L e
bound_across L = by_aslant (λ e. least_across (map L directions) ≤ L e) (omega arith) (omega arith) (omega arith) (omega arith)

last_of_four : (p q r s : ℕ) → p ≢ min (min p q) (min r s) → q ≢ min (min p q) (min r s) → r ≢ min (min p q) (min r s) → s ≡ min (min p q) (min r s)
last_of_four p q r s not_p not_q not_r = omega (arith, not_p, not_q, not_r)

-- of four ways of one kind, in their order, the first whose lane is the least
first_of_four : (L : Direction → ℕ) (kind : Bool) (a b c d : Direction)
    (only : (P : Direction → Type 0) → P a → P b → P c → P d → (e : Direction) → is_straight e ≡ kind → P e)
    (a_is : is_straight a ≡ kind) (b_is : is_straight b ≡ kind) (c_is : is_straight c ≡ kind) (d_is : is_straight d ≡ kind)
    (a_b : order_of a < order_of b) (b_c : order_of b < order_of c) (c_d : order_of c < order_of d)
    (least : ℕ) (p q r : Bool) → (L a == least) ≡ p → (L b == least) ≡ q → (L c == least) ≡ r →
    ((e : Direction) → is_straight e ≡ kind → least ≤ L e) → (L a ≢ least → L b ≢ least → L c ≢ least → L d ≡ least) →
    IsFirstOf L kind least (if p then code_of a else if q then code_of b else if r then code_of c else code_of d)
first_of_four L kind a b c d only a_is b_is c_is d_is a_b b_c c_d least true q r is_p is_q is_r bound last = record {
  way = a;
  kind = a_is;
  leads = eqb-true _ _ is_p;
  code_is = refl;
  bound = bound;
  earlier = only (λ e. order_of e < order_of a → L e ≢ least) (λ less. absurd (omega arith)) (λ less. absurd (omega arith)) (λ less. absurd (omega arith))
      (λ less. absurd (omega arith));
}
first_of_four L kind a b c d only a_is b_is c_is d_is a_b b_c c_d least false true r is_p is_q is_r bound last = record {
  way = b;
  kind = b_is;
  leads = eqb-true _ _ is_q;
  code_is = refl;
  bound = bound;
  earlier = only (λ e. order_of e < order_of b → L e ≢ least) (λ less. eqb-false _ _ is_p) (λ less. absurd (omega arith)) (λ less. absurd (omega arith))
      (λ less. absurd (omega arith));
}
first_of_four L kind a b c d only a_is b_is c_is d_is a_b b_c c_d least false false true is_p is_q is_r bound last = record {
  way = c;
  kind = c_is;
  leads = eqb-true _ _ is_r;
  code_is = refl;
  bound = bound;
  earlier = only (λ e. order_of e < order_of c → L e ≢ least) (λ less. eqb-false _ _ is_p) (λ less. eqb-false _ _ is_q) (λ less. absurd (omega arith))
      (λ less. absurd (omega arith));
}
first_of_four L kind a b c d only a_is b_is c_is d_is a_b b_c c_d least false false false is_p is_q is_r bound last = record {
  way = d;
  kind = d_is;
  leads = last (eqb-false _ _ is_p) (eqb-false _ _ is_q) (eqb-false _ _ is_r);
  code_is = refl;
  bound = bound;
  earlier = only (λ e. order_of e < order_of d → L e ≢ least) (λ less. eqb-false _ _ is_p) (λ less. eqb-false _ _ is_q) (λ less. eqb-false _ _ is_r)
      (λ less. absurd (omega arith));
}

along : (L : Direction → ℕ) → IsFirstOf L true (least_along (map L directions)) (first_along (map L directions) (least_along (map L directions)))
along L =
    let least = least_along (map L directions) in
    first_of_four L true East South West North by_straight refl refl refl refl (omega arith) (omega arith) (omega arith) least (L East == least) (L South == least)
    (L West == least) refl refl refl (bound_along L) (last_of_four (L East) (L South) (L West) (L North))

across : (L : Direction → ℕ) → IsFirstOf L false (least_across (map L directions)) (first_across (map L directions) (least_across (map L directions)))
across L =
    let least = least_across (map L directions) in
    first_of_four L false SouthEast SouthWest NorthWest NorthEast by_aslant refl refl refl refl (omega arith) (omega arith) (omega arith) least (L SouthEast == least)
    (L SouthWest == least) (L NorthWest == least) refl refl refl (bound_across L) (last_of_four (L SouthEast) (L SouthWest) (L NorthWest) (L NorthEast))

-- the steepest of one kind is the steepest of all if it is steeper than each of the other kind
by_kinds : (level : ℕ) (L : Direction → ℕ) (d : Direction) (kind : Bool) → is_straight d ≡ kind → L d < level →
    ((e : Direction) → is_straight e ≡ kind → weight kind ((level - L e) * (level - L e)) ≤ weight kind ((level - L d) * (level - L d))) →
    ((e : Direction) → is_straight e ≡ kind → order_of e < order_of d → weight kind ((level - L e) * (level - L e)) < weight kind ((level - L d) * (level - L d))) →
    ((e : Direction) → is_straight e ≢ kind → key_of level L e < weight kind ((level - L d) * (level - L d))) → IsFirstFall level L d
by_kinds level L d kind is lower most more other = record {
  lower = lower;
  greatest = λ e.
      elim (same_kind (is_straight e) kind) [
        | inl same ↦ subst (λ k. weight k ((level - L e) * (level - L e)) ≤ key_of level L d) (sym same)
            (subst (λ k. weight kind ((level - L e) * (level - L e)) ≤ weight k ((level - L d) * (level - L d))) (sym is) (most e same))
        | inr differ ↦ weaker _ _ (subst (λ k. key_of level L e < weight k ((level - L d) * (level - L d))) (sym is) (other e differ))
      ];
  first = λ e less.
      elim (same_kind (is_straight e) kind) [
        | inl same ↦ subst (λ k. weight k ((level - L e) * (level - L e)) < key_of level L d) (sym same)
            (subst (λ k. weight kind ((level - L e) * (level - L e)) < weight k ((level - L d) * (level - L d))) (sym is) (more e same less))
        | inr differ ↦ subst (λ k. key_of level L e < weight k ((level - L d) * (level - L d))) (sym is) (other e differ)
      ];
}
  where
    same_kind : (a b : Bool) → (a ≡ b) ⊎ (a ≢ b)
    same_kind true true = inl refl
    same_kind true false = inr (λ same. false≢true (sym same))
    same_kind false true = inr (λ same. false≢true same)
    same_kind false false = inl refl

    weaker : (a b : ℕ) → a < b → a ≤ b
    weaker a b less = omega (arith, less)

is_false : (b : Bool) → b ≢ true → b ≡ false
is_false true other = absurd (other refl)
is_false false other = refl

is_true : (b : Bool) → b ≢ false → b ≡ true
is_true true other = refl
is_true false other = absurd (other refl)

straight_first : (level : ℕ) (L : Direction → ℕ) (code : ℕ) (f : IsFirstOf L true (least_along (map L directions)) code) →
    ((level - least_across (map L directions)) * (level - least_across (map L directions))) / 2 < (level - least_along (map L directions)) * (level - least_along (map L directions)) →
    IsFirstFall level L f.way
straight_first level L code f steeper =
    let a = least_along (map L directions) in
    let b = least_across (map L directions) in
    by_kinds level L f.way true f.kind (subst (λ x. x < level) (sym f.leads) (straight_lower level a b steeper))
    (λ e kind. subst (λ x. weight true ((level - L e) * (level - L e)) ≤ weight true ((level - x) * (level - x))) (sym f.leads) (straight_most level a b steeper (L e) (f.bound e kind)))
    (λ e kind less. subst (λ x. weight true ((level - L e) * (level - L e)) < weight true ((level - x) * (level - x))) (sym f.leads)
    (straight_more level a b steeper (L e) (f.bound e kind) (f.earlier e kind less)))
    (λ e kind.
    let aslant = is_false (is_straight e) kind in
    subst (λ x. key_of level L e < weight true ((level - x) * (level - x))) (sym f.leads)
    (subst (λ k. weight k ((level - L e) * (level - L e)) < weight true ((level - a) * (level - a))) (sym aslant) (straight_aslant level a b steeper (L e) (bound_across L e aslant))))

across_first : (level : ℕ) (L : Direction → ℕ) (code : ℕ) (f : IsFirstOf L false (least_across (map L directions)) code) →
    (level - least_along (map L directions)) * (level - least_along (map L directions)) ≤ ((level - least_across (map L directions)) * (level - least_across (map L directions))) / 2 →
    min (least_along (map L directions)) (least_across (map L directions)) < level → IsFirstFall level L f.way
across_first level L code f steeper some =
    let a = least_along (map L directions) in
    let b = least_across (map L directions) in
    by_kinds level L f.way false f.kind (subst (λ x. x < level) (sym f.leads) (across_lower level a b steeper some))
    (λ e kind. subst (λ x. weight false ((level - L e) * (level - L e)) ≤ weight false ((level - x) * (level - x))) (sym f.leads) (across_most level a b steeper some (L e) (f.bound e kind)))
    (λ e kind less. subst (λ x. weight false ((level - L e) * (level - L e)) < weight false ((level - x) * (level - x))) (sym f.leads)
    (across_more level a b steeper some (L e) (f.bound e kind) (f.earlier e kind less)))
    (λ e kind.
    let straight = is_true (is_straight e) kind in
    subst (λ x. key_of level L e < weight false ((level - x) * (level - x))) (sym f.leads)
    (subst (λ k. weight k ((level - L e) * (level - L e)) < weight false ((level - b) * (level - b))) (sym straight) (across_straight level a b steeper some (L e) (bound_along L e straight))))

-- what the code says: no lane is lower, or it is that of the first steepest way down
abbrev pub MeansFall : ℕ → (Direction → ℕ) → ℕ → Type 0
MeansFall level L code = ((code ≡ 0) × ((d : Direction) → level ≤ L d)) ⊎ ((d : Direction) × (code ≡ code_of d) × IsFirstFall level L d)

none_lower : (level : ℕ) (L : Direction → ℕ) → level ≤ min (least_along (map L directions)) (least_across (map L directions)) → (d : Direction) → level ≤ L d
none_lower level L most d =
    elim (cases_Bool (is_straight d)) [
      | inl straight ↦ (let bound = bound_along L d straight in omega (arith, bound, most))
      | inr aslant ↦ (let bound = bound_across L d aslant in omega (arith, bound, most))
    ]

not_less : (a b : ℕ) → nat_lt a b ≡ false → b ≤ a
not_less a b h = grind (arith, nat_tests)

by_tests : (level : ℕ) (L : Direction → ℕ) (some steeper : Bool) →
    nat_lt (min (least_along (map L directions)) (least_across (map L directions))) level ≡ some →
    is_steeper level (least_along (map L directions)) (least_across (map L directions)) ≡ steeper →
    MeansFall level L (if some then (if steeper then first_along (map L directions) (least_along (map L directions))
    else first_across (map L directions) (least_across (map L directions))) else 0)
by_tests level L false steeper is_some is_steeper = inl (refl, none_lower level L (not_less _ _ is_some))
by_tests level L true true is_some is_steeper =
    let f = along L in inr (f.way, f.code_is, straight_first level L _ f ((Decides-ltb _ _).0 is_steeper))
by_tests level L true false is_some is_steeper =
    let f = across L in inr (f.way, f.code_is, across_first level L _ f (not_less _ _ is_steeper) ((Decides-ltb _ _).0 is_some))

pub fall_means : (lane : ℕ) (L : Direction → ℕ) → MeansFall (level_of_lane lane) L (fall_in lane (map L directions))
unfolding fall_in
fall_means lane L = by_tests (level_of_lane lane) L _ _ refl refl
