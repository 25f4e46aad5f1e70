-- Keys and steepest ways down: where some key is above 0, the directions with the greatest key are the steepest.
use Rattle.drain_slope.proofs.Names.{◌≡◌, ℕ, zero, suc, ◌+◌, ◌*◌, ◌≤◌, IsTrue, not, ◌<◌, ◌↔◌, ℤ, pos, negsuc, ◌-ℤ◌, ◌*ℤ◌, ◌≤ℤ◌, ◌<ℤ◌, Bool, true, false, ◌&&◌, int_lt, Option, Some, None, is_some, if◌then◌else◌, get_or, refl, sym, ◌∙◌, ap, subst, arith, below_more, ints, by_lt_z, false≢true, Direction, East, Patch, directions, order_of, Values, height_of, slope_key, key_to, IsSteepest, IsFirstSteepest, IsSpacing, distance_square, weight_of, less_complete, less_sound, of_each, of_earlier, drop_of, drop_at, key_at, IsFirstGreatest, IsLowerCon, IsLowerNumber, weight_above_0, steeper_across}
use Rattle.drain_grid.specs.Patch.{neighbor, IsDataCell, IsLower, IsLowerAt, HasLower}
use Rattle.drain_grid.proofs.SingleHeights.{numbers_order}
use Rattle.drain_slope.proofs.Places.{place_at}

-- the drop towards a lower neighbour
drop_of_lower : (p : Patch) (d : Direction) (n : Values) → IsLower p d n → drop_at p d ≡ height_of p.spacing.kind p.here.con -ℤ height_of p.spacing.kind n.con
drop_of_lower p d n lower =
    ap (drop_of p) lower.beside.is ∙ by_tests (is_some n.z) (int_lt n.con p.here.con) lower.beside.has_data (less_complete n.con p.here.con lower.below)
  where
    by_tests : (a b : Bool) → a ≡ true → b ≡ true → (if a && b then height_of p.spacing.kind p.here.con -ℤ height_of p.spacing.kind n.con else pos 0) ≡ height_of p.spacing.kind p.here.con -ℤ height_of p.spacing.kind n.con
    by_tests true true ha hb = refl
    by_tests true false ha hb = absurd (false≢true hb)
    by_tests false b ha hb = absurd (false≢true ha)

drop_above_0 : (here there drop : ℤ) → drop ≡ here -ℤ there → there <ℤ here → pos 0 <ℤ drop
drop_above_0 here there drop is h = omega (arith, ints)

-- is above 0
pub lower_drops : (p : Patch) (d : Direction) (n : Values) → IsLower p d n → pos 0 <ℤ drop_at p d
lower_drops p d n lower =
    drop_above_0 (height_of p.spacing.kind p.here.con) (height_of p.spacing.kind n.con) (drop_at p d) (drop_of_lower p d n lower)
    ((numbers_order p.spacing.kind n.con p.here.con).0 lower.below)

-- and only there
pub lower_from_drop : (p : Patch) (d : Direction) → pos 0 <ℤ drop_at p d → IsLowerAt p d
lower_from_drop p d above = by_neighbor (neighbor p d) refl above
  where
    by_tests : (n : Values) (a b : Bool) → is_some n.z ≡ a → int_lt n.con p.here.con ≡ b → neighbor p d ≡ Some n →
        pos 0 <ℤ (if a && b then height_of p.spacing.kind p.here.con -ℤ height_of p.spacing.kind n.con else pos 0) → IsLowerAt p d
    by_tests n true true has_data less is h = (n, record { beside = record { is = is; has_data = has_data }; below = less_sound n.con p.here.con less })
    by_tests n true false has_data less is h = absurd (omega (arith, ints))
    by_tests n false b has_data less is h = absurd (omega (arith, ints))

    by_neighbor : (o : Option Values) → neighbor p d ≡ o → pos 0 <ℤ drop_of p o → IsLowerAt p d
    by_neighbor None is h = absurd (omega (arith, ints))
    by_neighbor (Some n) is h = by_tests n (is_some n.z) (int_lt n.con p.here.con) refl refl is h

-- the key towards a lower neighbour
key_of_lower : (p : Patch) (d : Direction) (n : Values) → IsLower p d n → key_at p d ≡ key_to p d n
key_of_lower p d n lower = ap (slope_key (weight_of p.spacing d)) (drop_of_lower p d n lower)

-- a key is above 0 exactly where the drop is
key_above_0 : (weight : ℕ) (drop : ℤ) → 0 < weight → pos 0 <ℤ drop → pos 0 <ℤ slope_key weight drop
key_above_0 zero drop some h = absurd (omega arith)
key_above_0 (suc w) (pos zero) some h = absurd (omega (arith, ints))
key_above_0 (suc w) (pos (suc k)) some h = omega (arith, ints)
key_above_0 (suc w) (negsuc k) some h = absurd (omega (arith, ints))

pub not_less_is : (a b : ℤ) → ¬ (a <ℤ b) → b ≤ℤ a
not_less_is a b h = by_lt_z a b (λ less. absurd (h less)) (λ most. omega (arith, ints, most))

-- no drop is below 0
drop_from_0 : (p : Patch) (d : Direction) → pos 0 ≤ℤ drop_at p d
drop_from_0 p d = by_neighbor (neighbor p d)
  where
    by_tests : (n : Values) (a b : Bool) → int_lt n.con p.here.con ≡ b → pos 0 ≤ℤ (if a && b then height_of p.spacing.kind p.here.con -ℤ height_of p.spacing.kind n.con else pos 0)
    by_tests n true true less = let below = (numbers_order p.spacing.kind n.con p.here.con).0 (less_sound n.con p.here.con less) in omega (arith, ints, below)
    by_tests n true false less = omega (arith, ints)
    by_tests n false b less = omega (arith, ints)

    by_neighbor : (o : Option Values) → pos 0 ≤ℤ drop_of p o
    by_neighbor None = omega (arith, ints)
    by_neighbor (Some n) = by_tests n (is_some n.z) (int_lt n.con p.here.con) refl

no_key : (weight : ℕ) (drop : ℤ) → drop ≡ pos 0 → slope_key weight drop ≡ pos 0
no_key weight drop none = ap (slope_key weight) none ∙ zero_key weight
  where
    zero_key : (w : ℕ) → pos w *ℤ (pos 0 *ℤ pos 0) ≡ pos 0
    zero_key w = omega (arith, ints)

drop_from_key : (p : Patch) (d : Direction) → pos 0 <ℤ key_at p d → pos 0 <ℤ drop_at p d
drop_from_key p d above =
    let least = drop_from_0 p d in
    by_drop (drop_at p d) refl least
  where
    by_drop : (drop : ℤ) → drop_at p d ≡ drop → pos 0 ≤ℤ drop → pos 0 <ℤ drop_at p d
    by_drop (pos zero) is least = absurd (let none : key_at p d ≡ pos 0 = no_key (weight_of p.spacing d) (drop_at p d) is in omega (arith, ints))
    by_drop (pos (suc k)) is least = omega (arith, ints)
    by_drop (negsuc k) is least = absurd (omega (arith, ints))

-- the key in a direction of a lower neighbour is above 0
lower_key : (p : Patch) (d : Direction) (n : Values) → IsSpacing p.spacing → IsLower p d n → pos 0 <ℤ key_at p d
lower_key p d n valid lower = key_above_0 (weight_of p.spacing d) (drop_at p d) (weight_above_0 p.spacing d valid) (lower_drops p d n lower)

-- a way down whose key is the greatest is a steepest
steepest_from_key : (p : Patch) (d : Direction) → pos 0 <ℤ drop_at p d → ((e : Direction) → key_at p e ≤ℤ key_at p d) → IsSteepest p d
steepest_from_key p d drops greatest =
    let way = lower_from_drop p d drops in (
      way.0,
      record {
        lower = way.1;
        greatest = λ e m lower.
            subst (λ k. key_to p e m ≤ℤ k) (key_of_lower p d way.0 way.1) (subst (λ k. k ≤ℤ key_at p d) (key_of_lower p e m lower) (greatest e));
      },
    )

-- the key of a steepest is the greatest
key_from_steepest : (p : Patch) (d e : Direction) → IsSpacing p.spacing → IsSteepest p d → key_at p e ≤ℤ key_at p d
key_from_steepest p d e valid steepest =
    let own = key_of_lower p d steepest.0 steepest.1.lower in
    let some = lower_key p d steepest.0 valid steepest.1.lower in
    by_key (key_at p e) refl some own
  where
    by_key : (k : ℤ) → key_at p e ≡ k → pos 0 <ℤ key_at p d → key_at p d ≡ key_to p d steepest.0 → key_at p e ≤ℤ key_at p d
    by_key (pos zero) is some own = omega (arith, ints)
    by_key (negsuc k) is some own = omega (arith, ints)
    by_key (pos (suc k)) is some own =
        let way = lower_from_drop p e (drop_from_key p e (omega (arith, ints))) in
        let most = steepest.1.greatest e way.0 way.1 in
        subst (λ x. x ≤ℤ key_at p d) (sym (key_of_lower p e way.0 way.1)) (subst (λ x. key_to p e way.0 ≤ℤ x) (sym own) most)

-- the first of the greatest keys is that of the first steepest, if it is of a way down
pub first_steepest : (p : Patch) (d : Direction) → IsSpacing p.spacing → IsDataCell p → pos 0 <ℤ drop_at p d → IsFirstGreatest p d →
    IsFirstSteepest p (Some d)
first_steepest p d valid is_data drops first = (
  (is_data, (d, lower_from_drop p d drops)),
  steepest_from_key p d drops first.greatest,
  λ e before steepest.
      (let most = key_from_steepest p e d valid steepest in
      let less = first.first e before in
      absurd (omega (arith, ints, most, less))),
)

-- and else no neighbour is lower
pub none_lower : (p : Patch) (d : Direction) → IsSpacing p.spacing → drop_at p d ≡ pos 0 → IsFirstGreatest p d → ¬ HasLower p
none_lower p d valid none first low =
    let at = low.1 in
    let above = lower_key p at.0 at.1.0 valid at.1.1 in
    let most = first.greatest at.0 in
    let no : key_at p d ≡ pos 0 = no_key (weight_of p.spacing d) (drop_at p d) none in
    absurd (omega (arith, ints, above, most, no))

-- a direction is steepest exactly where the first steepest isn't steeper
pub as_steep : (p : Patch) (d steepest : Direction) → IsSpacing p.spacing → IsFirstSteepest p (Some steepest) →
    (¬ (key_at p d <ℤ key_at p steepest)) ↔ IsSteepest p d
as_steep p d steepest valid first = (
  (λ not_less.
      let some = lower_key p steepest first.1.0 valid first.1.1.lower in
      let most : key_at p steepest ≤ℤ key_at p d = not_less_is (key_at p d) (key_at p steepest) not_less in
      steepest_from_key p d (drop_from_key p d (omega (arith, ints, some, most)))
      (λ e. let greatest = key_from_steepest p steepest e valid first.1 in omega (arith, ints, most, greatest))),
  (λ h less. let most = key_from_steepest p d steepest valid h in absurd (omega (arith, ints, most, less))),
)

-- the first of the greatest keys of the directions before a place; before the first place, East
pub record IsGreatestBefore (p : Patch) (i : ℕ) (d : Direction) : Type 0 where
  pub greatest : (k : ℕ) → k < i → key_at p (get_or directions k East) ≤ℤ key_at p d
  pub first : (e : Direction) → order_of e < order_of d → key_at p e <ℤ key_at p d

pub greatest_before_first : (p : Patch) → IsGreatestBefore p 0 East
greatest_before_first p = record { greatest = λ k h. absurd (omega arith); first = λ e h. absurd (omega arith) }

-- a steeper one takes its place
pub greatest_taken : (p : Patch) (i : ℕ) (d : Direction) → i < 8 → IsGreatestBefore p i d → key_at p d <ℤ key_at p (get_or directions i East) →
    IsGreatestBefore p (i + 1) (get_or directions i East)
greatest_taken p i d inside before less = record {
  greatest = below_more _ _ (λ k h. let so_far = before.greatest k h in omega (arith, ints, so_far, less)) (omega (arith, ints));
  first = λ e earlier.
      of_earlier (λ x. key_at p x <ℤ key_at p (get_or directions i East)) i
      (λ k h. let so_far = before.greatest k h in omega (arith, ints, so_far, less)) e (subst (λ (n : ℕ). order_of e < n) (place_at i inside) earlier);
}

pub greatest_left : (p : Patch) (i : ℕ) (d : Direction) → IsGreatestBefore p i d → ¬ (key_at p d <ℤ key_at p (get_or directions i East)) →
    IsGreatestBefore p (i + 1) d
greatest_left p i d before not_less = record {
  greatest = below_more _ _ before.greatest (not_less_is (key_at p d) (key_at p (get_or directions i East)) not_less);
  first = before.first;
}

pub first_of_all : (p : Patch) (i : ℕ) (d : Direction) → i ≡ 8 → IsGreatestBefore p i d → IsFirstGreatest p d
first_of_all p i d last before = record {
  greatest = of_each (λ e. key_at p e ≤ℤ key_at p d) i last before.greatest;
  first = before.first;
}

-- drops as the code has them
pub drops_by_number : (p : Patch) (d : Direction) (drop : ℕ) → pos drop ≡ drop_at p d → 0 < drop → pos 0 <ℤ drop_at p d
drops_by_number p d drop is some = subst (λ x. pos 0 <ℤ x) is (omega (arith, ints, some))

pub no_drop_by_number : (p : Patch) (d : Direction) (drop : ℕ) → pos drop ≡ drop_at p d → drop ≤ 0 → drop_at p d ≡ pos 0
no_drop_by_number p d drop is none = let zero_drop : drop ≡ 0 = omega (arith, none) in sym is ∙ ap pos zero_drop

-- the products across that the code compares
pub steeper_by_drops : (p : Patch) (first second : Direction) (x y over other : ℕ) → IsSpacing p.spacing → pos x ≡ drop_at p first →
    pos y ≡ drop_at p second → over ≡ distance_square p.spacing first → other ≡ distance_square p.spacing second → (less : Bool) →
    IsTrue less ↔ ((y * y) * over < (x * x) * other) → IsTrue less ↔ (key_at p second <ℤ key_at p first)
steeper_by_drops p first second x y over other valid is_x is_y is_over is_other less decides =
    let order = steeper_across p.spacing first second x y valid in (
      (λ h. subst (λ k. key_at p second <ℤ slope_key (weight_of p.spacing first) k) is_x
          (subst (λ k. slope_key (weight_of p.spacing second) k <ℤ slope_key (weight_of p.spacing first) (pos x)) is_y
          (order.0 (subst (λ k. (y * y) * k < (x * x) * distance_square p.spacing second) is_over
          (subst (λ k. (y * y) * over < (x * x) * k) is_other (decides.0 h)))))),
      (λ h. decides.1 (subst (λ k. (y * y) * over < (x * x) * k) (sym is_other)
          (subst (λ k. (y * y) * k < (x * x) * distance_square p.spacing second) (sym is_over)
          (order.1 (subst (λ k. slope_key (weight_of p.spacing second) k <ℤ slope_key (weight_of p.spacing first) (pos x)) (sym is_y)
          (subst (λ k. key_at p second <ℤ slope_key (weight_of p.spacing first) k) (sym is_x) h)))))),
    )

-- the same of a test
pub as_steep_by_test : (p : Patch) (d steepest : Direction) (steeper : Bool) → IsSpacing p.spacing → IsFirstSteepest p (Some steepest) →
    IsTrue steeper ↔ (key_at p d <ℤ key_at p steepest) → IsTrue (not steeper) ↔ IsSteepest p d
as_steep_by_test p d steepest true valid first decides =
    ((λ h. absurd (false≢true h)), (λ h. absurd ((as_steep p d steepest valid first).1 h (decides.0 refl))))
as_steep_by_test p d steepest false valid first decides =
    ((λ _. (as_steep p d steepest valid first).0 (λ less. false≢true (decides.1 less))), (λ _. refl))

-- a drop is a natural number
pub natural_drop : (p : Patch) (d : Direction) → (k : ℕ) × (pos k ≡ drop_at p d)
natural_drop p d = let least = drop_from_0 p d in by_drop (drop_at p d) refl least
  where
    by_drop : (drop : ℤ) → drop_at p d ≡ drop → pos 0 ≤ℤ drop → (k : ℕ) × (pos k ≡ drop_at p d)
    by_drop (pos k) is least = (k, sym is)
    by_drop (negsuc k) is least = absurd (omega (arith, ints, least))

-- one that isn't above 0 is 0
pub no_drop : (p : Patch) (d : Direction) → ¬ (pos 0 <ℤ drop_at p d) → drop_at p d ≡ pos 0
no_drop p d none = let least = drop_from_0 p d in let most = not_less_is (pos 0) (drop_at p d) none in omega (arith, ints, least, most)

-- a lower neighbour is one whose number there is
pub drops_by_con : (p : Patch) (d : Direction) (con : ℤ) → IsLowerNumber p d con → pos 0 <ℤ drop_at p d
drops_by_con p d con lower =
    drop_above_0 (height_of p.spacing.kind p.here.con) (height_of p.spacing.kind con) (drop_at p d) lower.drop ((numbers_order p.spacing.kind con p.here.con).0 lower.below)

pub leads_by_con : (p : Patch) (d : Direction) (o : Option ℤ) → IsLowerCon p d o → IsTrue (is_some o) ↔ (pos 0 <ℤ drop_at p d)
leads_by_con p d None is = ((λ h. absurd (false≢true h)), (λ h. absurd (omega (arith, ints, is, h))))
leads_by_con p d (Some con) is = ((λ _. drops_by_con p d con is), (λ _. refl))

-- of two ways of which one leads down
pub steeper_than_none : (p : Patch) (first second : Direction) → IsSpacing p.spacing → pos 0 <ℤ drop_at p first → drop_at p second ≡ pos 0 →
    key_at p second <ℤ key_at p first
steeper_than_none p first second valid drops none =
    let above = key_above_0 (weight_of p.spacing first) (drop_at p first) (weight_above_0 p.spacing first valid) drops in
    let zero_key = no_key (weight_of p.spacing second) (drop_at p second) none in
    omega (arith, ints, above, zero_key)

pub none_not_steeper : (p : Patch) (first second : Direction) → IsSpacing p.spacing → drop_at p first ≡ pos 0 → ¬ (key_at p second <ℤ key_at p first)
none_not_steeper p first second valid none less =
    let zero_key = no_key (weight_of p.spacing first) (drop_at p first) none in
    let least = key_from_0 (weight_of p.spacing second) (drop_at p second) (drop_from_0 p second) in
    omega (arith, ints, less, zero_key, least)
  where
    key_from_0 : (weight : ℕ) (drop : ℤ) → pos 0 ≤ℤ drop → pos 0 ≤ℤ slope_key weight drop
    key_from_0 weight (pos k) least = omega (arith, ints)
    key_from_0 weight (negsuc k) least = absurd (omega (arith, ints, least))
