-- The place of a mosaic that can be read: bounds of its edges, and the spacing of its samples, rounded down.
use Rattle.drain_maker.proofs.Names.{ℕ, zero, suc, ◌/◌, ◌≤◌, ℤ, pos, negsuc, nat_abs, ◌+ℤ◌, ◌-ℤ◌, ◌*ℤ◌, List, [], ◌∷◌, map, fold, refl, arith, ints, clamps, int_min, int_max, AllZip, All-nil, All-cons, All-head, All-tail, IsSide, Corner, IsWithin, IsOnMap, Tiling, least, greatest, west_of, north_of, AreNames, IsBadName}
use Rattle.std.specs.List.{All}
use Rattle.std.proofs.Math.Decide.{dec_lt}
use Rattle.drain_hgt.specs.Name.{IsNameOf}

-- a spacing that is rounded down loses less than the number of steps
pub spacing : (d n : ℕ) → 1 ≤ n → nat_abs (pos (d / n) *ℤ pos n -ℤ pos d) ≤ n
spacing d n some = omega (arith, ints)

-- nothing lies between a number and itself
pub no_way : (units : ℕ) (z : ℤ) → nat_abs (z -ℤ z) ≤ units
no_way units z = omega (arith, ints)

-- the least and the greatest of some degrees are degrees
least_within : (limit : ℕ) (m : ℤ) (xs : List ℤ) → IsWithin limit m → All (IsWithin limit) xs → IsWithin limit (fold int_min m xs)
least_within limit m [] start each = start
least_within limit m (x ∷ xs) start each =
    let first = All-head (IsWithin limit) x xs each in
    least_within limit (int_min m x) xs
    (record { low = omega (arith, ints, clamps, start.low, first.low); high = omega (arith, ints, clamps, start.high, first.high) })
    (All-tail (IsWithin limit) x xs each)

greatest_within : (limit : ℕ) (m : ℤ) (xs : List ℤ) → IsWithin limit m → All (IsWithin limit) xs → IsWithin limit (fold int_max m xs)
greatest_within limit m [] start each = start
greatest_within limit m (x ∷ xs) start each =
    let first = All-head (IsWithin limit) x xs each in
    greatest_within limit (int_max m x) xs
    (record { low = omega (arith, ints, clamps, start.low, first.low); high = omega (arith, ints, clamps, start.high, first.high) })
    (All-tail (IsWithin limit) x xs each)

-- each tile that is named is on the map
all_on_map : (names : List (List ℕ)) (corners : List Corner) → AllZip IsNameOf names corners → All IsOnMap corners
all_on_map [] [] named = All-nil IsOnMap
all_on_map [] (c ∷ corners) named = absurd named
all_on_map (name ∷ names) [] named = absurd named
all_on_map (name ∷ names) (c ∷ corners) named = All-cons IsOnMap c corners (named.0).on_map (all_on_map names corners named.1)

lats_within : (corners : List Corner) → All IsOnMap corners → All (IsWithin 90) (map (λ c. c.lat) corners)
lats_within [] each = All-nil (IsWithin 90)
lats_within (c ∷ corners) each =
    All-cons (IsWithin 90) c.lat (map (λ c. c.lat) corners) (All-head IsOnMap c corners each).lat (lats_within corners (All-tail IsOnMap c corners each))

lons_within : (corners : List Corner) → All IsOnMap corners → All (IsWithin 180) (map (λ c. c.lon) corners)
lons_within [] each = All-nil (IsWithin 180)
lons_within (c ∷ corners) each =
    All-cons (IsWithin 180) c.lon (map (λ c. c.lon) corners) (All-head IsOnMap c corners each).lon (lons_within corners (All-tail IsOnMap c corners each))

nought_within : (limit : ℕ) → 1 ≤ limit → IsWithin limit (pos 0)
nought_within limit some = record { low = omega (arith, ints); high = omega (arith, ints) }

least_of : (limit : ℕ) (xs : List ℤ) → 1 ≤ limit → All (IsWithin limit) xs → IsWithin limit (least xs)
least_of limit [] some each = nought_within limit some
least_of limit (x ∷ xs) some each = least_within limit x (x ∷ xs) (All-head (IsWithin limit) x xs each) each

greatest_of : (limit : ℕ) (xs : List ℤ) → 1 ≤ limit → All (IsWithin limit) xs → IsWithin limit (greatest xs)
greatest_of limit [] some each = nought_within limit some
greatest_of limit (x ∷ xs) some each = greatest_within limit x (x ∷ xs) (All-head (IsWithin limit) x xs each) each

-- the west and the north edge are degrees
pub record IsNear (t : Tiling) : Type 0 where
  pub west : nat_abs (west_of t) ≤ 180
  pub north : nat_abs (north_of t) ≤ 90

near : (limit : ℕ) (x : ℤ) → IsWithin limit x → nat_abs x ≤ limit
near limit (pos n) h = omega (arith, ints, h.high)
near limit (negsuc n) h = omega (arith, ints, h.low)

near_past : (limit : ℕ) (x : ℤ) → IsWithin limit x → nat_abs (x +ℤ pos 1) ≤ limit
near_past limit (pos n) h = omega (arith, ints, h.high)
near_past limit (negsuc zero) h = omega (arith, ints, h.low)
near_past limit (negsuc (suc n)) h = omega (arith, ints, h.low)

is_near : (side : ℕ) (names : List (List ℕ)) (corners : List Corner) → AllZip IsNameOf names corners → IsNear (record { side = side; corners = corners })
is_near side names corners named =
    let each = all_on_map names corners named in
    record {
      west = near 180 _ (least_of 180 (map (λ c. c.lon) corners) (omega arith) (lons_within corners each));
      north = near_past 90 _ (greatest_of 90 (map (λ c. c.lat) corners) (omega arith) (lats_within corners each));
    }

-- where no name is bad, it is not so that not each is the name of a tile
none_bad : (names : List (List ℕ)) → ((k : ℕ) → ¬ IsBadName names k) → ¬ ¬ AreNames names
none_bad [] none not_named = not_named (All-nil (λ name. (c : Corner) × IsNameOf name c))
none_bad (name ∷ names) none not_named =
    none 0 (record {
      name = name;
      is_there = refl;
      names_none = λ c named.
          none_bad names (λ k bad. none (suc k) (record { name = bad.name; is_there = bad.is_there; names_none = bad.names_none }))
          (λ rest. not_named (All-cons (λ name. (c : Corner) × IsNameOf name c) name names (c, named) rest));
    })

-- what can't fail to be at most so much is at most so much
stays : (a b : ℕ) → ¬ ¬ (a ≤ b) → a ≤ b
stays a b holds = elim (dec_lt b a) [ yes more ↦ absurd (holds (λ less. omega arith)) | no less ↦ omega arith ]

-- so the edges are degrees
pub near_by_names : (side : ℕ) (names : List (List ℕ)) (corners : List Corner) → ((k : ℕ) → ¬ IsBadName names k) →
    (AreNames names → AllZip IsNameOf names corners) → IsNear (record { side = side; corners = corners })
near_by_names side names corners none named = record {
  west = stays _ 180 (λ far. none_bad names none (λ each. far (is_near side names corners (named each)).west));
  north = stays _ 90 (λ far. none_bad names none (λ each. far (is_near side names corners (named each)).north));
}

-- a side that can't fail to be lawful is lawful
pub side_by_readable : (side : ℕ) → ¬ ¬ IsSide side → IsSide side
side_by_readable side holds = record { least = stays 2 side (λ no. holds (λ is. no is.least)); most = stays side 3601 (λ no. holds (λ is. no is.most)) }
