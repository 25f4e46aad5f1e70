-- What is seen of the neighbours of a cell in three rows of lanes: the numbers of those with data.
use Rattle.drain_kernel.proofs.Names.{◌≡◌, ◌≢◌, ℕ, ◌<◌, ℤ, pos, Bool, true, false, ◌==◌, ◌&&◌, map, Option, Some, None, IsSome, is_some, slice_index, refl, sym, ◌∙◌, ap, subst, arith, if◌then◌else◌, false≢true, Decides-eqb, Direction, East, SouthEast, South, SouthWest, West, NorthWest, North, NorthEast, Patch, directions, code_of, names, opposite, Distances, Values, AccumulationHolds, inflow, same_some, LaneNumbers, highest, seen_code, seen_con, lowered, HasDataAt, IsShownRound, Shows, row_beside, col_beside, passed_on}
use Rattle.drain_kernel.specs.Shown.{height_of}
use Rattle.drain_kernel.specs.Tests.{adds_up}
use Rattle.drain_kernel.proofs.Inland.{of_each, some_height}
use Rattle.drain_kernel.proofs.Numbers.{Numbers, numbers_in, patch_of, values_of}
use Rattle.drain_kernel.proofs.Counting.{inflow_passed, total_is}
use Rattle.drain_kernel.proofs.Ways.{AreSeen}

-- what is seen of a neighbour with data is its number
seen_data : (z hidden x : ℕ) → z ≢ 0 → (if z == 0 then hidden else x) ≡ x
seen_data z hidden x there = by_test (z == 0) (Decides-eqb z 0).0
  where
    by_test : (b : Bool) → (b ≡ true → z ≡ 0) → (if b then hidden else x) ≡ x
    by_test true is = absurd (there (is refl))
    by_test false is = refl

-- a con that is seen below the greatest height is that of a neighbour with data
seen_low : (bias z con : ℕ) → seen_con bias z con < highest bias → z ≢ 0
seen_low bias z con low zero = let none : highest bias < highest bias = subst (λ x. seen_con bias x con < highest bias) zero low in absurd (omega (arith, none))

-- a lane with an elevation isn't 0
some_lane : (bias z : ℕ) (o : Option ℤ) → o ≡ height_of bias z → IsSome o → z ≢ 0
some_lane bias z o is some zero = let none : o ≡ None = is ∙ ap (height_of bias) zero in false≢true (subst IsSome none some)

-- what a neighbour passes on by its patch is what is seen of it
zero_leads_nowhere : (d : Direction) → (0 == code_of (opposite d)) ≡ false
zero_leads_nowhere = of_each (λ d. (0 == code_of (opposite d)) ≡ false) refl refl refl refl refl refl refl refl

inflow_seen : (d : Direction) (bias z code acc : ℕ) (v : Values) → v.z ≡ height_of bias z → (z ≢ 0 → v.dir ≡ pos code) → (z ≢ 0 → v.acc ≡ pos acc) →
    inflow (Some v) d ≡ pos (passed_on (seen_code z code) (code_of (opposite d)) acc)
inflow_seen d bias z code acc v z_is dir_is acc_is = by_test (z == 0) (Decides-eqb z 0).1 z_is
  where
    by_test : (b : Bool) → (z ≡ 0 → b ≡ true) → v.z ≡ (if b then None else Some (lowered bias z)) →
        inflow (Some v) d ≡ pos (passed_on (if b then 0 else code) (code_of (opposite d)) acc)
    by_test true is void =
        let none : inflow (Some v) d ≡ pos 0 = ap (λ (o : Option ℤ). if is_some o && names v.dir (opposite d) then v.acc else pos 0) void in
        none ∙ sym (ap (λ b. pos (if b then acc else 0)) (zero_leads_nowhere d))
    by_test false is known =
        let there : z ≢ 0 = λ zero. false≢true (is zero) in
        let some : inflow (Some v) d ≡ (if true && (code == code_of (opposite d)) then pos acc else pos 0) =
        λ i. if is_some (known i) && names (dir_is there i) (opposite d) then acc_is there i else pos 0 in
        some ∙ inflow_passed true (code == code_of (opposite d)) acc refl

-- the numbers that are seen of a cell
abbrev seen_in : Distances → ℕ → LaneNumbers → ℕ → Values → Numbers
seen_in spacing bias row k v = record (numbers_in spacing row k v) { con = seen_con bias (slice_index row.z k) (slice_index row.con k) }

-- those of the neighbours
abbrev pub numbers_seen : (above here below : LaneNumbers) (k : ℕ) (p : Patch) → IsShownRound above here below k p → Direction → Numbers
numbers_seen above here below k p shown d = seen_in p.spacing here.bias (row_beside above here below d) (col_beside k d) (shown.around_is d).0

-- they are the neighbour's, if it has data
seen_are_values : (spacing : Distances) (bias : ℕ) (row : LaneNumbers) (k : ℕ) (v : Values) → Shows row k v → HasDataAt row k → values_of (seen_in spacing bias row k v) ≡ v
seen_are_values spacing bias row k v s there =
    let con : lowered row.bias (seen_con bias (slice_index row.z k) (slice_index row.con k)) ≡ v.con =
    ap (lowered row.bias) (seen_data (slice_index row.z k) (highest bias) (slice_index row.con k) there) ∙ sym (s.con_is there) in
    λ i. record {
      z = sym s.z_is i;
      sink = v.sink;
      con = con i;
      dir = sym (s.dir_is there) i;
      acc = sym (s.acc_is there) i;
      bas = sym (s.bas_is there) i;
      spl = v.spl;
      rnk = v.rnk;
    }

module _ (above here below : LaneNumbers) (k : ℕ) (p : Patch) (shown : IsShownRound above here below k p)
    (same : (d : Direction) → (row_beside above here below d).bias ≡ here.bias) where
  abbrev own : Numbers
  own = numbers_in p.spacing here k p.here

  abbrev beside : Direction → Numbers
  beside = numbers_seen above here below k p shown

  -- they are those of the data neighbours
  pub are_seen : AreSeen (highest here.bias) own beside p.around
  are_seen = record {
    bias_is = same;
    data_is = λ d m found.
        let v = (shown.around_is d).0 in
        let at = (shown.around_is d).1 in
        let same : v ≡ m = same_some v m (sym at.is ∙ found.is) in
        let some : IsSome v.z = subst (λ (w : Values). IsSome w.z) (sym same) found.has_data in
        seen_are_values p.spacing here.bias (row_beside above here below d) (col_beside k d) v at.shown (some_lane _ _ v.z at.shown.z_is some) ∙ same;
    has_data = λ d low.
        let v = (shown.around_is d).0 in
        let at = (shown.around_is d).1 in
        let there = seen_low here.bias _ _ low in
        record {
          is = at.is ∙ ap Some (sym (seen_are_values p.spacing here.bias (row_beside above here below d) (col_beside k d) v at.shown there));
          has_data = ap is_some (some_height _ _ there);
        };
  }

  -- what the test of the sum gives
  pub sum_from : adds_up own.acc (map (λ d. seen_code (beside d).z (beside d).dir) directions) (map (λ d. (beside d).acc) directions) ≡ true →
      AccumulationHolds (patch_of own p.around)
  unfolding adds_up
  sum_from h =
      let from = λ (d : Direction).
      let at = (shown.around_is d).1 in
      ap (λ o. inflow o d) at.is ∙
      inflow_seen d (beside d).bias (beside d).z (beside d).dir (beside d).acc (shown.around_is d).0 at.shown.z_is at.shown.dir_is at.shown.acc_is in
      λ _. total_is own.acc _ _ _ _ _ _ _ _ _ _ _ _ _ _ _ _ (from East) (from SouthEast) (from South) (from SouthWest) (from West) (from NorthWest)
      (from North) (from NorthEast) ((Decides-eqb _ _).0 h)
