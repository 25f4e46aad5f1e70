-- A cell and eight neighbours that all have data, the cell not listed as a sink: what its patch shows, and what the test of the surface gives.
use Rattle.drain_kernel.proofs.Names.{◌≡◌, ◌≢◌, ℕ, ◌≤◌, pos, ◌≤ℤ◌, Bool, true, false, not, ◌==◌, nat_le, max, map, List, Option, Some, None, is_some, option_map, unwrap_or, inl, inr, refl, sym, ◌∙◌, ap, subst, arith, if◌then◌else◌, int_max, false≢true, and_parts, Decides-eqb, leb_tells, ints, clamps, Direction, East, SouthEast, South, SouthWest, West, NorthWest, North, NorthEast, directions, Values, IsGap, neighbor, height, IsDataNeighbor, IsOpen, BelowGroundHolds, NotLeastHolds, same_some, HaveOneBias, ThreeLanes, lowered, row_beside}
use Rattle.drain_kernel.specs.Shown.{height_of}
use Rattle.drain_kernel.specs.Tests.{keeps_surface}
use Rattle.drain_kernel.proofs.Numbers.{Numbers, values_of, patch_of}
use Rattle.drain_kernel.proofs.NamedNumbers.{least_bound}

pub le_from : (a b : ℕ) → nat_le a b ≡ true → a ≤ b
le_from a b h = elim (leb_tells a b) [ inl told ↦ told.1 | inr told ↦ absurd (false≢true (sym told.0 ∙ h)) ]

-- the neighbours are these, they and the cell have data, and the cell isn't listed
pub record IsInland (here : Numbers) (n : Direction → Numbers) (around : List (Option Values)) : Type 0 where
  pub neighbor_is : (d : Direction) → neighbor (patch_of here around) d ≡ Some (values_of (n d))
  pub bias_is : (d : Direction) → (n d).bias ≡ here.bias
  pub not_listed : here.sink ≡ false
  pub here_is : height_of here.bias here.z ≡ Some (lowered here.bias here.z)
  pub beside_is : (d : Direction) → height_of (n d).bias (n d).z ≡ Some (lowered (n d).bias (n d).z)

pub of_each : (P : Direction → Type 0) → P East → P SouthEast → P South → P SouthWest → P West → P NorthWest → P North → P NorthEast → (d : Direction) → P d
of_each P e se s sw w nw nth ne East = e
of_each P e se s sw w nw nth ne SouthEast = se
of_each P e se s sw w nw nth ne South = s
of_each P e se s sw w nw nth ne SouthWest = sw
of_each P e se s sw w nw nth ne West = w
of_each P e se s sw w nw nth ne NorthWest = nw
of_each P e se s sw w nw nth ne North = nth
of_each P e se s sw w nw nth ne NorthEast = ne

pub no_void : (z : ℕ) → not (z == 0) ≡ true → z ≢ 0
no_void z h void = by_test (z == 0) h ((Decides-eqb z 0).1 void)
  where
    by_test : (b : Bool) → not b ≡ true → b ≢ true
    by_test true e same = false≢true e
    by_test false e same = false≢true same

pub some_height : (bias z : ℕ) → z ≢ 0 → height_of bias z ≡ Some (lowered bias z)
some_height bias z there = by_test (z == 0) (Decides-eqb z 0).0
  where
    by_test : (b : Bool) → (b ≡ true → z ≡ 0) → (if b then None else Some (lowered bias z)) ≡ Some (lowered bias z)
    by_test true is = absurd (there (is refl))
    by_test false is = refl

pub inland_from : (here : Numbers) (n : Direction → Numbers) (around : List (Option Values)) →
    ((d : Direction) → neighbor (patch_of here around) d ≡ Some (values_of (n d))) → ((d : Direction) → (n d).bias ≡ here.bias) → here.sink ≡ false → here.z ≢ 0 →
    ((d : Direction) → (n d).z ≢ 0) → IsInland here n around
inland_from here n around neighbors biases not_listed here_has beside_has = record {
  neighbor_is = neighbors;
  bias_is = biases;
  not_listed = not_listed;
  here_is = some_height here.bias here.z here_has;
  beside_is = λ d. some_height (n d).bias (n d).z (beside_has d);
}

-- rows with one bias
pub bias_beside : (bias : ℕ) (rows : ThreeLanes) → HaveOneBias bias rows → (d : Direction) →
    (row_beside rows.above rows.here rows.below d).bias ≡ rows.here.bias
bias_beside bias rows one = of_each (λ d. (row_beside rows.above rows.here rows.below d).bias ≡ rows.here.bias) refl under under under refl over over over
  where
    under : rows.below.bias ≡ rows.here.bias
    under = one.below_is ∙ sym one.here_is

    over : rows.above.bias ≡ rows.here.bias
    over = one.above_is ∙ sym one.here_is

-- each neighbour is a data neighbour
pub is_beside : (here : Numbers) (n : Direction → Numbers) (around : List (Option Values)) → IsInland here n around → (d : Direction) →
    IsDataNeighbor (patch_of here around) d (values_of (n d))
is_beside here n around known d = record { is = known.neighbor_is d; has_data = ap is_some (known.beside_is d) }

-- and there is no other
pub of_beside : (here : Numbers) (n : Direction → Numbers) (around : List (Option Values)) → IsInland here n around → (d : Direction) (m : Values)
    (P : Values → Type 0) → P (values_of (n d)) → IsDataNeighbor (patch_of here around) d m → P m
of_beside here n around known d m P has beside = subst P (same_some (values_of (n d)) m (sym (known.neighbor_is d) ∙ beside.is)) has

pub not_open : (here : Numbers) (n : Direction → Numbers) (around : List (Option Values)) → IsInland here n around → ¬ IsOpen (patch_of here around)
not_open here n around known opened = elim opened.1 [
  | inl listed ↦ absurd (false≢true (sym known.not_listed ∙ listed))
  | inr beside ↦ (
      let d = beside.0 in
      let gap = subst (λ o. IsGap (option_map (λ (v : Values). v.z) o)) (known.neighbor_is d) beside.1 in
      subst (λ o. IsGap (Some o)) (known.beside_is d) gap)
]

height_is : (here : Numbers) (n : Direction → Numbers) (around : List (Option Values)) → IsInland here n around →
    height (patch_of here around) ≡ lowered here.bias here.z
height_is here n around known = ap (λ o. unwrap_or o (pos 0)) known.here_is

le_lowered : (bias a b : ℕ) → a ≤ b → lowered bias a ≤ℤ lowered bias b
le_lowered bias a b h = omega (arith, ints)

at_most_max : (bias other con z l x : ℕ) → other ≡ bias → con ≤ max z l → l ≤ x → lowered bias con ≤ℤ int_max (lowered bias z) (lowered other x)
at_most_max bias other con z l x same h k = omega (arith, ints, clamps)

-- what the test of the surface gives
pub record OfSurface (here : Numbers) (around : List (Option Values)) : Type 0 where
  pub below_ground : BelowGroundHolds (patch_of here around)
  pub not_least : NotLeastHolds (patch_of here around)

pub of_surface : (here : Numbers) (n : Direction → Numbers) (around : List (Option Values)) → IsInland here n around →
    keeps_surface here.z here.con (map (λ d. (n d).con) directions) ≡ true → OfSurface here around
unfolding keeps_surface
of_surface here n around known h =
    let p = patch_of here around in
    let parts = and_parts _ _ h in
    let ground_is : height p ≡ lowered here.bias here.z = height_is here n around known in
    record {
      below_ground = λ _. subst (λ x. x ≤ℤ lowered here.bias here.con) (sym ground_is) (le_lowered here.bias here.z here.con (le_from here.z here.con parts.0));
      not_least = λ _ d m beside.
          let most = le_from _ _ parts.1 in
          of_beside here n around known d m (λ v. lowered here.bias here.con ≤ℤ int_max (height p) v.con)
          (subst (λ x. lowered here.bias here.con ≤ℤ int_max x (lowered (n d).bias (n d).con)) (sym ground_is)
          (at_most_max here.bias (n d).bias here.con here.z _ (n d).con (known.bias_is d) most (least_bound (λ d. (n d).con) d))) beside;
    }
