-- What the report of a box lists, from the sorted lists of its windows.
use Rattle.drain_merge.proofs.Names.{◌≡◌, ◌↔◌, ℕ, ◌+◌, ◌-◌, ◌<◌, ◌≤◌, min, inl, inr, List, [], ◌∷◌, ◌++◌, length, slice_index_or, sym, ap, subst, ◌∙◌, below_more, arith, All, Contains, IsPermutation, length-append, All-contains, Contains-permutation, IsPermutation-sym, Distances, unit_spacing, Cell, IsSortedByLabel, ShowTheSame, spacing_at, Place, Outlet, Shown, WindowReport, pairs, AreAll, HasRow, IsSpacingOfRow, spacing_in, SpacesBox, HaveOneSpacing, HaveRowsAlike, all_outlets, all_seams, all_sinks}
use Rattle.std.proofs.Math.ListN.{get_or-append}
use Rattle.std.proofs.Math.Seq.{get_or-append_seam}
use Rattle.drain_merge.proofs.OuterSeams.{AreOuterOf}

permuted : {X : Type 0} (xs ys : List X) → IsPermutation xs ys → (x : X) → Contains ys x ↔ Contains xs x
permuted xs ys theirs x = (Contains-permutation ys xs x (IsPermutation-sym xs ys theirs), Contains-permutation xs ys x theirs)

pub all_listed : (p : Place) (ws : List WindowReport) (outlets : List Outlet) (shown outer : List Shown) (sinks : List Cell) → IsSortedByLabel outlets →
    IsPermutation (all_outlets ws) outlets → IsPermutation (all_seams ws) shown → AreOuterOf p shown outer → ShowTheSame (all_seams ws) (all_seams ws) →
    sinks ≡ all_sinks ws → AreAll p ws outlets outer sinks
all_listed p ws outlets shown outer sinks sorted outlets_are seams_are outer_are same sinks_are = record {
  sorted = sorted;
  outlets_are = permuted (all_outlets ws) outlets outlets_are;
  seams_are = λ x. (
    (λ has. (((outer_are x).0 has).0, (permuted (all_seams ws) shown seams_are x).0 ((outer_are x).0 has).1)),
    (λ both. (outer_are x).1 (both.0, (permuted (all_seams ws) shown seams_are x).1 both.1)),
  );
  sinks_are = sinks_are;
  agree = same;
}

-- The spacing of rows.

-- two windows that have a row list it as spaced the same
alike : (ws : List WindowReport) → HaveOneSpacing ws → (v w : WindowReport) (row : ℕ) → Contains ws v → Contains ws w → HasRow v row → HasRow w row →
    spacing_in v row ≡ spacing_in w row
alike ws one v w row has_v has_w in_v in_w =
    elim (pairs HaveRowsAlike ws one v w has_v has_w) [
      | inl same ↦ ap (λ x. spacing_in x row) same
      | inr (inl before) ↦ both v w in_v in_w before
      | inr (inr after) ↦ sym (both w v in_w in_v after)
    ]
  where
    both : (x y : WindowReport) → HasRow x row → HasRow y row → HaveRowsAlike x y → spacing_in x row ≡ spacing_in y row
    both x y in_x in_y same =
        let from_x : x.report.place.top ≤ row = in_x.from in
        let from_y : y.report.place.top ≤ row = in_y.from in
        let to_x : row < x.report.place.top + x.report.place.extent.rows = in_x.below in
        let to_y : row < y.report.place.top + y.report.place.extent.rows = in_y.below in
        same (row - x.report.place.top) (row - y.report.place.top) (omega arith) (omega arith) (omega arith)

pub spaced_box : (p : Place) (ws : List WindowReport) (listed : List Distances) → HaveOneSpacing ws →
    ((row : ℕ) → row < p.extent.rows → IsSpacingOfRow ws (p.top + row) (spacing_at listed row)) → SpacesBox p ws listed
spaced_box p ws listed one each w row has in_w below =
    elim (each row below) [
      | inl found ↦ found.3 ∙ alike ws one found.0 w (p.top + row) found.1 has found.2 in_w
      | inr none ↦ absurd (none w has in_w)
    ]

-- where no window lists a row, an empty list does it
pub none_listed : (p : Place) (ws : List WindowReport) → All (λ w. w.report.spacings ≡ []) ws → SpacesBox p ws []
none_listed p ws none w row has in_w below =
    sym (ap (λ (xs : List Distances). spacing_at xs (p.top + row - w.report.place.top)) (All-contains (λ (x : WindowReport). x.report.spacings ≡ []) ws w none has))

-- of a list of so many rows each is the one at its place
pub at_row : (listed : List Distances) (count row : ℕ) → length listed ≡ count → row < count → spacing_at listed row ≡ slice_index_or listed row unit_spacing
at_row listed count row many below =
    let same : min row (length listed - 1) ≡ row = omega (arith, many, below) in
    ap (λ k. slice_index_or listed k unit_spacing) same

-- one row more is listed
pub one_more : (ws : List WindowReport) (top : ℕ) (listed longer : List Distances) (count : ℕ) (s : Distances) → longer ≡ listed ++ s ∷ [] → length listed ≡ count →
    ((row : ℕ) → row < count → IsSpacingOfRow ws (top + row) (slice_index_or listed row unit_spacing)) → IsSpacingOfRow ws (top + count) s →
    (length longer ≡ count + 1) × ((row : ℕ) → row < count + 1 → IsSpacingOfRow ws (top + row) (slice_index_or longer row unit_spacing))
one_more ws top listed longer count s is many each new = (
  let long = length-append listed (s ∷ []) in omega (arith, ap (λ (xs : List Distances). length xs) is, long, many),
  λ row below.
      subst (λ (xs : List Distances). IsSpacingOfRow ws (top + row) (slice_index_or xs row unit_spacing)) (sym is) (at row below),
)
  where
    at : (row : ℕ) → row < count + 1 → IsSpacingOfRow ws (top + row) (slice_index_or (listed ++ s ∷ []) row unit_spacing)
    at row below = below_more (λ k. IsSpacingOfRow ws (top + k) (slice_index_or (listed ++ s ∷ []) k unit_spacing)) count
        (λ k less. subst (IsSpacingOfRow ws (top + k)) (sym (get_or-append listed (s ∷ []) unit_spacing k (omega (arith, many, less)))) (each k less))
        (subst (IsSpacingOfRow ws (top + count)) (sym (ap (λ k. slice_index_or (listed ++ s ∷ []) k unit_spacing) (sym many) ∙ get_or-append_seam listed s [] unit_spacing)) new) row below
