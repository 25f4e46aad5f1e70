-- Reports that can be merged are on windows that agree, so what they say is said of one union.
use Rattle.drain_union.proofs.Names.{◌≡◌, ℕ, ◌+◌, ◌<◌, ◌⊎◌, inl, inr, ◌↔◌, List, [], ◌∷◌, length, map, slice_index_or, IsTrue, sym, ap, subst, ◌∙◌, arith, Contains, AllPairs, cases_order, get_or_default, get_or-map, length-map, Cell, Extent, IsCellOf, NoDataNumbers, Grid, Products, IsInside, values_at, Outlet, IsSortedByLabel, NoneBesideShares, ListsOutlets, HoldsAllOf, Report, IsReportOf, OverlapInSeams, ShowTheSame, SpacedAlike, spacing_at, CanMerge, Place, Window, in_union, IsPlaceIn, IsJudgedIn, JudgeAll, RulesHoldInside, NoLabelIsShared, AreLaidIn, OverlapsAgree, SpacingsAgree, AreWindowsOf, MergeIsExact}
use Rattle.drain_grid.specs.Correct.{IsCorrect}
use Rattle.drain_union.proofs.JudgedCounts.{one_cell}
use Rattle.drain_union.proofs.Merges.{merge_tells_shared}
use Rattle.drain_union.proofs.Unions.{correct_by_windows, windows_make_union}

some_of : {X : Type 0} (xs : List X) (k : ℕ) → k < length xs → X
some_of [] k below = absurd (omega arith)
some_of (x ∷ xs) k below = slice_index_or (x ∷ xs) k x

some_is : {X : Type 0} (xs : List X) (k : ℕ) (below : k < length xs) (d : X) → some_of xs k below ≡ slice_index_or xs k d
unfolding some_of
some_is [] k below d = absurd (omega arith)
some_is (x ∷ xs) k below d = get_or_default (x ∷ xs) k x d below

-- the elements of a mapped list are those of the list, mapped
pub from_map : {X Y : Type 0} (f : X → Y) (xs : List X) (y : Y) → Contains (map f xs) y → (x : X) × Contains xs x × (f x ≡ y)
from_map f xs y has =
    let below : has.0 < length xs = subst (λ n. has.0 < n) (length-map xs f) has.1 in
    let x = some_of xs has.0 below in
    (x, (has.0, below, sym (some_is xs has.0 below x)), ap f (some_is xs has.0 below x) ∙ sym (get_or-map f xs has.0 x y below) ∙ has.2)

pub to_map : {X Y : Type 0} (f : X → Y) (xs : List X) (x : X) → Contains xs x → Contains (map f xs) (f x)
to_map f xs x has =
    (has.0, subst (λ n. has.0 < n) (sym (length-map xs f)) has.1, get_or-map f xs has.0 x (f x) has.1 ∙ ap f has.2)

-- two elements are one, or the one stands before the other
pub pairs : {X : Type 0} (R : X → X → Type 0) (xs : List X) → AllPairs R xs → (x y : X) → Contains xs x → Contains xs y → (x ≡ y) ⊎ (R x y ⊎ R y x)
pairs R xs all x y has_x has_y =
    let at_y : slice_index_or xs has_y.0 x ≡ y = get_or_default xs has_y.0 x y has_y.1 ∙ has_y.2 in
    elim (cases_order has_x.0 has_y.0) [
      | inl one ↦ inl (sym has_x.2 ∙ ap (λ k. slice_index_or xs k x) one ∙ at_y)
      | inr (inl before) ↦ inr (inl (subst (λ z. R z y) has_x.2 (subst (R (slice_index_or xs has_x.0 x)) at_y (all has_x.0 has_y.0 x before has_y.1))))
      | inr (inr after) ↦ inr (inr (subst (R y) has_x.2 (subst (λ z. R z (slice_index_or xs has_x.0 x)) at_y (all has_y.0 has_x.0 x after has_x.1))))
    ]

-- a report lists one spacing for a row
spaced_itself : (r : Report) → SpacedAlike r r
spaced_itself r a b in_a in_b one = ap (spacing_at r.spacings) (omega (arith, one))

spaced_turned : (q r : Report) → SpacedAlike q r → SpacedAlike r q
spaced_turned q r same a b in_a in_b one = sym (same b a in_b in_a (sym one))

-- reports that agree are on windows that do
module _ (depth : ℕ) (reports : List Report) (window_of : Report → Window)
    (of : (r : Report) → Contains reports r → IsReportOf depth (window_of r) r) (holds : (r : Report) → Contains reports r → IsTrue r.holds)
    (overlaps : AllPairs (λ q r. OverlapInSeams depth q.place r.place) reports) (same_seams : AllPairs (λ q r. ShowTheSame q.seams r.seams) reports)
    (same_rows : AllPairs SpacedAlike reports) where
  -- what two reports show at one cell, where the one stands before the other
  seams_agree : (q r : Report) → Contains reports q → Contains reports r → OverlapInSeams depth q.place r.place → ShowTheSame q.seams r.seams →
      (a b : Cell) → IsInside (window_of q).grid a → IsInside (window_of r).grid b →
      in_union (window_of q).place a ≡ in_union (window_of r).place b →
      values_at (window_of q).grid (window_of q).products a ≡ values_at (window_of r).grid (window_of r).products b
  seams_agree q r has_q has_r thin same a b in_a in_b one =
      let is_q = of q has_q in
      let is_r = of r has_r in
      let there_a : IsCellOf (window_of q).place.extent a = subst (λ (x : Extent). IsCellOf x a) is_q.extent in_a in
      let there_b : IsCellOf (window_of r).place.extent b = subst (λ (x : Extent). IsCellOf x b) is_r.extent in_b in
      let seams : OverlapInSeams depth (window_of q).place (window_of r).place =
      subst (λ (p : Place). OverlapInSeams depth p (window_of r).place) is_q.place (subst (OverlapInSeams depth q.place) is_r.place thin) in
      let on = seams a b there_a there_b one in
      same _ _ ((is_q.seams (holds q has_q)).complete a on.0) ((is_r.seams (holds r has_r)).complete b on.1) one

  pub agree : OverlapsAgree (map window_of reports)
  agree v w at_v at_w =
      let one = from_map window_of reports v at_v in
      let two = from_map window_of reports w at_w in
      subst
      (λ (y : Window). (a b : Cell) → IsInside v.grid a → IsInside y.grid b → in_union v.place a ≡ in_union y.place b →
      values_at v.grid v.products a ≡ values_at y.grid y.products b)
      two.2
      (subst
      (λ (x : Window). (a b : Cell) → IsInside x.grid a → IsInside (window_of two.0).grid b →
      in_union x.place a ≡ in_union (window_of two.0).place b →
      values_at x.grid x.products a ≡ values_at (window_of two.0).grid (window_of two.0).products b)
      one.2 (by_reports one.0 two.0 one.1 two.1))
    where
      by_reports : (q r : Report) → Contains reports q → Contains reports r → (a b : Cell) → IsInside (window_of q).grid a →
          IsInside (window_of r).grid b → in_union (window_of q).place a ≡ in_union (window_of r).place b →
          values_at (window_of q).grid (window_of q).products a ≡ values_at (window_of r).grid (window_of r).products b
      by_reports q r has_q has_r a b in_a in_b one =
          elim (pairs (λ x y. OverlapInSeams depth x.place y.place × ShowTheSame x.seams y.seams) reports
          (λ i j d before below. (overlaps i j d before below, same_seams i j d before below)) q r has_q has_r) [
            | inl same ↦
                (let again : in_union (window_of q).place a ≡ in_union (window_of q).place b =
                one ∙ ap (λ (x : Report). in_union (window_of x).place b) (sym same) in
                ap (values_at (window_of q).grid (window_of q).products) (one_cell (window_of q).place a b again)
                ∙ ap (λ (x : Report). values_at (window_of x).grid (window_of x).products b) same)
            | inr (inl before) ↦ seams_agree q r has_q has_r before.0 before.1 a b in_a in_b one
            | inr (inr after) ↦ sym (seams_agree r q has_r has_q after.0 after.1 b a in_b in_a (sym one))
          ]

  -- the rows that two reports have in common, in whichever order they stand
  alike : (q r : Report) → Contains reports q → Contains reports r → SpacedAlike q r
  alike q r has_q has_r =
      elim (pairs SpacedAlike reports same_rows q r has_q has_r) [
        | inl same ↦ subst (SpacedAlike q) same (spaced_itself q)
        | inr (inl before) ↦ before
        | inr (inr after) ↦ spaced_turned r q after
      ]

  pub spaced : SpacingsAgree (map window_of reports)
  spaced v w at_v at_w =
      let one = from_map window_of reports v at_v in
      let two = from_map window_of reports w at_w in
      subst
      (λ (y : Window). (a b : Cell) → IsInside v.grid a → IsInside y.grid b → v.place.top + a.row ≡ y.place.top + b.row →
      v.grid.spacing a.row ≡ y.grid.spacing b.row)
      two.2
      (subst
      (λ (x : Window). (a b : Cell) → IsInside x.grid a → IsInside (window_of two.0).grid b →
      x.place.top + a.row ≡ (window_of two.0).place.top + b.row → x.grid.spacing a.row ≡ (window_of two.0).grid.spacing b.row)
      one.2 (by_lists one.0 two.0 one.1 two.1))
    where
      by_lists : (q r : Report) → Contains reports q → Contains reports r → (a b : Cell) → IsInside (window_of q).grid a →
          IsInside (window_of r).grid b → (window_of q).place.top + a.row ≡ (window_of r).place.top + b.row →
          (window_of q).grid.spacing a.row ≡ (window_of r).grid.spacing b.row
      by_lists q r has_q has_r a b in_a in_b one =
          let is_q = of q has_q in
          let is_r = of r has_r in
          let rows_q : (window_of q).grid.extent.rows ≡ q.place.extent.rows = ap (λ (x : Extent). x.rows) is_q.extent ∙ ap (λ (p : Place). p.extent.rows) (sym is_q.place) in
          let rows_r : (window_of r).grid.extent.rows ≡ r.place.extent.rows = ap (λ (x : Extent). x.rows) is_r.extent ∙ ap (λ (p : Place). p.extent.rows) (sym is_r.place) in
          let in_q : a.row < q.place.extent.rows = subst (λ n. a.row < n) rows_q in_a.row in
          let in_r : b.row < r.place.extent.rows = subst (λ n. b.row < n) rows_r in_b.row in
          let row : q.place.top + a.row ≡ r.place.top + b.row =
          ap (λ (p : Place). p.top + a.row) is_q.place ∙ one ∙ ap (λ (p : Place). p.top + b.row) (sym is_r.place) in
          is_q.spacings a.row in_a.row ∙ alike q r has_q has_r a.row b.row in_q in_r row ∙ sym (is_r.spacings b.row in_b.row)

module _ (depth : ℕ) (e : Extent) (nodata : NoDataNumbers) (reports : List Report) (window_of : Report → Window)
    (of : (r : Report) → Contains reports r → IsReportOf depth (window_of r) r) (holds : (r : Report) → Contains reports r → IsTrue r.holds)
    (can : CanMerge depth e nodata reports) where
  abbrev windows : List Window
  windows = map window_of reports

  laid : AreLaidIn e windows
  laid w has =
      let one = from_map window_of reports w has in
      let is = of one.0 one.1 in
      subst (λ (v : Window). IsPlaceIn e v.place × (v.grid.extent ≡ v.place.extent)) one.2
      (subst (IsPlaceIn e) is.place (can.placed one.0 one.1), is.extent)

  judge : JudgeAll e windows
  judge c inside =
      let judged = can.whole c inside in
      let one = from_map (λ (r : Report). r.place) reports judged.0 judged.1 in
      let is = of one.0 one.1 in (
        window_of one.0,
        to_map window_of reports one.0 one.1,
        subst (λ (p : Place). (x : Cell) × IsJudgedIn p x × (in_union p x ≡ c)) (sym one.2 ∙ is.place) judged.2,
      )

  -- what the reports say of rules is said of the windows
  hold_there : (w : Window) → Contains windows w → RulesHoldInside nodata w
  hold_there w has =
      let one = from_map window_of reports w has in
      subst (RulesHoldInside nodata) one.2
      (subst (λ (n : NoDataNumbers). RulesHoldInside n (window_of one.0)) (can.one_nodata one.0 one.1) ((of one.0 one.1).holds.0 (holds one.0 one.1)))

  -- so they are the windows of one union
  pub one_union : (u : Grid) × (ps : Products) × (u.extent ≡ e) × AreWindowsOf u ps windows
  one_union = windows_make_union e windows laid judge (agree depth reports window_of of holds can.overlaps can.agree can.spaced)
      (spaced depth reports window_of of holds can.overlaps can.agree can.spaced)

  module _ (merged : List Outlet) (all : HoldsAllOf (map (λ r. r.outlets) reports) merged) (sorted : IsSortedByLabel merged) where
    labels : NoLabelIsShared windows ↔ NoneBesideShares merged
    labels =
        let listed : (w : Window) → Contains windows w → (xs : List Outlet) × Contains (map (λ r. r.outlets) reports) xs × ListsOutlets w xs = λ w has.
        (let one = from_map window_of reports w has in
        (one.0.outlets, to_map (λ (r : Report). r.outlets) reports one.0 one.1, subst (λ (v : Window). ListsOutlets v one.0.outlets) one.2 ((of one.0 one.1).outlets (holds one.0 one.1)))) in
        let listing : (xs : List Outlet) → Contains (map (λ r. r.outlets) reports) xs → (w : Window) × Contains windows w × ListsOutlets w xs = λ xs has.
        (let one = from_map (λ (r : Report). r.outlets) reports xs has in
        (window_of one.0, to_map window_of reports one.0 one.1, subst (ListsOutlets (window_of one.0)) one.2 ((of one.0 one.1).outlets (holds one.0 one.1)))) in
        merge_tells_shared windows (map (λ r. r.outlets) reports) merged listed listing all sorted

    exact : (u : Grid) × (ps : Products) × (u.extent ≡ e) × AreWindowsOf u ps windows
        × (IsCorrect u ps nodata ↔ NoneBesideShares merged)
    exact =
        let made = one_union in
        let law = correct_by_windows made.0 made.1 nodata windows made.3 (subst (λ (x : Extent). JudgeAll x windows) (sym made.2) judge) in
        (made.0, made.1, made.2, made.3, ((λ correct. labels.0 (law.0 correct).1), (λ h. law.1 (hold_there, labels.1 h))))

pub merge_is_exact : MergeIsExact
merge_is_exact depth e nodata reports window_of merged of holds can all sorted = exact depth e nodata reports window_of of holds can merged all sorted
