-- What follows from the answer to a window.
use Rattle.drain_window.proofs.Names.{◌≡◌, ℕ, zero, suc, ◌+◌, ◌-◌, cond, refl, sym, ap, ◌∙◌, arith, Result, Ok, Err, IfOk, List, Option, sum_by, range_with_len, Cell, is_data, is_raised, Grid, Products, Tally, UnionVerdict, Place, window_at, in_union, IsFirstInside, CountsAmong, cells_in, judged_area, row_cells_of, Rule, GroundSet, set_grid, set_numbers, set_products, WindowReport, ForSet, IfRejected, IsJudgedVerdict, IsWindowIn, origin_of, window_in, WindowRefusal}
use Rattle.std.proofs.lemmas.List.Sums.{sum_by-cons}
use Rattle.drain_grid.proofs.CellSums.{sum_by_same}
use Rattle.drain_grid.proofs.Neighbors.{place}
use Rattle.drain_union.specs.declared.verdict.UnionCounts.{UnionCounts}
use Rattle.drain_union.specs.declared.verdict.UnionVerdict.TheVariants.{Accepted, Rejected}
use Rattle.drain_rules.specs.Verdicts.{has_outlet_code}
use Rattle.drain_union.specs.JudgedCounts.{AreCountsInside, judged_cells, ring}
use Rattle.drain_union.proofs.JudgedCounts.{by_rows, sum_by_map, sum_by_flat_map}
use Rattle.drain_verdict.specs.Given.{Given}
use Rattle.drain_verdict.specs.Ground.{Ground}
use Rattle.drain_verdict.specs.Inputs.{Products as AllProducts}

-- The cells of a judged area are those that its place judges, each one row and column further than the place begins. So
-- sums over both are the same.

sum_shift : (f : ℕ → ℕ) (t b n : ℕ) → sum_by f (range_with_len (t + b) n) ≡ sum_by (λ k. f (t + k)) (range_with_len b n)
sum_shift f t b zero = refl
sum_shift f t b (suc n) =
    let next : t + b + 1 ≡ t + (b + 1) = omega arith in
    let rest = ap (λ m. sum_by f (range_with_len m n)) next ∙ sum_shift f t (b + 1) n in
    omega (arith, sum_by-cons f (t + b) (range_with_len (t + b + 1) n), sum_by-cons (λ k. f (t + k)) b (range_with_len (b + 1) n), rest)

-- as many from the first judged one on as are judged
sum_along : (f : ℕ → ℕ) (first before behind count : ℕ) →
    sum_by f (range_with_len (first + before) (first + count - behind - (first + before))) ≡ sum_by (λ k. f (first + k)) (range_with_len before (count - before - behind))
sum_along f first before behind count =
    let many : first + count - behind - (first + before) ≡ count - before - behind = omega arith in
    ap (λ n. sum_by f (range_with_len (first + before) n)) many ∙ sum_shift f first before (count - before - behind)

area_sum : (f : Cell → ℕ) (p : Place) → sum_by f (cells_in (judged_area p)) ≡ sum_by (λ c. f (in_union p c)) (judged_cells p)
area_sum f p =
    let a = judged_area p in
    let rows = range_with_len a.top (a.bottom - a.top) in
    let cols = range_with_len a.left (a.right - a.left) in
    sum_by_flat_map f (row_cells_of a) rows
    ∙ sum_by_same (λ r. sum_by f (row_cells_of a r)) (λ r. sum_by (λ k. f (place r k)) cols) rows (λ r. sum_by_map f (place r) cols)
    ∙ sum_along (λ r. sum_by (λ k. f (place r k)) cols) p.top (ring p.inner.north) (ring p.inner.south) p.extent.rows
    ∙ sum_by_same (λ r. sum_by (λ k. f (place (p.top + r) k)) cols)
    (λ r. sum_by (λ k. f (place (p.top + r) (p.left + k))) (range_with_len (ring p.inner.west) (p.extent.cols - ring p.inner.west - ring p.inner.east)))
    (range_with_len (ring p.inner.north) (p.extent.rows - ring p.inner.north - ring p.inner.south))
    (λ r. sum_along (λ k. f (place (p.top + r) k)) p.left (ring p.inner.west) (ring p.inner.east) p.extent.cols)
    ∙ sym (by_rows p (λ c. f (in_union p c)))

-- the counts among the cells of a judged area are those of the window there
pub counts_inside : (origin : Cell) (p : Place) (g : Grid) (ps : Products) (tally : Tally) (k : UnionCounts) → CountsAmong g ps (cells_in (judged_area p)) tally →
    k.rows ≡ p.extent.rows → k.cols ≡ p.extent.cols → k.data_cells ≡ tally.data_cells → k.raised ≡ tally.raised → k.outlets ≡ tally.outlets →
    AreCountsInside (window_at origin p g ps) k
counts_inside origin p g ps tally k among rows cols data_cells raised outlets = record {
  rows = rows;
  cols = cols;
  data_cells = data_cells ∙ among.data_cells ∙ area_sum (λ c. cond (is_data g c) 1 0) p;
  raised = raised ∙ among.raised ∙ area_sum (λ c. cond (is_raised g ps c) 1 0) p;
  outlets = outlets ∙ among.outlets ∙ area_sum (λ c. cond (has_outlet_code g ps c) 1 0) p;
}

module _ {X R : Type 0} (terrain : X → Ground) (Means : X → Type 0) (bl : R → Option (List ℕ)) (given : Given) (ps : AllProducts R) (InRange : Type 0) (p : Place) where
  -- a fact that follows from an answer that is a report
  pub when_answered : (Fact : WindowReport → GroundSet → Type 0) → ((a : WindowReport) (s : GroundSet) → IsWindowIn InRange p s (Ok a) → Fact a s) →
      (result : Result WindowReport WindowRefusal) → ForSet terrain Means bl given ps (λ s. IsWindowIn InRange p s result) → IfOk result (λ a. ForSet terrain Means bl given ps (Fact a))
  when_answered Fact follow (Ok a) answer = λ x t means tell. follow a _ (answer x t means tell)
  when_answered Fact follow (Err refusal) answer = tt

  -- a rejection has the first fault
  first_in : (origin : Cell) (verdict : UnionVerdict) → ForSet terrain Means bl given ps (λ s. IsJudgedVerdict (set_numbers s) origin p (set_grid s) (set_products s) verdict) →
      IfRejected verdict (λ (cell : Cell) (rule : Rule). ForSet terrain Means bl given ps (λ s. IsFirstInside (set_numbers s) (window_at origin p (set_grid s) (set_products s)) cell rule))
  first_in origin (Accepted counts) is = tt
  first_in origin (Rejected fault) is = is

  pub first_of : (result : Result WindowReport WindowRefusal) → ForSet terrain Means bl given ps (λ s. IsWindowIn InRange p s result) →
      IfOk result (λ a. IfRejected a.verdict (λ (cell : Cell) (rule : Rule). ForSet terrain Means bl given ps (λ s. IsFirstInside (set_numbers s) (window_in a p s) cell rule)))
  first_of (Ok a) answer = first_in (origin_of a.grid a.tiles.items) a.verdict (λ x t means tell. (answer x t means tell).1.1.verdict)
  first_of (Err refusal) answer = tt
