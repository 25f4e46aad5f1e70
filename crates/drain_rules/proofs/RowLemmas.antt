-- One cell more of a row: what holds along it, and how many of its cells pass a test.
use Rattle.drain_rules.proofs.Names.{◌≡◌, refl, ℕ, zero, suc, ◌+◌, ◌-◌, ◌<◌, ◌≤◌, sym, subst, arith, Bool, cond, int_lt, is_some, unwrap_or, pos, None, Some, below_more, of_product, per_product, count_by, sum_by-map-range_with_len_more, Cell, Rule, IsLeastFault, row_cells, Values, Grid, Products, values_at, is_data, is_raised, HoldsAt, Profile, Tally, has_outlet_code, place, HoldAlong, CountsAlong, IsRowFault}
use Rattle.std.proofs.Common.{◌&&◌}
use Rattle.drain_grid.specs.declared.set_product.SetProduct.{SetProduct}
use Rattle.drain_grid.proofs.ByProduct.{by_set_product}
use Rattle.std.specs.Ordering.{int_eq}

-- What is known of a row of numbers, product by product.

-- what a function gives for each product is what it gives for this one
pub of_per : {A : Type 0} → (give : SetProduct → A) (p : SetProduct) → of_product (per_product give) p ≡ give p
of_per give = by_set_product (λ p. of_product (per_product give) p ≡ give p) refl refl refl refl refl

-- What stays true with each of some cells along a row stays true with all of them.

-- P is what holds before a column, and Q what a column's cell needs for P to hold with it
module _ (P Q : ℕ → Type 0) (cols : ℕ) (one : (col : ℕ) → col < cols → Q col → P col → P (col + 1)) where
  run_some : (from n : ℕ) → from + n ≤ cols → ((col : ℕ) → from ≤ col → col < from + n → Q col) → P from → P (from + n)
  run_some from zero within each so_far =
      let here : from + 0 ≡ from = omega arith in
      subst P (sym here) so_far
  run_some from (suc n) within each so_far =
      let before = run_some from n (omega (arith, within)) (λ col past less. each col past (omega (arith, less))) so_far in
      let next : from + n + 1 ≡ from + suc n = omega arith in
      subst P next (one (from + n) (omega (arith, within)) (each (from + n) (omega arith) (omega arith)) before)

  pub along_run : (from end : ℕ) → from ≤ end → end ≤ cols → ((col : ℕ) → from ≤ col → col < end → Q col) → P from → P end
  along_run from end forward within each so_far =
      let up_to : from + (end - from) ≡ end = omega arith in
      subst P up_to (run_some from (end - from) (omega (arith, within)) (λ col past less. each col past (omega (arith, less))) so_far)

-- how many pass, with one cell more
count_by-row_cells_more : (p : Cell → Bool) (row cols : ℕ) →
    count_by p (row_cells (cols + 1) row) ≡ count_by p (row_cells cols row) + cond (p (place row cols)) 1 0
count_by-row_cells_more p row cols =
    sum_by-map-range_with_len_more (λ c. cond (p c) 1 0) (λ k. place row k) 0 cols cols (omega arith)

-- rules that hold along the row hold with one cell more, where that cell has no fault
pub HoldAlong-more : (profile : Profile) (IsOwn : Rule → Type 0) (g : Grid) (ps : Products) (row col : ℕ) → HoldAlong profile IsOwn g ps row col →
    IsLeastFault IsOwn (HoldsAt profile g ps (place row col)) None → HoldAlong profile IsOwn g ps row (col + 1)
HoldAlong-more profile IsOwn g ps row col before here k rule less own =
    below_more (λ n. HoldsAt profile g ps (place row n) rule) col (λ n earlier. before n rule earlier own) (here rule own) k less

-- where the rules hold along the row, the fault of the next cell is that of the row
pub IsRowFault-cell : (profile : Profile) (IsOwn : Rule → Type 0) (g : Grid) (ps : Products) (row col : ℕ) (rule : Rule) → col < g.extent.cols →
    HoldAlong profile IsOwn g ps row col → IsLeastFault IsOwn (HoldsAt profile g ps (place row col)) (Some rule) →
    IsRowFault profile IsOwn g ps row col rule
IsRowFault-cell profile IsOwn g ps row col rule inside before least = record {
  inside = inside;
  is_own = least.0;
  fails = least.1;
  before = before;
  smaller = least.2;
}

-- the counts with one cell more
pub CountsAlong-more : (g : Grid) (ps : Products) (row col : ℕ) (here : Values) (old new : Tally) →
    here ≡ values_at g ps (place row col) → CountsAlong g ps row col old →
    new.data_cells ≡ old.data_cells + cond (is_some here.z) 1 0 →
    new.raised ≡ old.raised + cond (is_some here.z && int_lt (unwrap_or here.z (pos 0)) here.con) 1 0 →
    new.outlets ≡ old.outlets + cond (is_some here.z && int_eq here.dir (pos 0)) 1 0 →
    CountsAlong g ps row (col + 1) new
CountsAlong-more g ps row col here old new is so_far data_cells raised outlets =
    let one_data = count_by-row_cells_more (is_data g) row col in
    let one_raised = count_by-row_cells_more (is_raised g ps) row col in
    let one_outlet = count_by-row_cells_more (has_outlet_code g ps) row col in
    let data_here : new.data_cells ≡ old.data_cells + cond (is_data g (place row col)) 1 0 = rw is at data_cells in
    let raised_here : new.raised ≡ old.raised + cond (is_raised g ps (place row col)) 1 0 = rw is at raised in
    let outlet_here : new.outlets ≡ old.outlets + cond (has_outlet_code g ps (place row col)) 1 0 = rw is at outlets in
    record {
      data_cells = omega (arith, one_data, data_here, so_far.data_cells);
      raised = omega (arith, one_raised, raised_here, so_far.raised);
      outlets = omega (arith, one_outlet, outlet_here, so_far.outlets);
    }
