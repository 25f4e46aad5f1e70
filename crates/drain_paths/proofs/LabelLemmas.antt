-- Labels, cell by cell: those of outlets, and of all cells.
use Rattle.drain_paths.proofs.Names.{◌≡◌, ◌≢◌, ◌∙◌, ℕ, ◌+◌, ◌*◌, inl, inr, pos, cond, List, sym, ap, subst, arith, cases_order, Cell, index_of, Extent, Grid, Products, IsInside, HasData, run_end, index_of-below, run_end-zero, same_or_not, EndsAfter-zero, in_grid, same_index, cell_number, IsPutAt, AreNumbersSoFar, AreNumbers, end_number, basin_label, AreEndLabels, AreBasinLabels}
use Rattle.drain_paths.proofs.SameRuns.{last_data}
use Rattle.drain_paths.specs.Basins.{ends_before}
use Rattle.drain_paths.proofs.EndCounts.{ends_before-none, ends_before-more, end_number-some, end_number-one, is_end_yes, is_end_no}

-- no outlet yet
pub AreEndLabels-none : (g : Grid) (ps : Products) (e : Extent) (labels : List ℕ) → g.extent ≡ e → ((c : Cell) → cell_number e labels c ≡ 0) →
    AreEndLabels g ps e 0 0 labels
AreEndLabels-none g ps e labels extent none = record {
  extent = extent;
  counted = sym (ends_before-none g ps);
  numbered = λ c here is_zero less. absurd (omega arith);
  others = λ c inside some. absurd (some (none c));
}

module _ (g : Grid) (ps : Products) (e : Extent) (k ends : ℕ) (labels : List ℕ) (c : Cell) (are : AreEndLabels g ps e k ends labels)
    (inside : IsInside g c) (at : index_of e c ≡ k) where
  at_g : index_of g.extent c ≡ k
  at_g = ap (λ (x : Extent). index_of x c) are.extent ∙ at

  is_c : (d : Cell) → IsInside g d → index_of e d ≡ k → c ≡ d
  is_c d at_d same = same_index e c d (in_grid g e c are.extent inside) (in_grid g e d are.extent at_d) (at ∙ sym same)

  -- past a cell that is no outlet
  pub AreEndLabels-past : (HasData g c → ps.dir c ≢ pos 0) → AreEndLabels g ps e (k + 1) ends labels
  AreEndLabels-past other = record {
    extent = are.extent;
    counted =
        (let more = ends_before-more g ps c k inside at_g in
        let none = ap {B = ℕ} (λ b. cond b 1 0) (is_end_no g ps c inside other) in
        let so_far = are.counted in
        omega (arith, more, none, so_far));
    numbered = λ d here is_zero less. elim (cases_order (index_of e d) k) [
      | inl same ↦ (let one = is_c d here.inside same in absurd (other (subst (HasData g) (sym one) here) (ap ps.dir one ∙ is_zero)))
      | inr (inl before) ↦ are.numbered d here is_zero before
      | inr (inr after) ↦ absurd (omega arith)
    ];
    others = λ d at_d some. (let h = are.others d at_d some in (h.0, h.1, (let less = h.2 in omega (arith, less))));
  }

  -- past an outlet, which has the next number
  pub AreEndLabels-put : (after : List ℕ) → HasData g c → ps.dir c ≡ pos 0 → IsPutAt e labels after c (ends + 1) → AreEndLabels g ps e (k + 1) (ends + 1) after
  AreEndLabels-put after here_c zero_c put = record {
    extent = are.extent;
    counted =
        (let more = ends_before-more g ps c k inside at_g in
        let one = ap {B = ℕ} (λ b. cond b 1 0) (is_end_yes g ps c here_c zero_c) in
        let so_far = are.counted in
        omega (arith, more, one, so_far));
    numbered = λ d here is_zero less. elim (same_or_not c d) [
      | inl one ↦ subst (λ x. cell_number e after x ≡ end_number g ps x) one
          (let number = end_number-some g ps c here_c zero_c in
          let before = ap (ends_before g ps) at_g in
          let so_far = are.counted in
          let there = put.there in
          omega (arith, number, before, so_far, there))
      | inr other ↦ put.elsewhere d (in_grid g e d are.extent here.inside) (λ same. other (sym same)) ∙ are.numbered d here is_zero
          (elim (cases_order (index_of e d) k) [
            | inl same ↦ absurd (other (is_c d here.inside same))
            | inr (inl before) ↦ before
            | inr (inr after_it) ↦ absurd (omega arith)
          ])
    ];
    others = λ d at_d some. elim (same_or_not c d) [
      | inl one ↦ (subst (HasData g) one here_c, ap ps.dir (sym one) ∙ zero_c, (let same = ap (index_of e) one in omega (arith, same, at)))
      | inr other ↦
          (let h = are.others d at_d (λ none. some (put.elsewhere d (in_grid g e d are.extent at_d) (λ same. other (sym same)) ∙ none)) in
          (h.0, h.1, (let less = h.2 in omega (arith, less))))
    ];
  }

-- all outlets have their labels
pub AreNumbersSoFar-ends : (g : Grid) (ps : Products) (e : Extent) (ends : ℕ) (labels : List ℕ) → AreEndLabels g ps e (e.rows * e.cols) ends labels →
    AreNumbersSoFar g ps e 0 basin_label labels
AreNumbersSoFar-ends g ps e ends labels are = record {
  extent = are.extent;
  right = λ c inside some.
      (let h = are.others c inside some in
      record {
        here = h.0;
        ends = (EndsAfter-zero g ps c h.1).ends;
        is = are.numbered c h.0 h.1 h.2 ∙ ap (end_number g ps) (sym (run_end-zero g ps c h.1));
      });
  outlets = λ c here is_zero none.
      (let below = index_of-below e c (in_grid g e c are.extent here.inside) in
      let number = are.numbered c here is_zero below in
      let some = end_number-some g ps c here is_zero in
      absurd (omega (arith, number, some, none)));
}

-- labels of all data cells
pub AreBasinLabels-all : (g : Grid) (ps : Products) (e : Extent) (labels : List ℕ) → AreNumbers g ps e 0 basin_label labels → AreBasinLabels g ps e labels
AreBasinLabels-all g ps e labels are = record {
  extent = are.extent;
  ends = are.ends;
  labels_are = are.numbers_are;
  some = are.some;
  shared = λ a b at_a at_b. (
    (λ same. end_number-one g ps (run_end g ps a) (run_end g ps b) (last_data g ps (g.extent.rows * g.extent.cols) a at_a) (are.ends a at_a)
        (last_data g ps (g.extent.rows * g.extent.cols) b at_b) (are.ends b at_b) (sym (are.numbers_are a at_a) ∙ (same ∙ are.numbers_are b at_b))),
    (λ share. are.numbers_are a at_a ∙ (ap (end_number g ps) share ∙ sym (are.numbers_are b at_b))),
  );
  voids = are.voids;
}
