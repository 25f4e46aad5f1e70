use Rattle.drain_kernel.proofs.Names.{◌≢◌, IsTrue, pos, slice_index, sym, ◌∙◌, ap, subst, IfJudged, HasCountsAt, adds_up_at, ThreeLanes}
use Rattle.drain_kernel.proofs.VouchedNumbers.{some_sum}
use Rattle.drain_kernel.proofs.strides.counts_pass.Goals as goal

-- where there is one label, and no count can be its no-data number
pub returns-then-are_no_counts : goal.returns-then-are_no_counts
returns-then-are_no_counts g c = λ told k low high.
    let sum = c.sums_pass.ensures c.if-not-sums_pass.false k low high in
    let adds_up = subst (λ sums. IfJudged sums (IsTrue (adds_up_at c.args.rows.now k))) (c.are_no_counts.ensures.tested told) sum in
    record {
      accumulation = sum;
      label = c.have_one_label.ensures.led c.if-have_one_label.true k low high;
      has_counts = record {
        acc_differs = c.are_no_counts.ensures.acc told _ (some_sum _ _ _ adds_up);
        bas_differs = subst (λ label. pos label ≢ c.args.rules.now.nodata.bas)
            (c.label.ensures ∙ ap (λ (r : ThreeLanes). slice_index r.here.bas c.args.from) c.rows.view_is ∙ sym (c.have_one_label.ensures.one c.if-have_one_label.true k low high)) (c.are_no_counts.ensures.bas told);
      };
    }

-- where there is one label, and the numbers were looked at
pub returns-else-are_no_counts : goal.returns-else-are_no_counts
returns-else-are_no_counts g c = λ there k low high. record {
  accumulation = c.sums_pass.ensures c.if-not-sums_pass.false k low high;
  label = c.have_one_label.ensures.led c.if-have_one_label.true k low high;
  has_counts = subst (λ (r : ThreeLanes). HasCountsAt c.args.rules.now.nodata r.here k) c.rows.view_is (c.passes_along.ensures there k low high);
}
