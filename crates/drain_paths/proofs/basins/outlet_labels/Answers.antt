use Rattle.drain_paths.proofs.Names.{◌≡◌, ◌+◌, ◌*◌, ◌∙◌, get_or, length, sym, ap, subst, arith, rules, index_of, lent_back, AreEndLabels}
use Rattle.drain_paths.proofs.CellPlaces.{zeros_read}
use Rattle.drain_paths.proofs.LabelLemmas.{AreEndLabels-none}
use Rattle.drain_paths.proofs.basins.outlet_labels.Goals as goal

pub loop-place-init : goal.loop-place-init
loop-place-init t c = record {
  counted = search rules;
  few = omega arith;
  so_far = λ g ps are. AreEndLabels-none g ps c.args.shape c.in_ok-labels.labels.items are.extent
      (λ d. ap (λ xs. get_or xs (index_of c.args.shape d) 0) (c.in_ok-labels.ensures.items_if_clones_equal (λ y same. same)) ∙ zeros_read c.cells-cells.result (index_of c.args.shape d));
}

pub number_end-ends-requires-clause-so_far : goal.number_end-ends-requires-clause-so_far
number_end-ends-requires-clause-so_far t c = λ g ps are.
    subst (AreEndLabels g ps c.args.shape c.loop-place.place c.loop-place.ends) (sym c.deref_mut.ensures.value) (c.loop-place.invariant.so_far g ps are)

pub loop-place-preserved : goal.loop-place-preserved
loop-place-preserved t c =
    let back = lent_back c.deref_mut.ensures.value c.deref_mut.ensures.len c.number_end-ends.auto.labels in
    record {
      counted = ap length back ∙ (c.number_end-ends.auto.labels ∙ (ap length c.deref_mut.ensures.value ∙ c.loop-place.invariant.counted));
      few = c.number_end-ends.ensures.few;
      so_far = λ g ps are.
          subst (AreEndLabels g ps c.args.shape (c.loop-place.place + 1) c.number_end-ends.result) (sym back) (c.number_end-ends.ensures.labels g ps are);
    }

pub returns-clause-labels : goal.returns-clause-labels
returns-clause-labels t c = λ g ps are.
    (let all : c.loop-place.place ≡ c.args.shape.rows * c.args.shape.cols =
    (let cells = c.cells-cells.ensures.product in omega (arith, cells)) in
    (c.loop-place.ends, subst (λ k. AreEndLabels g ps c.args.shape k c.loop-place.ends c.loop-place.labels.items) all (c.loop-place.invariant.so_far g ps are)))
