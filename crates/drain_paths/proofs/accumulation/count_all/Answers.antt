use Rattle.drain_paths.proofs.Names.{◌≢◌, ◌∙◌, inl, inr, ◌++◌, take, drop, get_or, length, sym, ap, subst, arith, rules, cases_order, length-map, index_of, index_of-below, in_grid, lent_back, cell_number, one_of, IsPassing}
use Rattle.drain_paths.specs.declared.flow.Flow.TheVariants.{Void}
use Rattle.drain_paths.proofs.FlowCells.{flow_of_data}
use Rattle.drain_paths.proofs.PassingLemmas.{IsPassing-start, counts_whole}
use Rattle.drain_paths.proofs.accumulation.count_all.Goals as goal

pub loop-place-init : goal.loop-place-init
loop-place-init t c = record {
  waits_counted = search rules;
  counts_counted = ap length c.in_ok-counts.ensures ∙ (length-map (t.O.Onward.flows c.args.onward.now) one_of ∙ c.requires.counted);
  passing = λ g ps are.
      subst (IsPassing g ps c.args.shape c.in_ok-waits.waits.items) (sym c.in_ok-counts.ensures)
      (IsPassing-start g ps c.args.shape (t.O.Onward.flows c.args.onward.now) c.in_ok-waits.waits.items are c.requires.counted (c.requires.ends g ps are)
      (c.in_ok-waits.ensures.inflows g ps are));
  passed = λ d inside less some none. absurd (omega (arith, less));
}

pub visit-requires-clause-passing : goal.visit-requires-clause-passing
visit-requires-clause-passing t c = λ g ps are.
    subst (λ ws. IsPassing g ps c.args.shape ws c.deref_mut-in-loop-place.result.now) (sym c.deref_mut.ensures.value)
    (subst (λ ns. IsPassing g ps c.args.shape c.loop-place.waits.items ns) (sym c.deref_mut-in-loop-place.ensures.value) (c.loop-place.invariant.passing g ps are))

pub loop-place-preserved : goal.loop-place-preserved
loop-place-preserved t c =
    let e = c.args.shape in
    let flows = (t.O.Onward.flows c.args.onward.now) in
    let inv = c.loop-place.invariant in
    let waits = c.visit.new.waits in
    let waits_back = lent_back c.deref_mut.ensures.value c.deref_mut.ensures.len c.visit.auto.waits in
    let counts_back = lent_back c.deref_mut-in-loop-place.ensures.value c.deref_mut-in-loop-place.ensures.len c.visit.auto.counts in
    record {
      waits_counted = ap length waits_back ∙ (c.visit.auto.waits ∙ (ap length c.deref_mut.ensures.value ∙ inv.waits_counted));
      counts_counted = ap length counts_back ∙ (c.visit.auto.counts ∙ (ap length c.deref_mut-in-loop-place.ensures.value ∙ inv.counts_counted));
      passing = λ g ps are.
          subst (λ ws. IsPassing g ps e ws (take c.loop-place.counts.len (c.visit.new.counts ++ drop (length c.visit.new.counts) c.loop-place.counts.items))) (sym waits_back) (subst (λ ns. IsPassing g ps e waits ns) (sym counts_back) (c.visit.ensures.passing g ps are));
      passed = λ d inside less some.
          subst (λ ws. cell_number e ws d ≢ 0) (sym waits_back)
          (elim (cases_order (index_of e d) c.loop-place.place) [
            | inl same ↦ subst (λ k. get_or waits k 0 ≢ 0) (sym same) (c.visit.ensures.here (subst (λ k. get_or flows k Void ≢ Void) same some))
            | inr (inl before) ↦ c.visit.ensures.others d inside
                (subst (λ ws. cell_number e ws d ≢ 0) (sym c.deref_mut.ensures.value) (inv.passed d inside before some))
            | inr (inr after) ↦ absurd (omega (arith, less, after))
          ]);
    }

pub returns-clause-counts : goal.returns-clause-counts
returns-clause-counts t c = λ g ps are.
    (let e = c.args.shape in
    let inv = c.loop-place.invariant in
    counts_whole g ps e c.loop-place.waits.items c.loop-place.counts.items (inv.passing g ps are) (λ d here.
    (let inside = in_grid g e d are.extent here.inside in
    let below = index_of-below e d inside in
    let cells = c.cells-place-end.ensures.product in
    inv.passed d inside (omega (arith, below, cells)) (flow_of_data g ps e (t.O.Onward.flows c.args.onward.now) are d here))))
