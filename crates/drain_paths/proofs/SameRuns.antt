-- Flows alone tell where codes lead: if every run ends in one grid with these flows, every run ends in each.
use Rattle.drain_paths.proofs.Names.{◌≡◌, ◌≢◌, ◌⊎◌, ◌∙◌, ◌*◌, ℕ, zero, suc, pos, List, ◌∷◌, Option, Some, None, inl, inr, refl, sym, ap, subst, Cell, Direction, IsCellOf, step, Extent, Grid, Products, IsInside, HasData, next, continued, steps_from, last_from, run_end, RunEnds, HasData-next, step_lies, Flow, direction_of, flow_at, AreFlowsOf, OfFlows, AllFlowsEnd}
use Rattle.drain_paths.specs.declared.flow.Flow.TheVariants.{Void}
use Rattle.drain_paths.proofs.FlowCells.{flow_of_data, data_at, flow_of_zero, zero_of_flow, leads_nowhere, leads_outside, leads_to_void, leads_to_data}

void_or : (f : Flow) → (f ≡ Void) ⊎ (f ≢ Void)
void_or Void = inl refl
void_or f = inr (λ h. cc)

-- a walk over data cells stays on data cells
pub last_data : (g : Grid) (ps : Products) (k : ℕ) (c : Cell) → HasData g c → HasData g (last_from c (steps_from g ps k c))
last_data g ps zero c here = here
last_data g ps (suc k) c here = by_next (next g ps c) (λ n leads. last_data g ps k n (HasData-next g ps c n leads))
  where
    by_next : (o : Option Cell) → ((n : Cell) → o ≡ Some n → HasData g (last_from n (steps_from g ps k n))) →
        HasData g (last_from c (continued o (steps_from g ps k)))
    by_next None on = here
    by_next (Some n) on = on n refl

module _ (e : Extent) (flows : List Flow) (g : Grid) (ps : Products) (are : AreFlowsOf g ps e flows) (h : Grid) (qs : Products) (too : AreFlowsOf h qs e flows) where
  -- both have data at the same cells
  data_too : (c : Cell) → HasData g c → HasData h c
  data_too c here = data_at h qs e flows too c (subst (λ (x : Extent). IsCellOf x c) are.extent here.inside) (flow_of_data g ps e flows are c here)

  next_same : (c : Cell) → HasData g c → next g ps c ≡ next h qs c
  next_same c here = by_way (direction_of (flow_at e flows c)) refl
    where
      there : HasData h c
      there = data_too c here

      by_step : (d : Direction) → direction_of (flow_at e flows c) ≡ Some d → (o : Option Cell) → step e c d ≡ o → next g ps c ≡ next h qs c
      by_step d leads None outside =
          leads_outside g ps e flows are c here d leads outside ∙ sym (leads_outside h qs e flows too c there d leads outside)
      by_step d leads (Some n) to_n =
          let inside : IsCellOf e n = (step_lies e c n d to_n).0 in
          let in_g : IsInside g n = subst (λ (x : Extent). IsCellOf x n) (sym are.extent) inside in
          let in_h : IsInside h n = subst (λ (x : Extent). IsCellOf x n) (sym too.extent) inside in
          elim (void_or (flow_at e flows n)) [
            | inl void ↦ leads_to_void g ps e flows are c here d leads n in_g to_n void ∙ sym (leads_to_void h qs e flows too c there d leads n in_h to_n void)
            | inr some ↦ leads_to_data g ps e flows are c here d leads n in_g to_n some ∙ sym (leads_to_data h qs e flows too c there d leads n in_h to_n some)
          ]

      by_way : (o : Option Direction) → direction_of (flow_at e flows c) ≡ o → next g ps c ≡ next h qs c
      by_way None leads = leads_nowhere g ps e flows are c here leads ∙ sym (leads_nowhere h qs e flows too c there leads)
      by_way (Some d) leads = by_step d leads (step e c d) refl

  steps_same : (k : ℕ) (c : Cell) → HasData g c → steps_from g ps k c ≡ steps_from h qs k c
  steps_same zero c here = refl
  steps_same (suc k) c here =
      by_next (next g ps c) (λ n leads. steps_same k n (HasData-next g ps c n leads)) ∙ ap (λ o. continued o (steps_from h qs k)) (next_same c here)
    where
      by_next : (o : Option Cell) → ((n : Cell) → o ≡ Some n → steps_from g ps k n ≡ steps_from h qs k n) →
          continued o (steps_from g ps k) ≡ continued o (steps_from h qs k)
      by_next None on = refl
      by_next (Some n) on = ap (λ xs. n ∷ xs) (on n refl)

  end_same : (c : Cell) → HasData g c → run_end g ps c ≡ run_end h qs c
  end_same c here =
      ap (last_from c) (steps_same (g.extent.rows * g.extent.cols) c here)
      ∙ ap (λ (x : Extent). last_from c (steps_from h qs (x.rows * x.cols) c)) (are.extent ∙ sym too.extent)

  ends_too : (c : Cell) → HasData g c → RunEnds g ps c → RunEnds h qs c
  ends_too c here ends =
      let last = last_data g ps (g.extent.rows * g.extent.cols) c here in
      subst (λ x. qs.dir x ≡ pos 0) (end_same c here)
      (zero_of_flow h qs e flows too (run_end g ps c) (data_too _ last) (flow_of_zero g ps e flows are (run_end g ps c) last ends))

pub all_end : (e : Extent) (flows : List Flow) (g : Grid) (ps : Products) → AreFlowsOf g ps e flows → AllFlowsEnd g ps → OfFlows e flows AllFlowsEnd
all_end e flows g ps are ends h qs too c here =
    let back = data_too e flows h qs too g ps are c here in
    ends_too e flows g ps are h qs too c back (ends c back)
