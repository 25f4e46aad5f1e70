-- Flows that are known, one after another: those of a grid are, and so they are once a cell whose run ends is recorded
-- as such. And what they say of the way from a cell.
use Rattle.drain_paths.proofs.Names.{◌≡◌, ◌≢◌, ◌<◌, ℕ, ◌∙◌, inl, inr, ℤ, pos, List, length, Option, Some, None, IsSome, IsNone, get_or, set, get_or-set_other, get_or-set_same, refl, sym, ap, subst, cases_eq, Cell, Direction, East, SouthEast, South, SouthWest, West, NorthWest, North, NorthEast, index_of, step, Extent, Grid, Products, IsInside, HasData, next, RunEnds, code-not_zero, next-named, none_some, void_data, EndsAfter-zero, in_grid, same_index, Flow, Ends, ToEast, ToSouthEast, ToSouth, ToSouthWest, ToWest, ToNorthWest, ToNorth, ToNorthEast, direction_of, cell_flow, flow_at, AreFlowsOf, IsKnownFlow, AreKnownFlows}
use Rattle.drain_paths.specs.declared.flow.Flow.TheVariants.{Void, Lost}
use Rattle.drain_paths.proofs.NextCells.{next-of_no_code, next-outside, next-void, no_code}
use Rattle.drain_paths.proofs.FlowCodes.{code_flow-says}

-- what a cell's elevation and code say is known
known_of_code : (g : Grid) (ps : Products) (c : Cell) (z : Option ℤ) → g.elevation c ≡ z →
    IsKnownFlow g ps c (cell_flow z (ps.dir c))
known_of_code g ps c None is = record {
  void = λ h. subst IsNone (sym is) refl;
  has_data = λ h. absurd (h refl);
  ends = λ h. absurd (void_ends h);
  lost = λ h. absurd (void_lost h);
  leads = λ d h. absurd (none_some d h);
}
  where
    void_ends : Void ≡ Ends → ⊥
    void_ends h = cc

    void_lost : Void ≡ Lost → ⊥
    void_lost h = cc
known_of_code g ps c (Some z) is =
    let says = code_flow-says (ps.dir c) in
    record {
      void = λ h. absurd (says.not_void h);
      has_data = λ h. subst IsSome (sym is) refl;
      ends = λ h. (EndsAfter-zero g ps c (says.ends h)).ends;
      lost = λ h. no_code (ps.dir c) (says.lost h).0 (says.lost h).1;
      leads = says.leads;
    }

-- the flows of a grid are known
pub AreKnownFlows-grid : (g : Grid) (ps : Products) (e : Extent) (flows : List Flow) → AreFlowsOf g ps e flows →
    AreKnownFlows g ps e flows
AreKnownFlows-grid g ps e flows are = record {
  extent = are.extent;
  each = λ c inside. subst (IsKnownFlow g ps c) (sym (are.each c inside)) (known_of_code g ps c (g.elevation c) refl);
}

-- that a run ends may be put down
known_end : (g : Grid) (ps : Products) (c : Cell) → HasData g c → RunEnds g ps c → IsKnownFlow g ps c Ends
known_end g ps c here ends = record {
  void = λ h. absurd (ends_void h);
  has_data = λ h. here.is_data;
  ends = λ h. ends;
  lost = λ h. absurd (ends_lost h);
  leads = λ d h. absurd (none_some d h);
}
  where
    ends_void : Ends ≡ Void → ⊥
    ends_void h = cc

    ends_lost : Ends ≡ Lost → ⊥
    ends_lost h = cc

pub AreKnownFlows-put : (g : Grid) (ps : Products) (e : Extent) (flows : List Flow) (c : Cell) (index : ℕ) →
    index ≡ index_of e c → index < length flows → HasData g c → RunEnds g ps c → AreKnownFlows g ps e flows →
    AreKnownFlows g ps e (set flows index Ends)
AreKnownFlows-put g ps e flows c index at below here ends known = record {
  extent = known.extent;
  each = λ d inside. elim (cases_eq (index_of e d) index) [
    | inl same ↦
        (let one : c ≡ d = sym (same_index e d c (in_grid g e d known.extent inside) (in_grid g e c known.extent here.inside) (same ∙ at)) in
        let put : flow_at e (set flows index Ends) d ≡ Ends =
        ap (λ k. get_or (set flows index Ends) k Void) same ∙ get_or-set_same flows index Ends Void below in
        subst (IsKnownFlow g ps d) (sym put) (subst (λ x. IsKnownFlow g ps x Ends) one (known_end g ps c here ends)))
    | inr other ↦
        subst (IsKnownFlow g ps d) (sym (get_or-set_other flows index (index_of e d) Ends Void other)) (known.each d inside)
  ];
}

-- a flow at a cell's place is the cell's
pub known_at : (g : Grid) (ps : Products) (e : Extent) (flows : List Flow) (c : Cell) (index : ℕ) (f : Flow) →
    AreKnownFlows g ps e flows → IsInside g c → index ≡ index_of e c → f ≡ get_or flows index Void → IsKnownFlow g ps c f
known_at g ps e flows c index f known inside at is =
    subst (IsKnownFlow g ps c) (sym (is ∙ ap (λ k. get_or flows k Void) at)) (known.each c inside)

-- a data cell that leads nowhere, and isn't known to end, goes nowhere with another code than 0
pub stuck_nowhere : (g : Grid) (ps : Products) (c : Cell) (f : Flow) → IsKnownFlow g ps c f → HasData g c → direction_of f ≡ None → f ≢ Ends → (next g ps c ≡ None) × (ps.dir c ≢ pos 0)
stuck_nowhere g ps c Void known here nowhere other = absurd (void_data (g.elevation c) (known.void refl) here.is_data)
stuck_nowhere g ps c Lost known here nowhere other = (next-of_no_code g ps c (known.lost refl), λ is. known.lost refl (inl is))
stuck_nowhere g ps c Ends known here nowhere other = absurd (other refl)
stuck_nowhere g ps c ToEast known here nowhere other = absurd (none_some East (sym nowhere))
stuck_nowhere g ps c ToSouthEast known here nowhere other = absurd (none_some SouthEast (sym nowhere))
stuck_nowhere g ps c ToSouth known here nowhere other = absurd (none_some South (sym nowhere))
stuck_nowhere g ps c ToSouthWest known here nowhere other = absurd (none_some SouthWest (sym nowhere))
stuck_nowhere g ps c ToWest known here nowhere other = absurd (none_some West (sym nowhere))
stuck_nowhere g ps c ToNorthWest known here nowhere other = absurd (none_some NorthWest (sym nowhere))
stuck_nowhere g ps c ToNorth known here nowhere other = absurd (none_some North (sym nowhere))
stuck_nowhere g ps c ToNorthEast known here nowhere other = absurd (none_some NorthEast (sym nowhere))

module _ (g : Grid) (ps : Products) (e : Extent) (extent : g.extent ≡ e) (c : Cell) (f : Flow) (known : IsKnownFlow g ps c f) where
  pub stuck_outside : (d : Direction) → direction_of f ≡ Some d → step e c d ≡ None → (next g ps c ≡ None) × (ps.dir c ≢ pos 0)
  stuck_outside d leads outside =
      let named = known.leads d leads in
      (next-outside g ps c d named (ap (λ (x : Extent). step x c d) extent ∙ outside), code-not_zero (ps.dir c) d named)

  pub stuck_void : (d : Direction) (n : Cell) (there : Flow) → direction_of f ≡ Some d → step e c d ≡ Some n →
      IsKnownFlow g ps n there → there ≡ Void → (next g ps c ≡ None) × (ps.dir c ≢ pos 0)
  stuck_void d n there leads to_n known_there void =
      let named = known.leads d leads in
      (next-void g ps c n d named (ap (λ (x : Extent). step x c d) extent ∙ to_n) (known_there.void void), code-not_zero (ps.dir c) d named)

  pub leads_on : (d : Direction) (n : Cell) (there : Flow) → direction_of f ≡ Some d → step e c d ≡ Some n →
      IsKnownFlow g ps n there → there ≢ Void → next g ps c ≡ Some n
  leads_on d n there leads to_n known_there has_data =
      next-named g ps c n d (record {
        named = known.leads d leads;
        there = ap (λ (x : Extent). step x c d) extent ∙ to_n;
        is_data = known_there.has_data has_data;
      })
