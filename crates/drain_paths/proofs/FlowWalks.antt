-- What walks along flows keep.
use Rattle.drain_paths.proofs.Names.{◌≡◌, ◌≢◌, ◌<◌, ◌+◌, ◌*◌, ◌≤◌, ℕ, ◌∙◌, inl, inr, List, get_or, ◌⊎◌, Some, sym, ap, subst, arith, cases_order, Cell, IsFirstEndless, IsCellOf, index_of, Extent, Grid, Products, IsInside, HasData, next, RunEnds, HasData-next, index_of-below, IsWalk, IsWalk-more, IsWalk-too_long, void_data, in_grid, same_index, earlier_index, Flow, Ends, IsKnownFlow, AreKnownFlows}
use Rattle.drain_paths.specs.declared.flow.Flow.TheVariants.{Void}
use Rattle.drain_paths.proofs.KnownWays.{known_at}
use Rattle.drain_paths.proofs.Shorter.{IsEnded}

-- n steps lead from the start to a data cell
pub record HasCome (g : Grid) (ps : Products) (steps : ℕ) (start here : Cell) : Type 0 where
  pub to_data : HasData g here
  pub walk : IsWalk g ps steps start here

pub HasCome-more : (g : Grid) (ps : Products) (steps : ℕ) (start here n : Cell) → HasCome g ps steps start here →
    next g ps here ≡ Some n → HasCome g ps (steps + 1) start n
HasCome-more g ps steps start here n come leads = record {
  to_data = HasData-next g ps here n leads;
  walk = IsWalk-more g ps steps start here n come.walk leads;
}

-- the flows are known, and the run of the cell where the walk has come ends
pub record EndsFrom (g : Grid) (ps : Products) (e : Extent) (flows : List Flow) (here : Cell) : Type 0 where
  pub known : AreKnownFlows g ps e flows
  pub ended : IsEnded g ps here

-- the flows are known, and the runs of the first cells in row order end
pub record FirstEnd (g : Grid) (ps : Products) (e : Extent) (flows : List Flow) (passed : ℕ) : Type 0 where
  pub known : AreKnownFlows g ps e flows
  pub ended : (c : Cell) → HasData g c → index_of e c < passed → RunEnds g ps c

-- a walk of more steps than there are cells shows that the run doesn't end
pub too_far : (g : Grid) (ps : Products) (e : Extent) (steps : ℕ) (start here : Cell) → g.extent ≡ e → HasCome g ps steps start here →
    e.rows * e.cols < steps → ¬ RunEnds g ps start
too_far g ps e steps start here extent come long =
    let cells : g.extent.rows * g.extent.cols ≡ e.rows * e.cols = ap (λ (x : Extent). x.rows * x.cols) extent in
    IsWalk-too_long g ps steps start here come.walk (omega (arith, cells, long))

pub FirstEnd-none : (g : Grid) (ps : Products) (e : Extent) (flows : List Flow) → AreKnownFlows g ps e flows → FirstEnd g ps e flows 0
FirstEnd-none g ps e flows known = record { known = known; ended = λ c here less. absurd (omega arith) }

-- one cell further, where the run of the cell ends if it has data
FirstEnd-more : (g : Grid) (ps : Products) (e : Extent) (flows after : List Flow) (k : ℕ) → FirstEnd g ps e flows k →
    AreKnownFlows g ps e after → ((c : Cell) → HasData g c → index_of e c ≡ k → RunEnds g ps c) → FirstEnd g ps e after (k + 1)
FirstEnd-more g ps e flows after k first known here = record {
  known = known;
  ended = λ c there less. elim (cases_order (index_of e c) k) [
    | inl same ↦ here c there same
    | inr (inl before) ↦ first.ended c there before
    | inr (inr later) ↦ absurd (omega arith)
  ];
}

-- past a void, and past a cell whose run is known to end
pub FirstEnd-pass : (g : Grid) (ps : Products) (e : Extent) (flows : List Flow) (k : ℕ) (f : Flow) → FirstEnd g ps e flows k →
    f ≡ get_or flows k Void → (f ≡ Void) ⊎ (f ≡ Ends) → FirstEnd g ps e flows (k + 1)
FirstEnd-pass g ps e flows k f first is passed =
    FirstEnd-more g ps e flows flows k first first.known (λ c there same.
    (let known : IsKnownFlow g ps c f = known_at g ps e flows c k f first.known there.inside (sym same) is in
    elim passed [
      | inl void ↦ absurd (void_data (g.elevation c) (known.void void) there.is_data)
      | inr ends ↦ known.ends ends
    ]))

-- past a cell from which a walk ended
pub FirstEnd-walk : (g : Grid) (ps : Products) (e : Extent) (flows after : List Flow) (k : ℕ) (c : Cell) → FirstEnd g ps e flows k →
    IsInside g c → index_of e c ≡ k → RunEnds g ps c → AreKnownFlows g ps e after → FirstEnd g ps e after (k + 1)
FirstEnd-walk g ps e flows after k c first inside at ends known =
    FirstEnd-more g ps e flows after k first known (λ d there same.
    subst (RunEnds g ps) (same_index e c d (in_grid g e c known.extent inside) (in_grid g e d known.extent there.inside) (at ∙ sym same)) ends)

-- a cell that isn't known as a void has data
pub data_at : (g : Grid) (ps : Products) (e : Extent) (flows : List Flow) (c : Cell) (k : ℕ) (f : Flow) → AreKnownFlows g ps e flows →
    IsCellOf e c → index_of e c ≡ k → f ≡ get_or flows k Void → f ≢ Void → HasData g c
data_at g ps e flows c k f known inside at is some =
    let inside_g : IsInside g c = subst (λ (x : Extent). IsCellOf x c) (sym known.extent) inside in
    record { inside = inside_g; is_data = (known_at g ps e flows c k f known inside_g (sym at) is).has_data some }

-- the first cell from which no walk ends
pub FirstEnd-endless : (g : Grid) (ps : Products) (e : Extent) (flows : List Flow) (k : ℕ) (c : Cell) → FirstEnd g ps e flows k →
    HasData g c → index_of e c ≡ k → ¬ RunEnds g ps c → IsFirstEndless g ps c
FirstEnd-endless g ps e flows k c first here at endless = record {
  here = here;
  endless = endless;
  first = λ b there before.
      (let less = earlier_index e b c (in_grid g e b first.known.extent there.inside) before in
      first.ended b there (omega (arith, less, at)));
}

-- past the last cell
pub FirstEnd-all : (g : Grid) (ps : Products) (e : Extent) (flows : List Flow) (k : ℕ) → FirstEnd g ps e flows k →
    e.rows * e.cols ≤ k → (c : Cell) → HasData g c → RunEnds g ps c
FirstEnd-all g ps e flows k first all c here =
    let below = index_of-below e c (in_grid g e c first.known.extent here.inside) in
    first.ended c here (omega (arith, below, all))
