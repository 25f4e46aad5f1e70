-- Labels by places where all runs end: a cell without a label leads on, to a cell with the same label and a shorter run.
use Rattle.drain_paths.proofs.Names.{◌≡◌, ◌≢◌, ◌∙◌, ℕ, ◌*◌, ◌<◌, List, Some, get_or, sym, ap, subst, Extent, IsCellOf, Grid, Products, IsInside, HasData, next, run_steps, cell_at, ended-run_end, Flow, Ends, basin_label, end_number, cell_number, AreNumbersSoFar, AllFlowsEnd, AreFlowsOf, OfFlows, flow_at}
use Rattle.drain_paths.specs.declared.flow.Flow.TheVariants.{Void}
use Rattle.drain_paths.proofs.CellPlaces.{cell_of_place}
use Rattle.drain_paths.proofs.FlowCells.{data_at, zero_of_flow}
use Rattle.drain_paths.proofs.GridFlows.{grid_of_flows, products_of_flows, are_flows, of_some}
use Rattle.drain_paths.proofs.PassingLemmas.{shorter_ahead}

-- a place with data
module _ (e : Extent) (flows : List Flow) (place : ℕ) (inside : place < e.rows * e.cols) (has_data : get_or flows place Void ≢ Void) where
  at_place : flow_at e flows (cell_at e place) ≡ get_or flows place Void
  at_place = ap (λ k. get_or flows k Void) ((cell_of_place e place inside).1)

  -- its cell has data
  pub data_there : (g : Grid) (ps : Products) → AreFlowsOf g ps e flows → HasData g (cell_at e place)
  data_there g ps are = data_at g ps e flows are (cell_at e place) ((cell_of_place e place inside).0) (λ void. has_data (sym at_place ∙ void))

  -- one without a label is no outlet
  pub unlabelled_on : (labels : List ℕ) → OfFlows e flows (λ g ps. AreNumbersSoFar g ps e 0 basin_label labels) → get_or labels place 0 ≡ 0 →
      get_or flows place Void ≢ Ends
  unlabelled_on labels so_far none is_end =
      of_some e flows ⊥ (λ g ps are.
      (let here = data_there g ps are in
      let zero = zero_of_flow g ps e flows are (cell_at e place) here (at_place ∙ is_end) in
      let number : cell_number e labels (cell_at e place) ≡ get_or labels place 0 = ap (λ k. get_or labels k 0) ((cell_of_place e place inside).1) in
      (so_far g ps are).outlets (cell_at e place) here zero (number ∙ none)))

  -- where it leads on
  module _ (ends : OfFlows e flows AllFlowsEnd) (ahead : ℕ) (leads : OfFlows e flows (λ g ps. next g ps (cell_at e place) ≡ Some (cell_at e ahead))) where
    -- the run is shorter
    pub shorter_there : run_steps (grid_of_flows e flows) (products_of_flows e flows) (cell_at e ahead) < run_steps (grid_of_flows e flows) (products_of_flows e flows) (cell_at e place)
    shorter_there =
        let g = grid_of_flows e flows in
        let ps = products_of_flows e flows in
        let are = are_flows e flows in
        shorter_ahead g ps (cell_at e place) (cell_at e ahead) (ends g ps are) (data_there g ps are) (leads g ps are)

    -- and the label the same
    pub same_label : OfFlows e flows (λ g ps. basin_label g ps (cell_at e place) ≡ basin_label g ps (cell_at e ahead))
    same_label g ps are =
        ap (end_number g ps) (ended-run_end g ps (cell_at e place) (cell_at e ahead) (ends g ps are (cell_at e place) (data_there g ps are)) (leads g ps are))

-- a label that is known is right
pub label_there : (e : Extent) (flows : List Flow) (labels : List ℕ) → OfFlows e flows (λ g ps. AreNumbersSoFar g ps e 0 basin_label labels) → (place : ℕ) →
    place < e.rows * e.cols → get_or labels place 0 ≢ 0 → OfFlows e flows (λ g ps. get_or labels place 0 ≡ basin_label g ps (cell_at e place))
label_there e flows labels so_far place inside known g ps are =
    let at = cell_of_place e place inside in
    let number : cell_number e labels (cell_at e place) ≡ get_or labels place 0 = ap (λ k. get_or labels k 0) at.1 in
    let in_g : IsInside g (cell_at e place) = subst (λ (x : Extent). IsCellOf x (cell_at e place)) (sym are.extent) at.0 in
    sym number ∙ ((so_far g ps are).right (cell_at e place) in_g (λ none. known (sym number ∙ none))).is
