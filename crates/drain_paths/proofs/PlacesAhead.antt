-- Where a flow leads by places: if all runs end, what the flow of a data cell names is a data cell of the grid, and lies a
-- fixed number of places on.
use Rattle.drain_paths.proofs.Names.{◌≡◌, ◌≢◌, ◌∙◌, ◌⊎◌, ℕ, zero, suc, ◌+◌, ◌-◌, ◌*◌, ◌<◌, ◌≤◌, inl, inr, List, [], ◌∷◌, Some, None, get_or, refl, sym, ap, subst, arith, mul-le-mul_right, Cell, Direction, East, SouthEast, South, SouthWest, West, NorthWest, North, NorthEast, rows_down, cols_right, IsCellOf, index_of, step, Extent, Grid, Products, IsInside, HasData, next, step_lies, cell_at, cell_at-index_of, index_of-below, none_some, same_some, some_or_none, endless-stuck, Flow, Ends, ToEast, ToSouthEast, ToSouth, ToSouthWest, ToWest, ToNorthWest, ToNorth, ToNorthEast, direction_of, flow_at, AllFlowsEnd, AreFlowsOf, OfFlows, AreOffsets, IsOffset}
use Rattle.drain_paths.specs.declared.flow.Flow.TheVariants.{Void, Lost}
use Rattle.drain_paths.proofs.CellPlaces.{cell_of_place}
use Rattle.drain_paths.proofs.FlowCells.{data_at, flow_of_zero, leads_nowhere, leads_outside, leads_to_void, leads_to_data}
use Rattle.drain_paths.proofs.GridFlows.{grid_of_flows, products_of_flows, are_flows}

-- a direction leads at most one row down and one column right
few_rows : (d : Direction) → rows_down d ≤ 2
few_rows East = omega arith
few_rows SouthEast = omega arith
few_rows South = omega arith
few_rows SouthWest = omega arith
few_rows West = omega arith
few_rows NorthWest = omega arith
few_rows North = omega arith
few_rows NorthEast = omega arith

few_cols : (d : Direction) → cols_right d ≤ 2
few_cols East = omega arith
few_cols SouthEast = omega arith
few_cols South = omega arith
few_cols SouthWest = omega arith
few_cols West = omega arith
few_cols NorthWest = omega arith
few_cols North = omega arith
few_cols NorthEast = omega arith

-- a void's flow is none that isn't
void_or_not : (f : Flow) → (f ≡ Void) ⊎ (f ≢ Void)
void_or_not Void = inl refl
void_or_not f = inr (λ h. cc)

-- what the flow of a data cell names
record Ahead (g : Grid) (ps : Products) (e : Extent) (flows : List Flow) (c : Cell) : Type 0 where
  way : Direction
  cell : Cell
  names : direction_of (flow_at e flows c) ≡ Some way
  there : step e c way ≡ Some cell
  leads : next g ps c ≡ Some cell
  has_data : flow_at e flows cell ≢ Void

module _ (g : Grid) (ps : Products) (e : Extent) (flows : List Flow) (are : AreFlowsOf g ps e flows) (ends : AllFlowsEnd g ps) (c : Cell)
    (here : HasData g c) (goes_on : flow_at e flows c ≢ Ends) where
  -- a run that ends, and not here, leads on
  leads_on : next g ps c ≡ None → ⊥
  leads_on stops = endless-stuck g ps c stops (λ zero. goes_on (flow_of_zero g ps e flows are c here zero)) (ends c here)

  ahead_to : (d : Direction) (n : Cell) → direction_of (flow_at e flows c) ≡ Some d → step e c d ≡ Some n → Ahead g ps e flows c
  ahead_to d n names to_n =
      let inside : IsInside g n = subst (λ (x : Extent). IsCellOf x n) (sym are.extent) ((step_lies e c n d to_n).0) in
      elim (void_or_not (flow_at e flows n)) [
        | inl void ↦ absurd (leads_on (leads_to_void g ps e flows are c here d names n inside to_n void))
        | inr some ↦ record { way = d; cell = n; names = names; there = to_n; leads = leads_to_data g ps e flows are c here d names n inside to_n some; has_data = some }
      ]

  ahead_of : Ahead g ps e flows c
  ahead_of = elim (some_or_none (direction_of (flow_at e flows c))) [
    | inl none ↦ absurd (leads_on (leads_nowhere g ps e flows are c here none))
    | inr some ↦ elim (some_or_none (step e c some.0)) [
      | inl outside ↦ absurd (leads_on (leads_outside g ps e flows are c here some.0 some.1 outside))
      | inr there ↦ ahead_to some.0 there.0 some.1 there.1
    ]
  ]

-- the place of the cell that a step leads to
step_place : (e : Extent) (c n : Cell) (d : Direction) → step e c d ≡ Some n → index_of e n + (e.cols + 1) ≡ index_of e c + (rows_down d * e.cols + cols_right d)
step_place e c n d to_n =
    let lies = (step_lies e c n d to_n).1 in
    let rows : (n.row + 1) * e.cols ≡ (c.row + rows_down d) * e.cols = ap (λ r. r * e.cols) lies.0 in
    omega (arith, rows, lies.1)

-- a place, and the one to which its flow leads on
module _ (e : Extent) (flows : List Flow) (place : ℕ) (inside : place < e.rows * e.cols)
    (has_data : get_or flows place Void ≢ Void) (goes_on : get_or flows place Void ≢ Ends) (offset : ℕ) (is : IsOffset e (get_or flows place Void) offset) where
  at_place : flow_at e flows (cell_at e place) ≡ get_or flows place Void
  at_place = ap (λ k. get_or flows k Void) ((cell_of_place e place inside).1)

  module _ (g : Grid) (ps : Products) (are : AreFlowsOf g ps e flows) (ends : AllFlowsEnd g ps) where
    found : Ahead g ps e flows (cell_at e place)
    found =
        let at = cell_of_place e place inside in
        ahead_of g ps e flows are ends (cell_at e place) (data_at g ps e flows are (cell_at e place) at.0 (λ void. has_data (sym at_place ∙ void)))
        (λ stops. goes_on (sym at_place ∙ stops))

    offset_is : offset ≡ rows_down found.way * e.cols + cols_right found.way
    offset_is = is found.way (ap direction_of (sym at_place) ∙ found.names)

    there_is : index_of e found.cell + (e.cols + 1) ≡ place + offset
    there_is =
        let at = cell_of_place e place inside in
        let further = step_place e (cell_at e place) found.cell found.way found.there in
        omega (arith, further, at.1, offset_is)

    -- the place lies in the grid, with data, and is where the code leads
    pub goes_to : (result : ℕ) → result ≡ place + offset - (e.cols + 1) →
        (result < e.rows * e.cols) × (get_or flows result Void ≢ Void) × (next g ps (cell_at e place) ≡ Some (cell_at e result))
    goes_to result is_result =
        let n_inside = (step_lies e (cell_at e place) found.cell found.way found.there).0 in
        let same : result ≡ index_of e found.cell = omega (arith, is_result, there_is) in
        let below = index_of-below e found.cell n_inside in (
          omega (arith, same, below),
          subst (λ k. get_or flows k Void ≢ Void) (sym same) found.has_data,
          found.leads ∙ ap Some (sym (ap (cell_at e) same ∙ cell_at-index_of e found.cell n_inside)),
        )

    offset_most : offset ≤ 2 * e.cols + 2
    offset_most =
        let rows = mul-le-mul_right e.cols (few_rows found.way) in
        omega (arith, offset_is, rows, few_cols found.way)

    offset_least : e.cols + 1 ≤ place + offset
    offset_least = omega (arith, there_is)

  -- the same for some grid
  pub few_on : OfFlows e flows AllFlowsEnd → offset ≤ 2 * e.cols + 2
  few_on ends = offset_most (grid_of_flows e flows) (products_of_flows e flows) (are_flows e flows) (ends (grid_of_flows e flows) (products_of_flows e flows) (are_flows e flows))

  pub not_below : OfFlows e flows AllFlowsEnd → e.cols + 1 ≤ place + offset
  not_below ends = offset_least (grid_of_flows e flows) (products_of_flows e flows) (are_flows e flows) (ends (grid_of_flows e flows) (products_of_flows e flows) (are_flows e flows))

  pub goes_on_to : OfFlows e flows AllFlowsEnd → (result : ℕ) → result ≡ place + offset - (e.cols + 1) →
      (result < e.rows * e.cols) × (get_or flows result Void ≢ Void) × OfFlows e flows (λ g ps. next g ps (cell_at e place) ≡ Some (cell_at e result))
  goes_on_to ends result is_result =
      let first = goes_to (grid_of_flows e flows) (products_of_flows e flows) (are_flows e flows) (ends (grid_of_flows e flows) (products_of_flows e flows) (are_flows e flows)) result is_result in
      (first.0, first.1, (λ g ps are. (goes_to g ps are (ends g ps are) result is_result).2))

-- a grid with a place has no more columns than places
pub cols_few : (rows cols k : ℕ) → k < rows * cols → cols ≤ rows * cols
cols_few zero cols k less = absurd (omega arith)
cols_few (suc rows) cols k less = omega arith

-- the table of offsets
pub table_is : (e : Extent) → AreOffsets e (0 ∷ 0 ∷ 0 ∷ (e.cols + 2) ∷ (2 * e.cols + 2) ∷ (2 * e.cols + 1) ∷ (2 * e.cols) ∷ e.cols ∷ 0 ∷ 1 ∷ 2 ∷ [])
table_is e Void d h = absurd (none_some d h)
table_is e Lost d h = absurd (none_some d h)
table_is e Ends d h = absurd (none_some d h)
table_is e ToEast d h = subst (λ x. e.cols + 2 ≡ rows_down x * e.cols + cols_right x) (same_some East d h) (omega arith)
table_is e ToSouthEast d h = subst (λ x. 2 * e.cols + 2 ≡ rows_down x * e.cols + cols_right x) (same_some SouthEast d h) (omega arith)
table_is e ToSouth d h = subst (λ x. 2 * e.cols + 1 ≡ rows_down x * e.cols + cols_right x) (same_some South d h) (omega arith)
table_is e ToSouthWest d h = subst (λ x. 2 * e.cols ≡ rows_down x * e.cols + cols_right x) (same_some SouthWest d h) (omega arith)
table_is e ToWest d h = subst (λ x. e.cols ≡ rows_down x * e.cols + cols_right x) (same_some West d h) (omega arith)
table_is e ToNorthWest d h = subst (λ x. 0 ≡ rows_down x * e.cols + cols_right x) (same_some NorthWest d h) (omega arith)
table_is e ToNorth d h = subst (λ x. 1 ≡ rows_down x * e.cols + cols_right x) (same_some North d h) (omega arith)
table_is e ToNorthEast d h = subst (λ x. 2 ≡ rows_down x * e.cols + cols_right x) (same_some NorthEast d h) (omega arith)
