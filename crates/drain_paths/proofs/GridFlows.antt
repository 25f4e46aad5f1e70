-- Flows taken row by row are those of the grid: for a caller that takes rows, and then finds which runs end.
use Rattle.drain_paths.proofs.Names.{◌≡◌, ◌<◌, ◌+◌, ◌*◌, ℕ, ◌∙◌, inl, inr, ℤ, pos, List, [], ◌++◌, length, get_or, sym, ap, arith, Option, Some, None, refl, set, get_or-set_other, get_or-set_same, cases_order, cases_eq, get_or_append_left, get_or-append-add, Cell, index_of, Extent, IsCellOf, Grid, Products, IsInside, no_sink, in_grid, before_row, same_index, Flow, Ends, ToEast, ToSouthEast, ToSouth, ToSouthWest, ToWest, ToNorthWest, ToNorth, ToNorthEast, cell_flow, flows_of, flow_at, AreFlowsOf, AreFirstFlows, AreRowOf, OfFlows, index_of-below}
use Rattle.std.proofs.Common.{length-append}
use Rattle.drain_grid.specs.Spacing.{unit_spacing}
use Rattle.drain_paths.specs.declared.flow.Flow.TheVariants.{Void, Lost}
use Rattle.drain_paths.proofs.RowFlows.{length-flows_of, get_or-flows_of}

-- no row
pub AreFirstFlows-none : (g : Grid) (ps : Products) (e : Extent) → g.extent ≡ e → AreFirstFlows g ps e 0 []
AreFirstFlows-none g ps e extent = record { extent = extent; counted = omega arith; each = λ c inside less. absurd (omega arith) }

-- all rows
pub AreFlowsOf-all : (g : Grid) (ps : Products) (e : Extent) (flows : List Flow) → AreFirstFlows g ps e e.rows flows →
    AreFlowsOf g ps e flows
AreFlowsOf-all g ps e flows first = record {
  extent = first.extent;
  each = λ c inside. first.each c inside (in_grid g e c first.extent inside).row;
}

-- one row more
pub AreFirstFlows-row : (g : Grid) (ps : Products) (e : Extent) (row : ℕ) (flows : List Flow) (zs : List (Option ℤ)) (ns : List ℤ) →
    AreFirstFlows g ps e row flows → AreRowOf g ps row zs ns → AreFirstFlows g ps e (row + 1) (flows ++ flows_of zs ns)
AreFirstFlows-row g ps e row flows zs ns first are =
    let cols : g.extent.cols ≡ e.cols = ap (λ (x : Extent). x.cols) first.extent in
    let same : length zs ≡ length ns = are.samples_are ∙ sym are.numbers_are in
    let added = length-flows_of zs ns same in
    record {
      extent = first.extent;
      counted = length-append flows (flows_of zs ns) ∙ omega (arith, first.counted, added, are.samples_are, cols);
      each = λ c inside less.
          (let in_e = in_grid g e c first.extent inside in
          elim (cases_order c.row row) [
            | inl here ↦ at_row c inside here
            | inr (inl above) ↦
                (let before = before_row c.row c.col row e.cols above in_e.col in
                get_or_append_left flows (flows_of zs ns) Void (index_of e c) (omega (arith, before, first.counted)) ∙ first.each c inside above)
            | inr (inr below) ↦ absurd (omega arith)
          ]);
    }
  where
    at_row : (c : Cell) → IsInside g c → c.row ≡ row → flow_at e (flows ++ flows_of zs ns) c ≡ cell_flow (g.elevation c) (ps.dir c)
    at_row c inside here =
        let within : c.col < length zs = omega (arith, inside.col, are.samples_are) in
        let same : length zs ≡ length ns = are.samples_are ∙ sym are.numbers_are in
        let start : c.row * e.cols ≡ row * e.cols = ap (λ r. r * e.cols) here in
        let is_c : record { row = row; col = c.col } ≡ c = ap (λ (r : ℕ). record { row = r; col = c.col }) (sym here) in
        let at : index_of e c ≡ length flows + c.col = omega (arith, start, first.counted) in
        ap (λ k. get_or (flows ++ flows_of zs ns) k Void) at
        ∙ get_or-append-add flows (flows_of zs ns) c.col Void
        ∙ get_or-flows_of zs ns c.col same within
        ∙ ap (λ z. cell_flow z (get_or ns c.col (pos 0))) (are.elevation c.col inside.col ∙ ap g.elevation is_c)
        ∙ ap (cell_flow (g.elevation c)) (are.code c.col inside.col ∙ ap ps.dir is_c)

-- A grid and products that have given flows: so what holds of each of them holds of some.

abbrev pub height_of_flow : Flow → Option ℤ
height_of_flow Void = None
height_of_flow f = Some (pos 0)

abbrev pub code_of_flow : Flow → ℤ
code_of_flow Void = pos 0
code_of_flow Lost = pos 3
code_of_flow Ends = pos 0
code_of_flow ToEast = pos 1
code_of_flow ToSouthEast = pos 2
code_of_flow ToSouth = pos 4
code_of_flow ToSouthWest = pos 8
code_of_flow ToWest = pos 16
code_of_flow ToNorthWest = pos 32
code_of_flow ToNorth = pos 64
code_of_flow ToNorthEast = pos 128

flow_back : (f : Flow) → f ≡ cell_flow (height_of_flow f) (code_of_flow f)
flow_back Void = refl
flow_back f = refl

pub grid_of_flows : Extent → List Flow → Grid
grid_of_flows e flows =
    record { extent = e; elevation = λ c. height_of_flow (flow_at e flows c); sink = no_sink; spacing = λ row. unit_spacing }

pub products_of_flows : Extent → List Flow → Products
products_of_flows e flows = record {
  con = λ c. pos 0;
  dir = λ c. code_of_flow (flow_at e flows c);
  acc = λ c. pos 0;
  bas = λ c. pos 0;
  spl = λ c. pos 0;
  rnk = λ c. pos 0;
}

pub are_flows : (e : Extent) (flows : List Flow) → AreFlowsOf (grid_of_flows e flows) (products_of_flows e flows) e flows
unfolding grid_of_flows products_of_flows
are_flows e flows = record { extent = refl; each = λ c inside. flow_back (flow_at e flows c) }

-- what names neither the grid nor its products
pub of_some : (e : Extent) (flows : List Flow) (P : Type 0) → OfFlows e flows (λ g ps. P) → P
of_some e flows P each = each (grid_of_flows e flows) (products_of_flows e flows) (are_flows e flows)

-- Flows of the cells of a raster, one after the other.

-- the cells with at most k cells before them have their flows
abbrev pub HaveFlows : Extent → (Cell → Flow) → ℕ → List Flow → Type 0
HaveFlows e flow_of k flows = (c : Cell) → IsCellOf e c → index_of e c < k → flow_at e flows c ≡ flow_of c

pub HaveFlows-more : (e : Extent) (flow_of : Cell → Flow) (k : ℕ) (flows : List Flow) (c : Cell) (flow : Flow) → length flows ≡ e.rows * e.cols →
    IsCellOf e c → index_of e c ≡ k → flow ≡ flow_of c → HaveFlows e flow_of k flows → HaveFlows e flow_of (k + 1) (set flows k flow)
HaveFlows-more e flow_of k flows c flow counted inside at is so_far d there less = elim (cases_eq (index_of e d) k) [
  | inl same ↦
      (let below = index_of-below e c inside in
      ap (λ j. get_or (set flows k flow) j Void) same ∙ (get_or-set_same flows k flow Void (omega (arith, below, at, counted))
      ∙ (is ∙ ap flow_of (same_index e c d inside there (at ∙ sym same)))))
  | inr other ↦ get_or-set_other flows k (index_of e d) flow Void other ∙ so_far d there (omega (arith, less, other))
]
