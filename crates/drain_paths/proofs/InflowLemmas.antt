-- How many cells flow into one, from three rows of flows; whole rows.
use Rattle.drain_paths.proofs.Names.{◌≡◌, ◌≢◌, ◌∙◌, ℕ, ◌+◌, inl, inr, cond, Some, sym, ap, subst, arith, ◌-◌, ◌*◌, ◌<◌, ◌≤◌, ◌==◌, pos, Bool, List, [], ◌∷◌, None, slice_index, slice_index_or, if◌then◌else◌, refl, false_from_ne_true, cases_Bool, cases_lt, eq-eqb, ne_eqb, Cell, same_cell, IsCellOf, index_of, step, Extent, Grid, Products, HasData, next, same_cell_true, same_cell_self, handed_on, handed_one, handed_same, FlowsFrom, HasData-flow, next-flow, flow-next, flow_unique, same_or_not, sum_by, sum_by-cons, Direction, East, SouthEast, South, SouthWest, West, NorthWest, North, NorthEast, code_of, cols_right, directions, opposite, rows_down, names_fact, step_gives, step_lies, none_some, some_or_none, before_row, Flow, NO_CODE, AreFlowsOf, byte_flow, code_flow, direction_of, flow_at, flow_to, AreKnownFlows, cell_number, AreRowCodes, AreInflows, IsInflowOf, inflow_at, one_if}
use Rattle.drain_paths.proofs.PassedSums.{passed_add, passed_most, passed_sum}
use Rattle.drain_grid.proofs.ThreeRows.{row_beside, number_beside, number_in_row, three_rows, col_beside, at_ends, place_in_row, place_in_own_row}
use Rattle.drain_paths.specs.declared.flow.Flow.TheVariants.{Void}
use Rattle.drain_paths.proofs.KnownWays.{AreKnownFlows-grid}
use Rattle.drain_paths.proofs.FlowCells.{with_height}
use Rattle.drain_paths.proofs.FlowCodes.{code_flow-says}

-- The sum that the inflows of a cell pass on, when the number of one cell changes: it changes at one cell at most, the
-- one to which the code leads.

-- more by this amount at this cell, and the same at each other
pub record IsMore (g : Grid) (f more : Cell → ℕ) (c : Cell) (amount : ℕ) : Type 0 where
  pub here : more c ≡ f c + amount
  pub elsewhere : (m : Cell) → HasData g m → m ≢ c → more m ≡ f m

module _ (g : Grid) (ps : Products) (f more : Cell → ℕ) (c : Cell) (amount : ℕ) (is : IsMore g f more c amount) where
  -- a cell to which it doesn't lead
  pub share_elsewhere : (x : Cell) → HasData g x → next g ps c ≢ Some x → handed_on g ps x more ≡ handed_on g ps x f
  share_elsewhere x here other =
      handed_same g ps x more f (λ d m from_m. is.elsewhere m (HasData-flow g ps x d m from_m)
      (λ same. other (subst (λ y. next g ps y ≡ Some x) same (next-flow g ps x d m here from_m))))

  -- that to which it leads
  pub share_ahead : (x : Cell) → HasData g c → next g ps c ≡ Some x → handed_on g ps x more ≡ handed_on g ps x f + amount
  share_ahead x from leads =
      let flow = flow-next g ps c x from leads in
      let added = λ (m : Cell). cond (same_cell c m) amount 0 in
      let whole = handed_same g ps x more (λ m. f m + added m) (λ d m from_m. at m (HasData-flow g ps x d m from_m)) in
      let parts = passed_add g ps x f added in
      let one = handed_one g ps x added flow.1.0 c flow.1.1
      (λ d m from_m differ. ap (λ b. cond b amount 0) (false_from_ne_true (same_cell c m) (λ same.
      differ (flow_unique g ps x c d flow.1.0 (subst (λ y. FlowsFrom g ps x d y) (sym (same_cell_true c m same)) from_m) flow.1.1)))) in
      let here = ap (λ b. cond b amount 0) (same_cell_self c) in
      omega (arith, whole, parts, one, here)
    where
      at : (m : Cell) → HasData g m → more m ≡ f m + cond (same_cell c m) amount 0
      at m data_m = elim (same_or_not c m) [
        | inl same ↦ subst (λ y. more y ≡ f y + cond (same_cell c y) amount 0) same (is.here ∙ ap (λ b. f c + cond b amount 0) (sym (same_cell_self c)))
        | inr other ↦
            (let kept = is.elsewhere m data_m (λ same. other (sym same)) in
            let none = ap (λ b. cond b amount 0) (false_from_ne_true (same_cell c m) (λ same. other (same_cell_true c m same))) in
            omega (arith, kept, none))
      ]

-- few enough that a byte has room for one more
pub inflows_few : (g : Grid) (ps : Products) (e : Extent) (waits : List ℕ) (c : Cell) → IsInflowOf g ps e waits c → HasData g c →
    cell_number e waits c ≤ 8
inflows_few g ps e waits c is here =
    let most = passed_most g ps c (λ m. 1) (λ m. omega arith) in
    omega (arith, most, is here)

-- the flow of a direction's code
flow_named : (d : Direction) → byte_flow (code_of d) ≡ flow_to d
flow_named East = refl
flow_named d = refl

direction_to : (d : Direction) → direction_of (flow_to d) ≡ Some d
direction_to East = refl
direction_to d = refl

no_void : (f : Flow) (d : Direction) → direction_of f ≡ Some d → f ≢ Void
no_void f d leads void = none_some d (sym (ap direction_of void) ∙ leads)

-- the same of numbers
flow_coded : (d : Direction) → code_flow (pos (code_of d)) ≡ flow_to d
flow_coded East = refl
flow_coded d = refl

leads_by_code : (d : Direction) → direction_of (byte_flow (code_of d)) ≡ Some d
leads_by_code d = ap direction_of (flow_named d) ∙ direction_to d

-- so no direction has that of a void
code_some : (d : Direction) → code_of d ≡ NO_CODE → ⊥
code_some d none = no_void (byte_flow (code_of d)) d (leads_by_code d) (ap byte_flow none)

-- a direction has one code
code_is : (code : ℕ) (d : Direction) → byte_flow code ≡ flow_to d → code ≡ code_of d
code_is code d flow =
    elim (cases_Bool (code == NO_CODE)) [
      | inl void ↦ absurd (none_some d (sym (ap (λ (b : Bool). direction_of (if b then Void else code_flow (pos code))) void) ∙ leads))
      | inr some ↦ same_pos ((code_flow-says (pos code)).leads d (sym (ap (λ (b : Bool). direction_of (if b then Void else code_flow (pos code))) some) ∙ leads))
    ]
  where
    leads : direction_of (byte_flow code) ≡ Some d
    leads = ap direction_of flow ∙ direction_to d

    same_pos : pos code ≡ pos (code_of d) → code ≡ code_of d
    same_pos h = cc

one_same : (x : ℕ) (d : Direction) → x ≡ code_of d → one_if x d ≡ 1
one_same x d same = ap (λ b. if b then 1 else 0) (eq-eqb x (code_of d) same)

one_other : (x : ℕ) (d : Direction) → (x ≡ code_of d → ⊥) → one_if x d ≡ 0
one_other x d other = ap (λ b. if b then 1 else 0) (ne_eqb x (code_of d) other)

sum_of_eight : (n : Direction → ℕ) → sum_by n directions ≡ (n East + n SouthEast + n South + n SouthWest) + (n West + n NorthWest + n North + n NorthEast)
sum_of_eight n = omega (
  arith,
  sum_by-cons n East (SouthEast ∷ South ∷ SouthWest ∷ West ∷ NorthWest ∷ North ∷ NorthEast ∷ []),
  sum_by-cons n SouthEast (South ∷ SouthWest ∷ West ∷ NorthWest ∷ North ∷ NorthEast ∷ []),
  sum_by-cons n South (SouthWest ∷ West ∷ NorthWest ∷ North ∷ NorthEast ∷ []),
  sum_by-cons n SouthWest (West ∷ NorthWest ∷ North ∷ NorthEast ∷ []),
  sum_by-cons n West (NorthWest ∷ North ∷ NorthEast ∷ []),
  sum_by-cons n NorthWest (North ∷ NorthEast ∷ []),
  sum_by-cons n North (NorthEast ∷ []),
  sum_by-cons n NorthEast [],
)

module _ (g : Grid) (ps : Products) (e : Extent) (flows : List Flow) (are : AreFlowsOf g ps e flows) (c : Cell) (inside : IsCellOf e c) (a h b : List ℕ)
    (rows : (d : Direction) → AreRowCodes e flows (c.row + rows_down d) (row_beside a h b d)) where
  abbrev code_at : Direction → ℕ
  code_at d = number_beside a h b c.col d

  abbrev one_from : Direction → ℕ
  one_from d = one_if (code_at d) (opposite d)

  known : AreKnownFlows g ps e flows
  known = AreKnownFlows-grid g ps e flows are

  code_there : (d : Direction) (m : Cell) → step e c d ≡ Some m → byte_flow (code_at d) ≡ flow_at e flows m
  code_there d m there =
      let lies = step_lies e c m d there in
      ap byte_flow (number_in_row a h b c.col d ∙ ap (slice_index (row_beside a h b d)) (sym lies.1.1)) ∙ (rows d).codes_are m lies.0 lies.1.0

  code_none : (d : Direction) → step e c d ≡ None → code_at d ≡ NO_CODE
  code_none d none =
      number_in_row a h b c.col d ∙
      (rows d).voids (c.col + cols_right d) (col_beside c.col e.cols d inside.col)
      (λ n in_n row col. none_some n (sym none ∙ step_gives e c n d in_n (row, col)))

  in_extent : (d : Direction) → step g.extent c d ≡ step e c d
  in_extent d = ap (λ (x : Extent). step x c d) are.extent

  -- a neighbour that flows in counts 1
  one_flows : (d : Direction) (m : Cell) → FlowsFrom g ps c d m → one_from d ≡ 1
  one_flows d m from_m =
      let there : step e c d ≡ Some m = sym (in_extent d) ∙ from_m.lies in
      let data_m = HasData-flow g ps c d m from_m in
      let named = (names_fact (ps.dir m) (opposite d)).0 from_m.names_back in
      let flow : flow_at e flows m ≡ flow_to (opposite d) =
      are.each m data_m.inside ∙ (with_height (g.elevation m) (ps.dir m) data_m.is_data ∙ (ap code_flow named ∙ flow_coded (opposite d))) in
      one_same (code_at d) (opposite d) (code_is (code_at d) (opposite d) (code_there d m there ∙ flow))

  -- where none flows in it is 0
  none_flows : (d : Direction) → ((m : Cell) → FlowsFrom g ps c d m → ⊥) → one_from d ≡ 0
  none_flows d none = one_other (code_at d) (opposite d) (λ same.
      elim (some_or_none (step e c d)) [
        | inl outside ↦ code_some (opposite d) (sym same ∙ code_none d outside)
        | inr (m, there) ↦
            (let leads = ap direction_of (sym (code_there d m there) ∙ ap byte_flow same) ∙ leads_by_code (opposite d) in
            let in_m = subst (λ (x : Extent). IsCellOf x m) (sym are.extent) (step_lies e c m d there).0 in
            none m (record {
              lies = in_extent d ∙ there;
              is_data = (known.each m in_m).has_data (no_void (flow_at e flows m) (opposite d) leads);
              names_back = (names_fact (ps.dir m) (opposite d)).1 ((known.each m in_m).leads (opposite d) leads);
            }))
      ])

  inflow_is : inflow_at a h b c.col ≡ handed_on g ps c (λ m. 1)
  inflow_is = sym (passed_sum g ps c (λ m. 1) (λ m. omega arith) one_from one_flows none_flows ∙ sum_of_eight one_from)

-- what was laid between two voids is the row
pub laid_row : (e : Extent) (flows : List Flow) (down start len : ℕ) (codes : List ℕ) → 0 < down → down ≤ e.rows → start ≡ (down - 1) * e.cols → len ≡ e.cols + 2 →
    slice_index codes 0 ≡ NO_CODE → ((k : ℕ) → k + 1 ≡ len → slice_index codes k ≡ NO_CODE) →
    ((k : ℕ) → k + 2 < len → byte_flow (slice_index codes (k + 1)) ≡ slice_index_or flows (start + k) Void) → AreRowCodes e flows down codes
laid_row e flows down start len codes some most start_is long first last each = record {
  codes_are = λ n inside row.
      (let col = inside.col in
      each n.col (omega (arith, col, long)) ∙ ap (λ i. slice_index_or flows i Void) (place_in_row n.row n.col down start e.cols row start_is));
  voids = λ right. at_ends e down len NO_CODE right codes some most long first last;
}

-- the inflow of a cell of the row
pub row_inflow : (g : Grid) (ps : Products) (e : Extent) (flows : List Flow) (are : AreFlowsOf g ps e flows) (c : Cell) (row start : ℕ) (a h b waits : List ℕ) →
    IsCellOf e c → c.row ≡ row → AreRowCodes e flows row a → AreRowCodes e flows (row + 1) h → AreRowCodes e flows (row + 2) b → start ≡ row * e.cols →
    slice_index waits (start + c.col) ≡ inflow_at a h b c.col → IsInflowOf g ps e waits c
row_inflow g ps e flows are c row start a h b waits inside at in_a in_h in_b start_is put = λ here.
    ap (slice_index waits) (sym (place_in_own_row c.row c.col row start e.cols at start_is)) ∙
    (put ∙ inflow_is g ps e flows are c inside a h b (three_rows (AreRowCodes e flows) row c.row a h b at in_a in_h in_b))

-- the inflows of the rows before this one
abbrev pub AreRowInflows : Grid → Products → Extent → ℕ → List ℕ → Type 0
AreRowInflows g ps e row waits = (c : Cell) → IsCellOf e c → c.row < row → IsInflowOf g ps e waits c

pub row_more : (g : Grid) (ps : Products) (e : Extent) (row : ℕ) (old new : List ℕ) → AreRowInflows g ps e row old →
    ((c : Cell) → IsCellOf e c → c.row ≡ row → IsInflowOf g ps e new c) → ((i : ℕ) → i < row * e.cols → slice_index new i ≡ slice_index old i) →
    AreRowInflows g ps e (row + 1) new
row_more g ps e row old new earlier here others c inside less =
    elim (cases_lt c.row row) [
      | inl before ↦ λ has. others (index_of e c) (before_row c.row c.col row e.cols before inside.col) ∙ earlier c inside before has
      | inr most ↦ here c inside (omega (arith, less, most))
    ]

pub all_rows : (g : Grid) (ps : Products) (e : Extent) (flows : List Flow) (row : ℕ) (waits : List ℕ) → AreFlowsOf g ps e flows → e.rows ≤ row →
    AreRowInflows g ps e row waits → AreInflows g ps e waits
all_rows g ps e flows row waits are most each = record {
  extent = are.extent;
  each = λ c inside. each c inside (within c.row e.rows row inside.row most);
}
  where
    within : (own rows row : ℕ) → own < rows → rows ≤ row → own < row
    within own rows row less most = omega (arith, less, most)
