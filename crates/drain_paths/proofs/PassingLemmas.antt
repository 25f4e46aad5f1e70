-- Counts that are passed on, cell by cell.
--
-- A cell that waits for no inflow, and hasn't passed on, has its whole count: all that flow into it have passed on, so
-- nothing is still to come. When it passes on, what is still to come falls by its count at the cell to which it leads,
-- and nowhere else (Shares), and that cell's count rises by as much. At the end all have passed on: a cell that waits
-- has an inflow that waits, whose run is one step longer, and no run is longer than there are cells.
use Rattle.drain_paths.proofs.Names.{◌≡◌, ◌≢◌, ◌∙◌, ℕ, zero, suc, ◌+◌, ◌*◌, ◌<◌, ◌≤◌, inl, inr, Bool, true, false, cond, nat_eq, ◌&&◌, List, length, Some, None, is_some, refl, sym, ap, subst, arith, cases_Bool, false≢true, nat_tests, get_or-map, Cell, Direction, run_steps, IsCellOf, index_of, Extent, Grid, Products, IsInside, HasData, next, drains_through, upstream_count, sum_by_cells_le, ended_chains, ended-run_steps, cell_count, index_of-below, handed_on, handed_none, handed_same, handed_at_least, FlowsFrom, HasData-flow, next-flow, flow-next, same_or_not, none_some, same_some, void_data, upstream_count-parts, run_steps-le, in_grid, Flow, flow_at, AreFlowsOf, AllFlowsEnd, OfFlows, DONE, cell_number, IsPutAt, one_of, ones_of, has_passed, still, IsPassing, IsPassedOn, StaysAway, AreInflows, AreUpstreamCounts}
use Rattle.drain_paths.specs.declared.flow.Flow.TheVariants.{Void}
use Rattle.drain_paths.proofs.FlowCells.{data_at, flow_of_data, flow_of_void}
use Rattle.drain_paths.proofs.InflowLemmas.{inflows_few, IsMore, share_elsewhere, share_ahead}
use Rattle.drain_paths.proofs.PassedSums.{passed_most}
use Rattle.drain_paths.proofs.GridFlows.{are_flows, grid_of_flows, products_of_flows}

few_unmarked : (n : ℕ) → n ≤ 8 → nat_eq n DONE ≡ false
few_unmarked n few = grind (arith, nat_tests)

marked_some : (n : ℕ) → n ≡ DONE → n ≢ 0
marked_some n is none = absurd (omega arith)

-- at most as many cells drain through one as there are
pub upstream_few : (g : Grid) (ps : Products) (c : Cell) → upstream_count g ps c ≤ cell_count g
upstream_few g ps c =
    sum_by_cells_le (λ x. cond (is_some (g.elevation x) && drains_through g ps c x) 1 0) g.extent (λ x. at_most (is_some (g.elevation x) && drains_through g ps c x))
  where
    at_most : (b : Bool) → cond b 1 0 ≤ 1
    at_most true = omega arith
    at_most false = omega arith

-- the run of the cell to which a code leads is shorter
pub shorter_ahead : (g : Grid) (ps : Products) (c n : Cell) → AllFlowsEnd g ps → HasData g c → next g ps c ≡ Some n → run_steps g ps n < run_steps g ps c
shorter_ahead g ps c n ends here leads = omega (arith, ended-run_steps g ps c n (ends c here) leads)

one_of-some : (f : Flow) → f ≢ Void → one_of f ≡ 1
one_of-some Void some = absurd (some refl)
one_of-some f some = refl

-- at the start each data cell has 1, and waits for all that flow into it
pub IsPassing-start : (g : Grid) (ps : Products) (e : Extent) (flows : List Flow) (waits : List ℕ) → AreFlowsOf g ps e flows → length flows ≡ e.rows * e.cols →
    AllFlowsEnd g ps → AreInflows g ps e waits → IsPassing g ps e waits (ones_of flows)
IsPassing-start g ps e flows waits are counted ends inflows = record {
  extent = are.extent;
  ends = ends;
  waiting = λ c here waits_c. inflows.each c (in_grid g e c are.extent here.inside) here ∙ handed_same g ps c (λ m. 1) (still e waits (λ m. 1))
      (λ d m from_m. sym (unmarked (λ x. 1) m (HasData-flow g ps c d m from_m)));
  done = λ c here handed. absurd (false≢true (sym (unmarked_at c here) ∙ handed));
  counted = λ c here.
      (let parts = upstream_count-parts g ps (ended_chains g ps ends) c here in
      let whole = handed_same g ps c (still e waits (upstream_count g ps)) (upstream_count g ps)
      (λ d m from_m. unmarked (upstream_count g ps) m (HasData-flow g ps c d m from_m)) in
      let one : cell_number e (ones_of flows) c ≡ 1 = at_place c here.inside ∙ one_of-some (flow_at e flows c) (flow_of_data g ps e flows are c here) in
      omega (arith, parts, whole, one));
  voids = λ c inside void. at_place c inside ∙ ap one_of (flow_of_void g ps e flows are c inside void);
}
  where
    unmarked_at : (c : Cell) → HasData g c → has_passed e waits c ≡ false
    unmarked_at c here = few_unmarked (cell_number e waits c) (inflows_few g ps e waits c (inflows.each c (in_grid g e c are.extent here.inside)) here)

    unmarked : (f : Cell → ℕ) (c : Cell) → HasData g c → still e waits f c ≡ f c
    unmarked f c here = ap (λ b. cond b 0 (f c)) (unmarked_at c here)

    at_place : (c : Cell) → IsInside g c → cell_number e (ones_of flows) c ≡ one_of (flow_at e flows c)
    at_place c inside =
        let below = index_of-below e c (in_grid g e c are.extent inside) in
        get_or-map one_of flows (index_of e c) Void 0 (omega (arith, below, counted))

-- waits in which this cell has passed on, and of the others the same have
record Marks (g : Grid) (e : Extent) (waits after : List ℕ) (c : Cell) : Type 0 where
  pub marked : has_passed e after c ≡ true
  pub kept : (m : Cell) → HasData g m → m ≢ c → has_passed e after m ≡ has_passed e waits m

still_more : (g : Grid) (e : Extent) (waits after : List ℕ) (c : Cell) (f : Cell → ℕ) → Marks g e waits after c → has_passed e waits c ≡ false →
    IsMore g (still e after f) (still e waits f) c (f c)
still_more g e waits after c f marks before = record {
  here = amounts (has_passed e waits c) (has_passed e after c) (f c) before marks.marked;
  elsewhere = λ m data_m differ. ap (λ b. cond b 0 (f m)) (sym (marks.kept m data_m differ));
}
  where
    amounts : (a b : Bool) (n : ℕ) → a ≡ false → b ≡ true → cond a 0 n ≡ cond b 0 n + n
    amounts true b n p q = absurd (false≢true (sym p))
    amounts false true n p q = omega arith
    amounts false false n p q = absurd (false≢true q)

-- a data cell that waits for no inflow and hasn't passed on
module _ (g : Grid) (ps : Products) (e : Extent) (waits counts : List ℕ) (state : IsPassing g ps e waits counts) (c : Cell) (here : HasData g c)
    (ready : cell_number e waits c ≡ 0) where
  unmarked_here : has_passed e waits c ≡ false
  unmarked_here = ap (λ n. nat_eq n DONE) ready

  none_waits : handed_on g ps c (still e waits (λ m. 1)) ≡ 0
  none_waits = sym (state.waiting c here unmarked_here) ∙ ready

  inflows_handed : (d : Direction) (m : Cell) → FlowsFrom g ps c d m → has_passed e waits m ≡ true
  inflows_handed d m from_m = elim (cases_Bool (has_passed e waits m)) [
    | inl handed ↦ handed
    | inr waits_m ↦
        (let one = ap {B = ℕ} (λ b. cond b 0 1) waits_m in
        let most = handed_at_least g ps c (still e waits (λ x. 1)) d m from_m in
        absurd (omega (arith, one, most, none_waits)))
  ]

  -- it has its whole count
  pub whole_count : cell_number e counts c ≡ upstream_count g ps c
  whole_count =
      let none = handed_none g ps c (still e waits (upstream_count g ps))
      (λ d m from_m. ap (λ b. cond b 0 (upstream_count g ps m)) (inflows_handed d m from_m)) in
      omega (arith, none, state.counted c here)

  -- if it leads nowhere
  pub IsPassing-last : (after : List ℕ) → next g ps c ≡ None → IsPutAt e waits after c DONE → IsPassing g ps e after counts
  IsPassing-last after stops put =
      let marks : Marks g e waits after c = record {
        marked = ap (λ n. nat_eq n DONE) put.there;
        kept = λ m data_m differ. ap (λ n. nat_eq n DONE) (put.elsewhere m (in_grid g e m state.extent data_m.inside) differ);
      } in
      let nowhere : (x : Cell) → next g ps c ≢ Some x = λ x leads. none_some x (sym stops ∙ leads) in
      let same_waits = λ (x : Cell) (data_x : HasData g x).
      share_elsewhere g ps (still e after (λ m. 1)) (still e waits (λ m. 1)) c 1 (still_more g e waits after c (λ m. 1) marks unmarked_here) x data_x (nowhere x) in
      let same_sum = λ (x : Cell) (data_x : HasData g x).
      share_elsewhere g ps (still e after (upstream_count g ps)) (still e waits (upstream_count g ps)) c (upstream_count g ps c)
      (still_more g e waits after c (upstream_count g ps) marks unmarked_here) x data_x (nowhere x) in
      record {
        extent = state.extent;
        ends = state.ends;
        waiting = λ x data_x waits_x. elim (same_or_not x c) [
          | inl same ↦ absurd (false≢true (sym waits_x ∙ (ap (has_passed e after) same ∙ marks.marked)))
          | inr other ↦ put.elsewhere x (in_grid g e x state.extent data_x.inside) other
              ∙ (state.waiting x data_x (sym (marks.kept x data_x other) ∙ waits_x) ∙ same_waits x data_x)
        ];
        done = λ x data_x handed. elim (same_or_not x c) [
          | inl same ↦ sym (same_waits x data_x) ∙ (ap (λ y. handed_on g ps y (still e waits (λ m. 1))) same ∙ none_waits)
          | inr other ↦ sym (same_waits x data_x) ∙ state.done x data_x (sym (marks.kept x data_x other) ∙ handed)
        ];
        counted = λ x data_x. (let same = same_sum x data_x in let sum = state.counted x data_x in omega (arith, same, sum));
        voids = state.voids;
      }

  -- if it leads on
  module _ (n : Cell) (leads : next g ps c ≡ Some n) where
    ahead_data : HasData g n
    ahead_data = (flow-next g ps c n here leads).0

    ahead_waits : 1 ≤ handed_on g ps n (still e waits (λ m. 1))
    ahead_waits =
        let flow = (flow-next g ps c n here leads).1 in
        let one = ap {B = ℕ} (λ b. cond b 0 1) unmarked_here in
        let most = handed_at_least g ps n (still e waits (λ x. 1)) flow.0 c flow.1 in
        omega (arith, one, most)

    ahead_unmarked : has_passed e waits n ≡ false
    ahead_unmarked = elim (cases_Bool (has_passed e waits n)) [
      | inl handed ↦ (let none = state.done n ahead_data handed in absurd (omega (arith, none, ahead_waits)))
      | inr waits_n ↦ waits_n
    ]

    -- the next cell waits for an inflow, so it is another cell
    pub ahead_some : 0 < cell_number e waits n
    ahead_some = (let is = state.waiting n ahead_data ahead_unmarked in omega (arith, is, ahead_waits))

    pub ahead_apart : c ≢ n
    ahead_apart same = (let none : cell_number e waits n ≡ 0 = ap (cell_number e waits) (sym same) ∙ ready in absurd (omega (arith, none, ahead_some)))

    ahead_few : cell_number e waits n ≤ 8
    ahead_few =
        let is = state.waiting n ahead_data ahead_unmarked in
        let most = passed_most g ps n (still e waits (λ m. 1)) (λ m. at_most (has_passed e waits m)) in
        omega (arith, is, most)
      where
        at_most : (b : Bool) → cond b 0 1 ≤ 1
        at_most true = omega arith
        at_most false = omega arith

    -- and has room for the count
    pub ahead_fits : cell_number e counts n + cell_number e counts c ≤ cell_count g
    ahead_fits =
        let flow = (flow-next g ps c n here leads).1 in
        let part = ap (λ b. cond b 0 (upstream_count g ps c)) unmarked_here in
        let most = handed_at_least g ps n (still e waits (upstream_count g ps)) flow.0 c flow.1 in
        let sum = state.counted n ahead_data in
        let few = upstream_few g ps n in
        omega (arith, part, most, sum, few, whole_count)

    module _ (after counts_after : List ℕ) (passed : IsPassedOn e waits after counts counts_after c n) where
      ahead_after : has_passed e after n ≡ false
      ahead_after = few_unmarked (cell_number e after n) (let less = passed.less in omega (arith, less, ahead_few))

      marks : Marks g e waits after c
      marks = record {
        marked = ap (λ k. nat_eq k DONE) passed.marked;
        kept = λ m data_m differ. elim (same_or_not m n) [
          | inl same ↦ ap (has_passed e after) same ∙ (ahead_after ∙ (sym ahead_unmarked ∙ ap (has_passed e waits) (sym same)))
          | inr other ↦ ap (λ k. nat_eq k DONE) (passed.others m (in_grid g e m state.extent data_m.inside) differ other)
        ];
      }

      more : (f : Cell → ℕ) → IsMore g (still e after f) (still e waits f) c (f c)
      more f = still_more g e waits after c f marks unmarked_here

      not_to : (x : Cell) → x ≢ n → next g ps c ≢ Some x
      not_to x other to_x = other (same_some x n (sym to_x ∙ leads))

      pub IsPassing-on : IsPassing g ps e after counts_after
      IsPassing-on = record {
        extent = state.extent;
        ends = state.ends;
        waiting = λ x data_x waits_x. elim (same_or_not x n) [
          | inl same ↦ subst (λ y. cell_number e after y ≡ handed_on g ps y (still e after (λ m. 1))) (sym same) at_n
          | inr other ↦
              (let differ : x ≢ c = λ is. false≢true (sym waits_x ∙ (ap (has_passed e after) is ∙ marks.marked)) in
              passed.others x (in_grid g e x state.extent data_x.inside) differ other
              ∙ (state.waiting x data_x (sym (marks.kept x data_x differ) ∙ waits_x)
              ∙ share_elsewhere g ps (still e after (λ m. 1)) (still e waits (λ m. 1)) c 1 (more (λ m. 1)) x data_x (not_to x other)))
        ];
        done = λ x data_x handed. elim (same_or_not x n) [
          | inl same ↦ absurd (false≢true (sym ahead_after ∙ (ap (has_passed e after) (sym same) ∙ handed)))
          | inr other ↦
              (let same_waits = share_elsewhere g ps (still e after (λ m. 1)) (still e waits (λ m. 1)) c 1 (more (λ m. 1)) x data_x (not_to x other) in
              elim (same_or_not x c) [
                | inl is ↦ sym same_waits ∙ (ap (λ y. handed_on g ps y (still e waits (λ m. 1))) is ∙ none_waits)
                | inr differ ↦ sym same_waits ∙ state.done x data_x (sym (marks.kept x data_x differ) ∙ handed)
              ])
        ];
        counted = λ x data_x. elim (same_or_not x n) [
          | inl same ↦ subst (λ y. cell_number e counts_after y + handed_on g ps y (still e after (upstream_count g ps)) ≡ upstream_count g ps y) (sym same) sum_at_n
          | inr other ↦
              (let same_sum = share_elsewhere g ps (still e after (upstream_count g ps)) (still e waits (upstream_count g ps)) c (upstream_count g ps c)
              (more (upstream_count g ps)) x data_x (not_to x other) in
              let kept = passed.same x (in_grid g e x state.extent data_x.inside) other in
              let sum = state.counted x data_x in
              omega (arith, same_sum, kept, sum))
        ];
        voids = λ x inside void.
            passed.same x (in_grid g e x state.extent inside) (λ same. void_data (g.elevation x) void (ap (λ y. is_some (g.elevation y)) same ∙ ahead_data.is_data))
            ∙ state.voids x inside void;
      }
        where
          at_n : cell_number e after n ≡ handed_on g ps n (still e after (λ m. 1))
          at_n =
              let share = share_ahead g ps (still e after (λ m. 1)) (still e waits (λ m. 1)) c 1 (more (λ m. 1)) n here leads in
              let is = state.waiting n ahead_data ahead_unmarked in
              let less = passed.less in
              omega (arith, share, is, less)

          sum_at_n : cell_number e counts_after n + handed_on g ps n (still e after (upstream_count g ps)) ≡ upstream_count g ps n
          sum_at_n =
              let share = share_ahead g ps (still e after (upstream_count g ps)) (still e waits (upstream_count g ps)) c (upstream_count g ps c)
              (more (upstream_count g ps)) n here leads in
              let sum = state.counted n ahead_data in
              let rise = passed.more in
              omega (arith, share, sum, rise, whole_count)

-- the same of cells with given flows: there is a grid that has them
module _ (e : Extent) (flows : List Flow) (waits counts : List ℕ) (passing : OfFlows e flows (λ g ps. IsPassing g ps e waits counts)) (c n : Cell) (inside : IsCellOf e c)
    (has_data : flow_at e flows c ≢ Void) (ready : cell_number e waits c ≡ 0) (leads : OfFlows e flows (λ g ps. HasData g c → next g ps c ≡ Some n)) where
  abbrev pub g : Grid
  g = grid_of_flows e flows

  abbrev pub ps : Products
  ps = products_of_flows e flows

  are : AreFlowsOf g ps e flows
  are = are_flows e flows

  here : HasData g c
  here = data_at g ps e flows are c inside has_data

  pub flow_some : 0 < cell_number e waits n
  flow_some = ahead_some g ps e waits counts (passing g ps are) c here ready n (leads g ps are here)

  pub flow_apart : c ≢ n
  flow_apart = ahead_apart g ps e waits counts (passing g ps are) c here ready n (leads g ps are here)

  pub flow_fits : cell_number e counts n + cell_number e counts c ≤ e.rows * e.cols
  flow_fits =
      let fits = ahead_fits g ps e waits counts (passing g ps are) c here ready n (leads g ps are here) in
      let cells : g.extent.rows * g.extent.cols ≡ e.rows * e.cols = ap (λ (x : Extent). x.rows * x.cols) are.extent in
      omega (arith, fits, cells)

  pub flow_shorter : run_steps g ps n < run_steps g ps c
  flow_shorter = shorter_ahead g ps c n (passing g ps are).ends here (leads g ps are here)

-- the walk leaves no cell that waits for no inflow
pub stays_ahead : (e : Extent) (waits after counts counts_after : List ℕ) (c n x : Cell) → IsPassedOn e waits after counts counts_after c n → IsCellOf e x →
    StaysAway e waits c x → StaysAway e after n x
stays_ahead e waits after counts counts_after c n x passed inside away = elim (same_or_not x n) [
  | inl same ↦ inl same
  | inr other ↦ inr (elim (same_or_not x c) [
    | inl is ↦ marked_some (cell_number e after x) (ap (cell_number e after) is ∙ passed.marked)
    | inr differ ↦ (λ none. elim away [
      | inl is ↦ differ is
      | inr some ↦ some (sym (passed.others x inside differ other) ∙ none)
    ])
  ])
]

-- if each data cell waits or has passed on, all have passed on, and each has its count
module _ (g : Grid) (ps : Products) (e : Extent) (waits counts : List ℕ) (state : IsPassing g ps e waits counts)
    (away : (c : Cell) → HasData g c → cell_number e waits c ≢ 0) where
  passed_by : (k : ℕ) (c : Cell) → HasData g c → cell_count g < run_steps g ps c + k → has_passed e waits c ≡ true
  passed_by zero c here far = (let bound = run_steps-le g ps c in absurd (omega (arith, bound, far)))
  passed_by (suc k) c here far = elim (cases_Bool (has_passed e waits c)) [
    | inl handed ↦ handed
    | inr waits_c ↦
        (let none = handed_none g ps c (still e waits (λ m. 1)) (λ d m from_m.
        (let data_m = HasData-flow g ps c d m from_m in
        let longer = ended-run_steps g ps m c (state.ends m data_m) (next-flow g ps c d m here from_m) in
        ap {B = ℕ} (λ b. cond b 0 1) (passed_by k m data_m (omega (arith, longer, far))))) in
        absurd (away c here (state.waiting c here waits_c ∙ none)))
  ]

  pub counts_whole : AreUpstreamCounts g ps e counts
  counts_whole = record {
    extent = state.extent;
    counts_are = λ c here.
        (let none = handed_none g ps c (still e waits (upstream_count g ps)) (λ d m from_m.
        ap (λ b. cond b 0 (upstream_count g ps m)) (passed_by (cell_count g + 1) m (HasData-flow g ps c d m from_m) (omega arith))) in
        omega (arith, none, state.counted c here));
    voids = state.voids;
  }
