-- Numbers of steps, cell by cell: those of outlets, and that a run makes one more for each step before.
use Rattle.drain_paths.proofs.Names.{◌≡◌, ◌∙◌, ℕ, zero, suc, pos, List, [], ◌∷◌, map, get_or, refl, sym, ap, ◌≢◌, ◌+◌, ◌*◌, ◌<◌, ◌≤◌, inl, inr, length, subst, arith, Cell, index_of, Extent, Grid, Products, Pixels, IsInside, number_at, UNKNOWN, cell_number, IsNumberBehind, AreNumbersSoFar, AreRunSteps, first_step, first_steps_of, cases_lt, get_or-map, run_steps, RunEnds, in_grid, index_of-below, IsWalk, IsWalk-ends, IsWalk-too_long, EndsAfter-zero, Flow, Ends, flow_at, AreFlowsOf}
use Rattle.drain_paths.specs.Ways.{AreRanks}
use Rattle.drain_paths.specs.declared.flow.Flow.TheVariants.{Void}
use Rattle.drain_paths.proofs.FlowCells.{data_of_flow, zero_of_flow, flow_of_zero}
use Rattle.drain_paths.proofs.Shorter.{RunEnds-walk, ended-fewer}

-- Numbers of steps, as a raster of ranks.

pub pos_at : (xs : List ℕ) (k : ℕ) → get_or (map (λ n. pos n) xs) k (pos 0) ≡ pos (get_or xs k 0)
pos_at [] k = refl
pos_at (x ∷ xs) zero = refl
pos_at (x ∷ xs) (suc k) = pos_at xs k

-- a raster of numbers shows them
pub number_at-raster : (e : Extent) (numbers : List ℕ) (r : Pixels) → r.extent ≡ e → r.numbers ≡ map (λ n. pos n) numbers → (c : Cell) →
    number_at r c ≡ pos (cell_number e numbers c)
number_at-raster e numbers r extent is c =
    ap (λ (x : Extent). get_or r.numbers (index_of x c) (pos 0)) extent ∙ (ap (λ xs. get_or xs (index_of e c) (pos 0)) is ∙ pos_at numbers (index_of e c))

pub AreRanks-steps : (g : Grid) (ps : Products) (e : Extent) (steps : List ℕ) (r : Pixels) → AreRunSteps g ps e steps →
    r ≡ record { extent = e; nodata = pos UNKNOWN; numbers = map (λ n. pos n) steps } → AreRanks g ps r
AreRanks-steps g ps e steps r are is =
    let at = number_at-raster e steps r (ap (λ (p : Pixels). p.extent) is) (ap (λ (p : Pixels). p.numbers) is) in
    record {
      extent = ap (λ (p : Pixels). p.extent) is ∙ sym are.extent;
      nodata = ap (λ (p : Pixels). p.nodata) is;
      ends = are.ends;
      steps = λ c here. at c ∙ ap pos (are.numbers_are c here);
      voids = λ c inside void. at c ∙ ap pos (are.voids c inside void);
    }

-- only an end has a number at first, and that is 0
known_first : (f : Flow) → first_step f ≢ UNKNOWN → (f ≡ Ends) × (first_step f ≡ 0)
known_first Ends known = (refl, refl)
known_first f known = absurd (known refl)

none_at_first : (n : ℕ) → n ≡ 0 → n ≢ UNKNOWN
none_at_first n is none = absurd (omega (arith, is, none))

-- what is known before any walk
pub AreNumbersSoFar-first : (g : Grid) (ps : Products) (e : Extent) (flows : List Flow) (steps : List ℕ) → AreFlowsOf g ps e flows →
    length flows ≡ e.rows * e.cols → steps ≡ first_steps_of flows → AreNumbersSoFar g ps e UNKNOWN run_steps steps
AreNumbersSoFar-first g ps e flows steps are counted is =
    let number : (c : Cell) → IsInside g c → cell_number e steps c ≡ first_step (flow_at e flows c) = λ c inside.
    (let below = index_of-below e c (in_grid g e c are.extent inside) in
    ap (λ ns. cell_number e ns c) is ∙ get_or-map first_step flows (index_of e c) Void 0 (subst (λ n. index_of e c < n) (sym counted) below)) in
    record {
      extent = are.extent;
      right = λ c inside known.
          (let first = known_first (flow_at e flows c) (λ none. known (number c inside ∙ none)) in
          let here = data_of_flow g ps e flows are c inside (λ void. ends_no_void (sym first.0 ∙ void)) in
          let ended = EndsAfter-zero g ps c (zero_of_flow g ps e flows are c here first.0) in
          record { here = here; ends = ended.ends; is = number c inside ∙ (first.1 ∙ sym ended.steps) });
      outlets = λ c here is_zero.
          none_at_first (cell_number e steps c) (number c here.inside ∙ ap first_step (flow_of_zero g ps e flows are c here is_zero));
    }
  where
    ends_no_void : Ends ≡ Void → ⊥
    ends_no_void h = cc

-- a run makes as many steps more as lead to a cell further on
run_steps-walk : (g : Grid) (ps : Products) (k : ℕ) (c d : Cell) → IsWalk g ps k c d → RunEnds g ps c → RunEnds g ps d → run_steps g ps c ≡ k + run_steps g ps d
run_steps-walk g ps k c d walk ends there = elim (cases_lt (g.extent.rows * g.extent.cols) (k + run_steps g ps d)) [
  | inl long ↦ absurd (IsWalk-too_long g ps k c d walk long ends)
  | inr fits ↦ (IsWalk-ends g ps k c d (run_steps g ps d) walk (record { ends = there; steps = refl }) fits).steps
]

-- the number of steps of a run, from that of a cell further on
pub steps_behind : (number steps sum : ℕ) → (number + steps ≤ UNKNOWN → sum ≡ number + steps) → IsNumberBehind UNKNOWN run_steps number steps sum
steps_behind number steps sum is g ps c d few walk here there =
    let ends = RunEnds-walk g ps steps c d walk there.ends in
    let whole = run_steps-walk g ps steps c d walk ends there.ends in
    let fewer = ended-fewer g ps c (record { here = here; ends = ends }) in
    let there_is = there.is in
    let sum_is = is (omega (arith, whole, fewer, few, there_is)) in
    (below sum (omega (arith, whole, fewer, few, there_is, sum_is)), omega (arith, whole, there_is, sum_is))
  where
    below : (n : ℕ) → n < UNKNOWN → n ≢ UNKNOWN
    below n less same = absurd (omega (arith, less, same))
