-- Runs that go on for n steps, under rules 10 to 12 without ranks: the run of a data cell goes on for n + 1 steps
-- exactly where its code leads to a cell whose run goes on for n.
use Rattle.drain_grid.proofs.Names.{◌≡◌, ◌≢◌, ◌∙◌, ◌⊎◌, inl, inr, ℕ, suc, pos, Bool, true, Some, sym, ap, arith, Cell, Direction, Slope, OutletCode, FlatStep, Values, Names, IsDataNeighbor, IsWayRule, level_rules, Grid, Products, HasData, patch_at, RulesHold, next, steps_from, last_from}
use Rattle.drain_grid.proofs.Decisions.{Decision, cases, both, no, same}
use Rattle.drain_grid.proofs.PatchDecisions.{data_cell, has_lower, is_open}
use Rattle.drain_grid.proofs.Patches.{cell_shown}
use Rattle.drain_grid.proofs.Codes.{next-named}
use Rattle.drain_grid.proofs.Runs.{steps-zero, steps-next, HasData-next, steps-more}
use Rattle.drain_grid.proofs.Taken.{AreStepBefore}

-- a code that names a data neighbour of the patch leads to a data cell
shown_next : (g : Grid) (ps : Products) (c : Cell) (d : Direction) (v : Values) → Names (ps.dir c) d → IsDataNeighbor (patch_at g ps c) d v →
    (n : Cell) × (next g ps c ≡ Some n)
shown_next g ps c d v code beside =
    let found = cell_shown g ps c d v beside in
    (found.0, next-named g ps c found.0 d (record { named = code; there = found.1.there; is_data = found.1.has_data.is_data }))

-- at a data cell the code is 0, or leads to a data cell
zero_or_on : (g : Grid) (ps : Products) → RulesHold level_rules IsWayRule g ps → (c : Cell) → HasData g c →
    (ps.dir c ≡ pos 0) ⊎ ((n : Cell) × (next g ps c ≡ Some n))
zero_or_on g ps rules c here =
    elim (cases (has_lower (patch_at g ps c))) [
      | inl low ↦
          (let steepest = rules c Slope here.inside (omega arith, omega arith) low in
          inr (shown_next g ps c steepest.0 steepest.2.0 steepest.1 steepest.2.1.lower.beside))
      | inr flat ↦
          elim (cases (is_open (patch_at g ps c))) [
            | inl is_open ↦ inl (rules c OutletCode here.inside (omega arith, omega arith) is_open flat)
            | inr closed ↦
                (let on = rules c FlatStep here.inside (omega arith, omega arith) (here.is_data, closed) flat in
                inr (shown_next g ps c on.0 on.1 on.2.named on.2.beside))
          ]
    ]

-- the run of the data cell isn't over after n steps
abbrev pub GoesOnFor : Grid → Products → ℕ → Cell → Type 0
GoesOnFor g ps k c = HasData g c × (ps.dir (last_from c (steps_from g ps k c)) ≢ pos 0)

-- and this can be decided
going : (g : Grid) (ps : Products) (k : ℕ) (c : Cell) → Decision (GoesOnFor g ps k c)
going g ps k c = both (data_cell g c) (no (same (ps.dir (last_from c (steps_from g ps k c))) (pos 0)))

-- as a test
pub goes : Grid → Products → ℕ → Cell → Bool
goes g ps k c = (going g ps k c).test

pub goes_yes : (g : Grid) (ps : Products) (k : ℕ) (c : Cell) → GoesOnFor g ps k c → goes g ps k c ≡ true
unfolding goes
goes_yes g ps k c h = (going g ps k c).complete h

pub goes_is : (g : Grid) (ps : Products) (k : ℕ) (c : Cell) → goes g ps k c ≡ true → GoesOnFor g ps k c
unfolding goes
goes_is g ps k c h = (going g ps k c).sound h

last-next : (g : Grid) (ps : Products) (k : ℕ) (c n : Cell) → next g ps c ≡ Some n →
    last_from c (steps_from g ps (suc k) c) ≡ last_from n (steps_from g ps k n)
last-next g ps k c n leads = ap (last_from c) (steps-next g ps k c n leads)

-- what goes on for one step more goes on
pub goes_before : (g : Grid) (ps : Products) (k : ℕ) (c : Cell) → goes g ps (suc k) c ≡ true → goes g ps k c ≡ true
goes_before g ps k c h =
    let more = goes_is g ps (suc k) c h in
    goes_yes g ps k c (more.0, λ over. more.1 (ap (λ xs. ps.dir (last_from c xs)) (steps-more g ps k c over) ∙ over))

-- what goes on for one step more is what leads to what goes on
pub are_step_before : (g : Grid) (ps : Products) → RulesHold level_rules IsWayRule g ps → (k : ℕ) →
    AreStepBefore g ps (goes g ps k) (goes g ps (suc k))
are_step_before g ps rules k = record {
  have_data = λ c h. (goes_is g ps k c h).0;
  back = λ c m h here leads. goes_yes g ps (suc k) m (here, λ over. (goes_is g ps k c h).1 (sym (ap ps.dir (last-next g ps k m c leads)) ∙ over));
  on = λ m h.
      (let more = goes_is g ps (suc k) m h in
      elim (zero_or_on g ps rules m more.0) [
        | inl is_zero ↦ absurd (more.1 (ap (λ xs. ps.dir (last_from m xs)) (steps-zero g ps (suc k) m is_zero) ∙ is_zero))
        | inr way ↦ (
          more.0,
          (
            way.0,
            way.1,
            goes_yes g ps k way.0
                (HasData-next g ps m way.0 way.1, λ over. more.1 (ap ps.dir (last-next g ps k m way.0 way.1) ∙ over)),
          ),
        )
      ]);
}
