-- The rules without ranks ignore ranks: they hold of products where they hold of the same products with other ranks.
-- And the numbers of steps, which ranks may be taken to be.
use Rattle.drain_grid.proofs.Names.{◌≡◌, ◌∙◌, ℕ, ℤ, pos, negsuc, ◌+ℤ◌, ◌≤ℤ◌, if◌then◌else◌, List, [], ◌∷◌, map, Option, Some, None, IsNone, IsSome, is_some, option_map, refl, sym, ap, subst, int_max, false≢true, Cell, Direction, Rule, VoidCell, Missing, BadCode, BelowGround, OpenRaised, NoSpill, SpillHeight, SpillRank, NotLeast, Slope, OutletCode, FlatStep, Accumulation, Label, SharedLabel, directions, Values, NoDataNumbers, neighbor, IsOpen, HasLower, inflow, total, NotLeastHolds, SlopeHolds, OutletCodeHolds, AccumulationHolds, LabelHolds, OpenRaisedWithoutSpill, unranked, VoidCellWithoutRank, MissingWithoutRank, LevelStepHolds, run_steps, RanksAreSteps, with_ranks, with_rank_nodata, step, Grid, Products, IsInside, HasData, height_at, values_at, patch_at}
use Rattle.drain_grid.specs.GridRules.{HoldsAt}
use Rattle.drain_grid.proofs.Patches.{IsOpen-patch_at, neighbor-patch_at, cell_shown, shown_cell}
use Rattle.drain_grid.proofs.Slopes.{lower_shown, HasLower-lower_cell, steepest_cell, IsSteepest-cell}
use Rattle.drain_grid.proofs.Alike.{lower_there, steepest_there, run_steps-alike}

open_there : (g : Grid) (ps : Products) (ranks : Cell → ℤ) (c : Cell) → IsInside g c → IsOpen (patch_at g ps c) →
    IsOpen (patch_at g (with_ranks ps ranks) c)
open_there g ps ranks c inside h = (IsOpen-patch_at g (with_ranks ps ranks) c inside).1 ((IsOpen-patch_at g ps c inside).0 h)

low_there : (g : Grid) (ps : Products) (ranks : Cell → ℤ) (c : Cell) → IsInside g c → HasLower (patch_at g ps c) →
    HasLower (patch_at g (with_ranks ps ranks) c)
low_there g ps ranks c inside low =
    let lower = lower_shown g ps c low.1.0 low.1.1.0 (record { inside = inside; is_data = low.0 }) low.1.1.1 in
    HasLower-lower_cell g (with_ranks ps ranks) c lower.0 (lower_there g ps ranks c lower.0 lower.1.1)

-- sums of equal numbers
pub total-same : (f h : Direction → ℤ) → ((d : Direction) → f d ≡ h d) → (ds : List Direction) → total (map f ds) ≡ total (map h ds)
total-same f h same [] = refl
total-same f h same (d ∷ ds) = ap (λ x. x +ℤ total (map f ds)) (same d) ∙ ap (λ x. h d +ℤ x) (total-same f h same ds)

inflow-there : (g : Grid) (ps : Products) (ranks : Cell → ℤ) (o : Option Cell) (d : Direction) →
    inflow (option_map (values_at g (with_ranks ps ranks)) o) d ≡ inflow (option_map (values_at g ps) o) d
inflow-there g ps ranks None d = refl
inflow-there g ps ranks (Some n) d = refl

module _ (g : Grid) (ps : Products) (nodata : NoDataNumbers) (ranks : Cell → ℤ) (rank_nodata : ℤ) (c : Cell)
    (inside : IsInside g c) where
  open_back : IsOpen (patch_at g (with_ranks ps ranks) c) → IsOpen (patch_at g ps c)
  open_back h = open_there g (with_ranks ps ranks) ps.rnk c inside h

  low_back : HasLower (patch_at g (with_ranks ps ranks) c) → HasLower (patch_at g ps c)
  low_back h = low_there g (with_ranks ps ranks) ps.rnk c inside h

  blank : VoidCellWithoutRank nodata (patch_at g ps c) →
      VoidCellWithoutRank (with_rank_nodata nodata rank_nodata) (patch_at g (with_ranks ps ranks) c)
  blank h void =
      let four = h void in
      record { con_is = four.con_is; dir_is = four.dir_is; acc_is = four.acc_is; bas_is = four.bas_is }

  complete : MissingWithoutRank nodata (patch_at g ps c) →
      MissingWithoutRank (with_rank_nodata nodata rank_nodata) (patch_at g (with_ranks ps ranks) c)
  complete h is_data =
      let four = h is_data in
      record { con_differs = four.con_differs; dir_differs = four.dir_differs; acc_differs = four.acc_differs; bas_differs = four.bas_differs }

  at_ground : OpenRaisedWithoutSpill (patch_at g ps c) → OpenRaisedWithoutSpill (patch_at g (with_ranks ps ranks) c)
  at_ground h is_open = h (open_back is_open)

  not_raised : NotLeastHolds (patch_at g ps c) → NotLeastHolds (patch_at g (with_ranks ps ranks) c)
  not_raised h is_data d v beside =
      let found = cell_shown g (with_ranks ps ranks) c d v beside in
      subst (λ (w : Values). ps.con c ≤ℤ int_max (height_at g c) w.con) found.1.values
      (h is_data d (values_at g ps found.0) (shown_cell g ps c found.0 d found.1.has_data found.1.lies))

  goes_down : SlopeHolds (patch_at g ps c) → SlopeHolds (patch_at g (with_ranks ps ranks) c)
  goes_down h low =
      let on = h (low_back low) in
      let here : HasData g c = record { inside = inside; is_data = low.0 } in
      let cell = steepest_cell g ps c on.0 here on.2 in
      (on.0, on.1, (IsSteepest-cell g (with_ranks ps ranks) c cell.0 on.0 here cell.1).1 (steepest_there g ps ranks c cell.0 cell.2))

  stops : OutletCodeHolds (patch_at g ps c) → OutletCodeHolds (patch_at g (with_ranks ps ranks) c)
  stops h is_open flat = h (open_back is_open) (λ low. flat (low_there g ps ranks c inside low))

  goes_along : LevelStepHolds (patch_at g ps c) → LevelStepHolds (patch_at g (with_ranks ps ranks) c)
  goes_along h closed flat =
      let on = h (closed.0, λ is_open. closed.1 (open_there g ps ranks c inside is_open)) (λ low. flat (low_there g ps ranks c inside low)) in
      let found = cell_shown g ps c on.0 on.1 on.2.beside in (
        on.0,
        values_at g (with_ranks ps ranks) found.0,
        record {
          named = on.2.named;
          beside = shown_cell g (with_ranks ps ranks) c found.0 on.0 found.1.has_data found.1.lies;
          level = ap (λ (w : Values). w.con) found.1.values ∙ on.2.level;
        },
      )

  counts : AccumulationHolds (patch_at g ps c) → AccumulationHolds (patch_at g (with_ranks ps ranks) c)
  counts h is_data =
      h is_data ∙ ap (λ z. pos 1 +ℤ z) (total-same (λ d. inflow (neighbor (patch_at g ps c) d) d)
      (λ d. inflow (neighbor (patch_at g (with_ranks ps ranks) c) d) d)
      (λ d. ap (λ o. inflow o d) (neighbor-patch_at g ps c d) ∙
      (sym (inflow-there g ps ranks (step g.extent c d) d) ∙ ap (λ o. inflow o d) (sym (neighbor-patch_at g (with_ranks ps ranks) c d))))
      directions)

  keeps_label : LabelHolds (patch_at g ps c) → LabelHolds (patch_at g (with_ranks ps ranks) c)
  keeps_label h is_data d v named beside =
      let found = cell_shown g (with_ranks ps ranks) c d v beside in
      h is_data d (values_at g ps found.0) named (shown_cell g ps c found.0 d found.1.has_data found.1.lies) ∙
      ap (λ (w : Values). w.bas) found.1.values

  -- a rule without ranks that holds, holds with any ranks
  pub unranked-ranks : (r : Rule) → HoldsAt (unranked nodata) g ps c r →
      HoldsAt (unranked (with_rank_nodata nodata rank_nodata)) g (with_ranks ps ranks) c r
  unranked-ranks VoidCell h = blank h
  unranked-ranks Missing h = complete h
  unranked-ranks BadCode h = h
  unranked-ranks BelowGround h = h
  unranked-ranks OpenRaised h = at_ground h
  unranked-ranks NoSpill h = h
  unranked-ranks SpillHeight h = h
  unranked-ranks SpillRank h = h
  unranked-ranks NotLeast h = not_raised h
  unranked-ranks Slope h = goes_down h
  unranked-ranks OutletCode h = stops h
  unranked-ranks FlatStep h = goes_along h
  unranked-ranks Accumulation h = counts h
  unranked-ranks Label h = keeps_label h
  unranked-ranks SharedLabel h = h

-- the numbers of steps as ranks, and -1 at voids
pub step_ranks : Grid → Products → Cell → ℤ
step_ranks g ps c = if is_some (g.elevation c) then pos (run_steps g ps c) else negsuc 0

at_data : (z : Option ℤ) (a b : ℤ) → IsSome z → (if is_some z then a else b) ≡ a
at_data None a b h = absurd (false≢true h)
at_data (Some z) a b h = refl

at_void : (z : Option ℤ) (a b : ℤ) → IsNone z → (if is_some z then a else b) ≡ b
at_void None a b h = refl
at_void (Some z) a b h = absurd (false≢true (sym h))

pub step_ranks-right : (g : Grid) (ps : Products) (nodata : NoDataNumbers) →
    RanksAreSteps g (with_ranks ps (step_ranks g ps)) (with_rank_nodata nodata (negsuc 0))
unfolding step_ranks
step_ranks-right g ps nodata =
    let qs = with_ranks ps (step_ranks g ps) in
    let same : (c : Cell) → ps.dir c ≡ qs.dir c = λ c. refl in
    record {
      steps = λ c here. at_data (g.elevation c) (pos (run_steps g ps c)) (negsuc 0) here.is_data ∙ ap pos (run_steps-alike g ps qs same c);
      voids = λ c inside void. at_void (g.elevation c) (pos (run_steps g ps c)) (negsuc 0) void;
      complete = λ c here none. below_none (run_steps g ps c) (sym (at_data (g.elevation c) (pos (run_steps g ps c)) (negsuc 0) here.is_data) ∙ none);
    }
  where
    below_none : (n : ℕ) → pos n ≡ negsuc 0 → ⊥
    below_none n h = cc
