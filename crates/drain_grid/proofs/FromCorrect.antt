-- Correct products keep every rule without ranks, and every rule where each rank is the number of steps of the cell's
-- run. A lemma for each rule.
--
-- Rules 4, 5 and 9 say of a least surface that it covers the ground and can't be lowered (Lowered). Rules 10 to 12 say of a cell
-- what correct codes do there: they lead to a steepest cell, stop at an outlet, or lead along a flat. Rule 13 is that what drains through a cell is the cell and what drains through the cells that flow in
-- (Upstream). Rules 14 and 15 are what equal labels mean, for a cell and the next one, and for two outlets. What open means
-- has no part in it.
use Rattle.drain_grid.proofs.Names.{◌≡◌, inl, inr, ◌≤ℤ◌, [], IsSome, subst, arith, int_max, ints, by_lt_z, Cell, Rule, VoidCell, Missing, BadCode, BelowGround, OpenRaised, NoSpill, SpillHeight, SpillRank, NotLeast, Slope, OutletCode, FlatStep, Accumulation, Label, SharedLabel, Values, NoDataNumbers, Grid, Products, IsInside, HasData, height_at, values_at, patch_at, BelowGroundHolds, NotLeastHolds, SlopeHolds, OutletCodeHolds, BadCodeWithoutSpill, OpenRaisedWithoutSpill, unranked, VoidCellWithoutRank, MissingWithoutRank, LevelStepHolds, RulesHold, IsAnyRule, IsCorrect, RulesFromCorrect}
use Rattle.drain_grid.specs.GridRules.{HoldsAt}
use Rattle.drain_grid.proofs.Neighbors.{AreNeighbors-lies, step_lies}
use Rattle.drain_grid.proofs.Patches.{IsOpen-patch_at, cell_shown, shown_cell}
use Rattle.drain_grid.proofs.Codes.{named-next}
use Rattle.drain_grid.proofs.Slopes.{lower_shown, HasLower-lower_cell, IsSteepest-cell}
use Rattle.drain_grid.proofs.Ranks.{own_ranks_play_no_part}
use Rattle.drain_grid.proofs.Lowered.{least_at_open, least_beside, HasData-path}
use Rattle.drain_grid.proofs.CountRules.{counts_inflows, has_own_label, keeps_label}

module _ (g : Grid) (ps : Products) (nodata : NoDataNumbers) (correct : IsCorrect g ps nodata) (c : Cell)
    (inside : IsInside g c) where
  data_here : IsSome (g.elevation c) → HasData g c
  data_here is_data = record { inside = inside; is_data = is_data }

  -- 3
  has_code : BadCodeWithoutSpill (patch_at g ps c)
  has_code is_data =
      elim (correct.never_climbs c (data_here is_data)) [
        | inl is_zero ↦ inl is_zero
        | inr on ↦ (let way = named-next g ps c on.0 on.1.named in inr (way.0, way.1.named))
      ]

  -- 4
  covers_ground : BelowGroundHolds (patch_at g ps c)
  covers_ground is_data = correct.least.covers c (data_here is_data)

  -- 5
  at_ground : OpenRaisedWithoutSpill (patch_at g ps c)
  at_ground is_open =
      let open_cell = (IsOpen-patch_at g ps c inside).0 is_open in
      least_at_open g ps.con correct.least c (HasData-path g c [] open_cell) open_cell

  -- 9
  not_raised : NotLeastHolds (patch_at g ps c)
  not_raised is_data d v beside =
      let found = cell_shown g ps c d v beside in
      let level = least_beside g ps.con correct.least c found.0 (data_here is_data) found.1.has_data
      (AreNeighbors-lies c found.0 d found.1.lies) in
      subst (λ (w : Values). ps.con c ≤ℤ int_max (height_at g c) w.con) found.1.values level

  -- 10
  goes_down : SlopeHolds (patch_at g ps c)
  goes_down low =
      let here = data_here low.0 in
      let lower = lower_shown g ps c low.1.0 low.1.1.0 here low.1.1.1 in
      let on = correct.steepest c here (λ flat. flat.1 lower.0 lower.1.1) in
      let way = named-next g ps c on.0 on.1 in
      (way.0, way.1.named, (IsSteepest-cell g ps c on.0 way.0 here way.1.there).1 on.2)

  -- 11
  stops_at_outlet : OutletCodeHolds (patch_at g ps c)
  stops_at_outlet is_open flat =
      let open_cell = (IsOpen-patch_at g ps c inside).0 is_open in
      let here = HasData-path g c [] open_cell in
      (correct.outlets c here).1 (open_cell, (here, λ n lower. flat (HasLower-lower_cell g ps c n lower)))

  -- 1
  is_blank : VoidCellWithoutRank nodata (patch_at g ps c)
  is_blank is_void =
      let blank = correct.voids c inside is_void in
      record { con_is = blank.con; dir_is = blank.dir; acc_is = blank.acc; bas_is = blank.bas }

  -- 2
  is_complete : MissingWithoutRank nodata (patch_at g ps c)
  is_complete is_data =
      let complete = correct.complete c (data_here is_data) in
      record { con_differs = complete.con; dir_differs = complete.dir; acc_differs = complete.acc; bas_differs = complete.bas }

  -- 12
  goes_along : LevelStepHolds (patch_at g ps c)
  goes_along closed flat =
      let here = data_here closed.0 in
      elim (correct.never_climbs c here) [
        | inl is_zero ↦ absurd (closed.1 ((IsOpen-patch_at g ps c inside).1 ((correct.outlets c here).0 is_zero).0))
        | inr on ↦
            (let n = on.0 in
            let way = named-next g ps c n on.1.named in
            let level : ps.con n ≡ ps.con c =
            by_lt_z (ps.con n) (ps.con c)
            (λ below. absurd (flat (HasLower-lower_cell g ps c n
            (record { from_data = here; to_data = on.1.to_data; beside = on.1.beside; below = below }))))
            (λ above. (let most = on.1.not_higher in omega (arith, ints, above, most))) in (
              way.0,
              values_at g ps n,
              record {
                named = way.1.named;
                beside = shown_cell g ps c n way.0 on.1.to_data (step_lies g.extent c n way.0 way.1.there).1;
                level = level;
              },
            ))
      ]

  holds_at : (r : Rule) → HoldsAt (unranked nodata) g ps c r
  holds_at VoidCell = is_blank
  holds_at Missing = is_complete
  holds_at BadCode = has_code
  holds_at BelowGround = covers_ground
  holds_at OpenRaised = at_ground
  holds_at NoSpill = tt
  holds_at SpillHeight = tt
  holds_at SpillRank = tt
  holds_at NotLeast = not_raised
  holds_at Slope = goes_down
  holds_at OutletCode = stops_at_outlet
  holds_at FlatStep = goes_along
  holds_at Accumulation = counts_inflows g ps correct.runs_end c inside correct.counts
  holds_at Label = keeps_label g ps correct.runs_end c inside correct.labels
  holds_at SharedLabel = has_own_label g ps correct.runs_end c inside correct.labels

-- correct products keep every rule without ranks
pub unranked_from_correct : (g : Grid) (ps : Products) (nodata : NoDataNumbers) → IsCorrect g ps nodata →
    RulesHold (unranked nodata) IsAnyRule g ps
unranked_from_correct g ps nodata correct c r inside between = holds_at g ps nodata correct c inside r

pub rules_from_correct : RulesFromCorrect
rules_from_correct g ps nodata correct ranks c r inside between =
    (own_ranks_play_no_part g ps nodata correct.runs_end ranks c r inside).1 (holds_at g ps nodata correct c inside r)
