-- Products are correct where every run ends, the rules on heights and directions hold without ranks, and the other facts of
-- correct products are known. Ranks are the numbers of steps here, so the rules hold with ranks too, and the laws about
-- whole runs say the rest.
use Rattle.drain_laws.proofs.Names.{◌≡◌, ◌↔◌, inl, inr, pos, IsNone, arith, Cell, Rule, Slope, RanksAreSteps, unranked, Grid, Products, IsInside, HasData, patch_at, RulesHold, check_rules, flow_rules, surface_rules, IsFillRule, IsFlowRule, IsWayRule, IsCountRule, IsLabelRule, IsFlatCell, RunEnds, ShareBasin, upstream_count, NoDataNumbers, cases, has_lower, least_from_rules_profile2, runs_end, steepest_cell, HasLower-lower_cell}
use Rattle.drain_grid.specs.Correct.{IsBlankAt, IsCompleteAt, GoesSteepest, IsCorrect, RunsAreSound}
use Rattle.drain_grid.proofs.CountRules.{labels_are_basins}
use Rattle.drain_grid.proofs.Codes.{next-named}
use Rattle.drain_grid.proofs.Profiles.{flow_same, surface_same_unranked, HoldsAt-patch}
use Rattle.drain_grid.proofs.Ranks.{own_ranks_play_no_part}
use Rattle.drain_grid.proofs.Upstream.{counts_upstream}

-- the facts of correct products that don't follow from rules on heights and directions
pub record AreCompleted (g : Grid) (ps : Products) (nodata : NoDataNumbers) : Type 0 where
  pub voids : (c : Cell) → IsInside g c → IsNone (g.elevation c) → IsBlankAt ps nodata c
  pub complete : (c : Cell) → HasData g c → IsCompleteAt ps nodata c
  pub counts : (c : Cell) → HasData g c → ps.acc c ≡ pos (upstream_count g ps c)
  pub labels : (a b : Cell) → HasData g a → HasData g b → (ps.bas a ≡ ps.bas b) ↔ ShareBasin g ps a b

module _ (g : Grid) (ps : Products) (nodata : NoDataNumbers) (ends : (c : Cell) → HasData g c → RunEnds g ps c)
    (ranks : RanksAreSteps g ps nodata) where
  -- with these ranks rules on where water goes hold
  with_steps : (IsOwn : Rule → Type 0) → ((r : Rule) → IsOwn r → IsFlowRule r) → RulesHold (unranked nodata) IsOwn g ps →
      RulesHold flow_rules IsOwn g ps
  with_steps IsOwn within rules c r inside own =
      HoldsAt-patch (check_rules nodata) flow_rules g ps c r (flow_same nodata (patch_at g ps c) r (within r own)).1
      ((own_ranks_play_no_part g ps nodata ends ranks c r inside).1 (rules c r inside own))

  flow_ways : RulesHold (unranked nodata) IsWayRule g ps → RulesHold flow_rules IsWayRule g ps
  flow_ways ways = with_steps IsWayRule (λ r own. (own.0, omega (arith, own.1))) ways

  pub sound : RulesHold (unranked nodata) IsWayRule g ps → RunsAreSound g ps
  sound ways = runs_end g ps (flow_ways ways)

  pub counts_by_rules : RulesHold (unranked nodata) IsCountRule g ps → (c : Cell) → HasData g c → ps.acc c ≡ pos (upstream_count g ps c)
  counts_by_rules rules = counts_upstream g ps (with_steps IsCountRule (λ r own. (own.0, omega (arith, own.1))) rules)

  pub labels_by_rules : RulesHold (unranked nodata) IsWayRule g ps → RulesHold (unranked nodata) IsLabelRule g ps →
      (a b : Cell) → HasData g a → HasData g b → (ps.bas a ≡ ps.bas b) ↔ ShareBasin g ps a b
  labels_by_rules ways rules =
      labels_are_basins g ps (flow_ways ways) (with_steps IsLabelRule (λ r own. (omega (arith, own.0), own.1)) rules)

  -- off flats the code names a steepest neighbour
  goes_steepest : RulesHold (unranked nodata) IsWayRule g ps → (c : Cell) → HasData g c → ¬ IsFlatCell g ps c → GoesSteepest g ps c
  goes_steepest ways c here not_flat =
      elim (cases (has_lower (patch_at g ps c))) [
        | inl low ↦
            (let way = ways c Slope here.inside (omega arith, omega arith) low in
            let cell = steepest_cell g ps c way.0 here way.2 in
            let named = next-named g ps c cell.0 way.0 (record { named = way.1; there = cell.1; is_data = cell.2.lower.to_data.is_data }) in
            (cell.0, named, cell.2))
        | inr flat ↦ absurd (not_flat (here, λ n lower. flat (HasLower-lower_cell g ps c n lower)))
      ]

  pub correct_by_ways : RulesHold (unranked nodata) IsFillRule g ps → RulesHold (unranked nodata) IsWayRule g ps → AreCompleted g ps nodata →
      IsCorrect g ps nodata
  correct_by_ways heights ways completed =
      let surface : RulesHold surface_rules IsFillRule g ps = λ c r inside own. HoldsAt-patch (unranked nodata) surface_rules g ps c r
      (surface_same_unranked nodata (patch_at g ps c) r own).1 (heights c r inside own) in
      let runs = sound ways in
      record {
        voids = completed.voids;
        complete = completed.complete;
        least = (least_from_rules_profile2 g ps surface (flow_ways ways)).least;
        never_climbs = λ c here. (runs c here).never_climbs;
        steepest = goes_steepest ways;
        outlets = λ c here. (runs c here).outlets;
        runs_end = ends;
        counts = completed.counts;
        labels = completed.labels;
      }
