-- What the local rules say of the whole grid.
use Rattle.std.specs.Prelude.{◌≡◌, ℕ, ◌*◌, ◌<◌, ℤ, pos, ◌*ℤ◌, ◌<ℤ◌, ◌≤ℤ◌, ◌↔◌, IsTrue, option_map, if◌then◌else◌}
use Rattle.drain_grid.specs.declared.cell.Cell.{Cell}
use Rattle.drain_grid.specs.Values.{NoDataNumbers}
use Rattle.drain_grid.specs.declared.direction.Direction.{Direction}
use Rattle.drain_grid.specs.declared.rule.Rule.{Rule}
use Rattle.drain_grid.specs.Direction.{is_straight}
use Rattle.drain_grid.specs.Slope.{slope_key}
use Rattle.drain_grid.specs.declared.height_kind.HeightKind.{HeightKind}
use Rattle.drain_grid.specs.HeightKinds.{height_of}
use Rattle.drain_grid.specs.Spacing.{Distances, IsSpacing, distance_square, unit_spacing, weight_of}
use Rattle.drain_grid.specs.Extent.{step}
use Rattle.drain_grid.specs.Open.{IsGap}
use Rattle.drain_grid.specs.Grid.{Grid, Products, IsInside, HasData, IsOpenCell, height_at}
use Rattle.drain_grid.specs.Path.{Drains, IsFilled, IsLeastSurface, Surface}
use Rattle.drain_grid.specs.Run.{RunEnds, upstream_count, ShareBasin}
use Rattle.drain_grid.specs.Rule.{IsAnyRule, IsFillRule, IsWayRule, IsCountRule, IsLabelRule}
use Rattle.drain_grid.specs.Unranked.{level_rules, unranked, RanksAreSteps, with_ranks, with_rank_nodata}
use Rattle.drain_grid.specs.PatchRules.{check_rules, fill_rules, flow_rules, profile1, profile2, surface_rules}
use Rattle.drain_grid.specs.GridRules.{HoldsAt, RulesHold}
use Rattle.drain_grid.specs.Correct.{RunsAreSound, IsCorrect}

-- where rules 4 to 9 hold at every cell, con is the filled surface: the spill level of each data cell, and the least
-- surface that covers the ground and drains
abbrev pub LeastFromRules : Type 0
LeastFromRules = (g : Grid) (ps : Products) → RulesHold fill_rules IsFillRule g ps → IsFilled g ps.con

-- the same without spill parents, by directions: where rules 4, 5 and 9, and 10 to 12 hold at every cell
abbrev pub LeastFromRulesProfile2 : Type 0
LeastFromRulesProfile2 =
    (g : Grid) (ps : Products) → RulesHold surface_rules IsFillRule g ps → RulesHold flow_rules IsWayRule g ps → IsFilled g ps.con

-- a rule that holds at a cell with spill parents holds there without: products keep their rules without spl
abbrev pub Profile2FromProfile1 : Type 0
Profile2FromProfile1 =
    (g : Grid) (ps : Products) (nodata : NoDataNumbers) (c : Cell) (r : Rule) →
    HoldsAt (profile1 nodata) g ps c r → HoldsAt (profile2 nodata) g ps c r

-- where rules 10 to 12 hold at every cell, every run is sound: it never climbs, visits no cell twice, and ends at an outlet
abbrev pub RunsEnd : Type 0
RunsEnd = (g : Grid) (ps : Products) → RulesHold flow_rules IsWayRule g ps → RunsAreSound g ps

-- where rules 10 to 13 hold at every cell, acc is the number of cells that drain through the cell
abbrev pub CountsUpstream : Type 0
CountsUpstream =
    (g : Grid) (ps : Products) → RulesHold flow_rules IsCountRule g ps →
    (c : Cell) → HasData g c → ps.acc c ≡ pos (upstream_count g ps c)

-- where rules 10 to 12, 14 and 15 hold at every cell, labels are equal exactly where basins are shared
abbrev pub LabelsAreBasins : Type 0
LabelsAreBasins =
    (g : Grid) (ps : Products) → RulesHold flow_rules IsWayRule g ps → RulesHold flow_rules IsLabelRule g ps →
    (a b : Cell) → HasData g a → HasData g b → (ps.bas a ≡ ps.bas b) ↔ ShareBasin g ps a b

-- where all rules of a check hold at every cell, the products are correct, and every run is sound
abbrev pub CorrectFromRules : Type 0
CorrectFromRules =
    (g : Grid) (ps : Products) (nodata : NoDataNumbers) → RulesHold (check_rules nodata) IsAnyRule g ps →
    IsCorrect g ps nodata × RunsAreSound g ps

-- the converse: where products are correct and ranks are the numbers of steps of runs, every rule holds at every cell
abbrev pub RulesFromCorrect : Type 0
RulesFromCorrect =
    (g : Grid) (ps : Products) (nodata : NoDataNumbers) → IsCorrect g ps nodata → RanksAreSteps g ps nodata →
    RulesHold (check_rules nodata) IsAnyRule g ps

-- where every run ends, a rule holds at a cell with the numbers of steps for ranks, whatever ranks the products have,
-- exactly where it holds without ranks
abbrev pub RanksPlayNoPart : Type 0
RanksPlayNoPart =
    (g : Grid) (ps : Products) (nodata : NoDataNumbers) (ranks : Cell → ℤ) (rank_nodata : ℤ) →
    ((c : Cell) → HasData g c → RunEnds g ps c) → RanksAreSteps g (with_ranks ps ranks) (with_rank_nodata nodata rank_nodata) →
    (c : Cell) (r : Rule) → IsInside g c →
    HoldsAt (check_rules (with_rank_nodata nodata rank_nodata)) g (with_ranks ps ranks) c r ↔ HoldsAt (unranked nodata) g ps c r

-- with the numbers of steps for ranks, whatever ranks the products have, every rule holds at every cell exactly where
-- the products are correct
abbrev pub RulesAreCorrect : Type 0
RulesAreCorrect =
    (g : Grid) (ps : Products) (nodata : NoDataNumbers) (ranks : Cell → ℤ) (rank_nodata : ℤ) →
    RanksAreSteps g (with_ranks ps ranks) (with_rank_nodata nodata rank_nodata) →
    RulesHold (check_rules (with_rank_nodata nodata rank_nodata)) IsAnyRule g (with_ranks ps ranks) ↔ IsCorrect g ps nodata

-- products are correct exactly where every run ends and every rule without ranks holds at every cell
abbrev pub CorrectIsLocal : Type 0
CorrectIsLocal =
    (g : Grid) (ps : Products) (nodata : NoDataNumbers) →
    IsCorrect g ps nodata ↔ (((c : Cell) → HasData g c → RunEnds g ps c) × RulesHold (unranked nodata) IsAnyRule g ps)

-- where rules 10 to 13 hold everywhere without ranks, each data cell's run ends: acc can't grow all round a ring
abbrev pub RunsEndByCounts : Type 0
RunsEndByCounts =
    (g : Grid) (ps : Products) → RulesHold level_rules IsCountRule g ps → (c : Cell) → HasData g c → RunEnds g ps c

-- products are correct exactly where every rule without ranks holds at every cell: no run has to be followed
abbrev pub CorrectByRulesAlone : Type 0
CorrectByRulesAlone =
    (g : Grid) (ps : Products) (nodata : NoDataNumbers) → IsCorrect g ps nodata ↔ RulesHold (unranked nodata) IsAnyRule g ps

-- where products are correct, every run is sound
abbrev pub SoundFromCorrect : Type 0
SoundFromCorrect = (g : Grid) (ps : Products) (nodata : NoDataNumbers) → IsCorrect g ps nodata → RunsAreSound g ps

-- a cell that isn't listed is open exactly where it has data and lies on the edge of the grid or next to a void
abbrev pub OpenWithoutSinks : Type 0
OpenWithoutSinks =
    (g : Grid) (c : Cell) → ¬ IsTrue (g.sink c) →
    IsOpenCell g c ↔ (HasData g c × ((d : Direction) × IsGap (option_map g.elevation (step g.extent c d))))

-- keys compare as slopes do: the way in direction d over a drop x is steeper than that in direction e over a drop y
-- exactly where x / distance is greater than y / distance, squared and multiplied out
abbrev pub KeysCompareSlopes : Type 0
KeysCompareSlopes =
    (s : Distances) (d e : Direction) (x y : ℕ) → IsSpacing s →
    ((y * y) * distance_square s d < (x * x) * distance_square s e) ↔
    (slope_key (weight_of s e) (pos y) <ℤ slope_key (weight_of s d) (pos x))

-- numbers of heights are ordered as the heights that they stand for
abbrev pub NumbersOrderHeights : Type 0
NumbersOrderHeights = (kind : HeightKind) (a b : ℤ) → (a <ℤ b) ↔ (height_of kind a <ℤ height_of kind b)

-- the heights of a least surface are the least among all heights that cover the ground and drain, not only among those that have
-- numbers: of floats in units of 2^-149
abbrev pub LeastAmongHeights : Type 0
LeastAmongHeights =
    (g : Grid) (s : Surface) (kind : HeightKind) → IsLeastSurface g s → (t : Surface) →
    ((c : Cell) → HasData g c → height_of kind (height_at g c) ≤ℤ t c) → Drains g t → (c : Cell) → HasData g c → height_of kind (s c) ≤ℤ t c

-- on unit spacing a key is twice the square of the drop along a row or a column, and its square across a corner
abbrev pub KeysOnUnitSpacing : Type 0
KeysOnUnitSpacing =
    (d : Direction) (drop : ℤ) →
    slope_key (weight_of unit_spacing d) drop ≡ (if is_straight d then pos 2 *ℤ (drop *ℤ drop) else drop *ℤ drop)
