-- The tests of an outlet beside a void: a data cell with code 0, not raised, with no lower neighbour.
use Rattle.std.specs.Prelude.{◌&&◌, ◌==◌}
use Rattle.drain_kernel.specs.Names.{ℕ, Bool, not, nat_le, min, IsTrue, List, slice_index, Rules, IfJudged, has_rnk}
use Rattle.drain_kernel.specs.LaneNumbers.{ThreeLanes}
use Rattle.drain_kernel.specs.Around.{least_straight_in, least_across_in}
use Rattle.drain_kernel.specs.Columns.{HasCountsAt, HasRankAt, HasWayAt, cons_round, heights_round}
use Rattle.drain_kernel.specs.Falls.{each_seen, seen_con, seen_sum_at}

-- the cell has data, is not raised and has code 0; a neighbour is a void, as the least of their elevations is 0; and no
-- neighbour with data is lower
unfoldable pub keeps_outlet : ℕ → ℕ → ℕ → List ℕ → List ℕ → Bool
keeps_outlet height con code heights cons =
    (((not (height == 0) && con == height) && code == 0) && min (least_straight_in heights) (least_across_in heights) == 0) &&
    nat_le con (min (least_straight_in cons) (least_across_in cons))

-- so at a column
abbrev pub keeps_outlet_at : ThreeLanes → ℕ → Bool
keeps_outlet_at rows k =
    keeps_outlet (slice_index rows.here.z k) (slice_index rows.here.con k) (slice_index rows.here.dir k) (heights_round rows k)
    (each_seen (seen_con rows.here.bias) (heights_round rows k) (cons_round rows k))

-- these tests pass at a column, its accumulation is one more than what its data neighbours pass on, and no number is its product's no-data number
pub record OutletAt (rules : Rules) (rows : ThreeLanes) (k : ℕ) : Type 0 where
  pub outlet : IsTrue (keeps_outlet_at rows k)
  pub sum : IsTrue (seen_sum_at rows k)
  pub has_way : HasWayAt rules.nodata rows.here k
  pub has_counts : HasCountsAt rules.nodata rows.here k
  pub rank : IfJudged (has_rnk rules.judged) (HasRankAt rules.nodata rows.here k)
