-- The tests of a cell that lies on its ground and falls, whatever lies beside it: voids are passed over.
use Rattle.std.specs.Prelude.{◌+◌, ◌-◌, ◌&&◌, ◌==◌, ◌∷◌, if◌then◌else◌}
use Rattle.drain_kernel.specs.Names.{ℕ, Bool, not, nat_le, IsTrue, List, [], slice_index, Rules, IfJudged, has_acc, has_rnk}
use Rattle.drain_kernel.specs.LaneNumbers.{ThreeLanes}
use Rattle.drain_kernel.specs.Around.{is_direction_code, named_in}
use Rattle.drain_kernel.specs.Columns.{HasCountsAt, HasRankAt, HasWayAt, accs_round, codes_round, cons_round, heights_round, labels_round}
use Rattle.drain_kernel.specs.declared.slopes.Slopes.{Slopes}
use Rattle.drain_kernel.specs.Slopes.{falls_down}
use Rattle.drain_kernel.specs.Tests.{adds_up}

-- a neighbour's number, if it is no void; else another one
abbrev pub seen : ℕ → ℕ → ℕ → ℕ
seen hidden z x = if z == 0 then hidden else x

-- the greatest number of a lane
abbrev pub highest : ℕ → ℕ
highest bias = bias + bias - 1

-- a neighbour's conditioned elevation: at a void no lower than any height
abbrev pub seen_con : ℕ → ℕ → ℕ → ℕ
seen_con bias = seen (highest bias)

-- its direction: at a void none
abbrev pub seen_code : ℕ → ℕ → ℕ
seen_code = seen 0

-- those of eight neighbours
abbrev pub each_seen : (ℕ → ℕ → ℕ) → List ℕ → List ℕ → List ℕ
each_seen seen zs xs =
    seen (slice_index zs 0) (slice_index xs 0) ∷ seen (slice_index zs 1) (slice_index xs 1) ∷ seen (slice_index zs 2) (slice_index xs 2) ∷
    seen (slice_index zs 3) (slice_index xs 3) ∷ seen (slice_index zs 4) (slice_index xs 4) ∷ seen (slice_index zs 5) (slice_index xs 5) ∷
    seen (slice_index zs 6) (slice_index xs 6) ∷ seen (slice_index zs 7) (slice_index xs 7) ∷ []

-- the cell has data and is not raised, and its code leads down the steepest way, to a cell of its label
unfoldable pub keeps_fall : Slopes → ℕ → ℕ → ℕ → ℕ → List ℕ → ℕ → List ℕ → Bool
keeps_fall slopes bias height con code cons label labels =
    ((((not (height == 0) && con == height) && nat_le con (highest bias)) && is_direction_code code) && falls_down bias slopes con code cons) &&
    named_in code labels == label

-- so at a column
abbrev pub keeps_fall_at : ThreeLanes → ℕ → Bool
keeps_fall_at rows k =
    keeps_fall rows.slopes rows.here.bias (slice_index rows.here.z k) (slice_index rows.here.con k) (slice_index rows.here.dir k)
    (each_seen (seen_con rows.here.bias) (heights_round rows k) (cons_round rows k)) (slice_index rows.here.bas k) (labels_round rows k)

-- its accumulation is one more than what its data neighbours pass on
abbrev pub seen_sum_at : ThreeLanes → ℕ → Bool
seen_sum_at rows k = adds_up (slice_index rows.here.acc k) (each_seen seen_code (heights_round rows k) (codes_round rows k)) (accs_round rows k)

-- these tests pass at a column, that of the accumulation if it is judged, and no number is its product's no-data number
pub record FallsAt (rules : Rules) (rows : ThreeLanes) (k : ℕ) : Type 0 where
  pub fall : IsTrue (keeps_fall_at rows k)
  pub sum : IfJudged (has_acc rules.judged) (IsTrue (seen_sum_at rows k))
  pub has_way : HasWayAt rules.nodata rows.here k
  pub has_counts : HasCountsAt rules.nodata rows.here k
  pub rank : IfJudged (has_rnk rules.judged) (HasRankAt rules.nodata rows.here k)
