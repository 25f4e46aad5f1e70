-- The tests at a column of three rows of lanes.
use Rattle.std.specs.Prelude.{◌≢◌, ◌-◌, ◌≡◌, ◌≤◌, ◌<◌, ◌+◌}
use Rattle.drain_kernel.specs.Names.{pos, IsSome, None, Option, ℕ, Bool, nat_lt, slice_index, ℤ, List, length, IsTrue, Patch, Profile, IsPatchRule, IsLeastFault, count_by, range_with_len, PerProduct, AreLanes, AreElevationLanes, AreHeightLanes, NoDataNumbers, Rules, IfJudged, has_acc, has_rnk}
use Rattle.drain_kernel.specs.LaneNumbers.{LaneNumbers, ThreeLanes}
use Rattle.drain_kernel.specs.Shown.{cols, HasRanks, IsInner, IsShown, IsShownRound, HasDataAt, lowered}
use Rattle.drain_kernel.specs.Around.{around_in}
use Rattle.drain_kernel.specs.Slopes.{keeps_way_down}
use Rattle.drain_kernel.specs.Tests.{keeps_surface, keeps_label, adds_up, is_ranked}

-- What is known of a cleared cell, of rules that look at its patch only.

-- every rule from VoidCell to Label holds at it, and it is a data cell that is no outlet by its code
pub record IsKept (profile : Profile) (p : Patch) : Type 0 where
  pub holds : IsLeastFault IsPatchRule (profile p) None
  pub has_data : IsSome p.here.z
  pub no_outlet : p.here.dir ≢ pos 0

-- How many columns of a row have con above the ground.

-- con is above the ground at a column
abbrev pub is_raised_at : LaneNumbers → ℕ → Bool
is_raised_at row k = nat_lt (slice_index row.z k) (slice_index row.con k)

-- the columns from one up to another
abbrev pub raised_lanes : LaneNumbers → ℕ → ℕ → ℕ
raised_lanes row from end = count_by (is_raised_at row) (range_with_len from (end - from))

-- The lanes of a row's numbers.

-- as many lanes as numbers, each with its column's number, at a void only the elevation's; ranks if they were taken
pub record AreLanesOf (lanes : LaneNumbers) (z : List (Option ℤ)) (products : PerProduct (List ℤ)) : Type 0 where
  pub len : cols lanes ≡ length z
  pub elevations : AreElevationLanes lanes.bias z lanes.z (length z)
  pub con : AreHeightLanes lanes.bias lanes.z products.con lanes.con (length z)
  pub dir : AreLanes lanes.z products.dir lanes.dir (length z)
  pub acc : AreLanes lanes.z products.acc lanes.acc (length z)
  pub bas : AreLanes lanes.z products.bas lanes.bas (length z)
  pub rnk : HasRanks lanes → AreLanes lanes.z products.rnk lanes.rnk (length z)

-- Three rows of lanes: the columns that have eight neighbours in them, and the patches that they show.

-- the column, and those left and right of it, are in all three rows
abbrev pub IsInnerColumn : ThreeLanes → ℕ → Type 0
IsInnerColumn rows k = IsInner rows.above rows.here rows.below k

-- the column is in all three rows
pub record IsInRows (rows : ThreeLanes) (k : ℕ) : Type 0 where
  pub above_in : k < cols rows.above
  pub here_in : k < cols rows.here
  pub below_in : k < cols rows.below

-- so is each column from one up to another, with those beside it; there may be none
pub record IsStretch (rows : ThreeLanes) (from end : ℕ) : Type 0 where
  pub left : 1 ≤ from
  pub ordered : from ≤ end
  pub above_right : end < cols rows.above
  pub here_right : end < cols rows.here
  pub below_right : end < cols rows.below

-- ranks were taken of all three rows
pub record HaveRanks (rows : ThreeLanes) : Type 0 where
  pub above_has : HasRanks rows.above
  pub here_has : HasRanks rows.here
  pub below_has : HasRanks rows.below

-- the rows have as many columns
pub record AreAsLong (rows : ThreeLanes) : Type 0 where
  pub above_len : cols rows.above ≡ cols rows.here
  pub below_len : cols rows.below ≡ cols rows.here

-- the patch that the rows show round a column, of a cell that is not listed as a sink
abbrev pub IsShownIn : ThreeLanes → ℕ → Patch → Type 0
IsShownIn rows = IsShown rows.above rows.here rows.below

-- the patch of a cell that may be listed
abbrev pub IsShownRoundIn : ThreeLanes → ℕ → Patch → Type 0
IsShownRoundIn rows = IsShownRound rows.above rows.here rows.below

-- a column is no void in any of three rows
pub record AreDataAt (rows : ThreeLanes) (k : ℕ) : Type 0 where
  pub above_has : HasDataAt rows.above k
  pub here_has : HasDataAt rows.here k
  pub below_has : HasDataAt rows.below k

-- it has this label in all three
pub record HaveLabelAt (rows : ThreeLanes) (label k : ℕ) : Type 0 where
  pub above_is : slice_index rows.above.bas k ≡ label
  pub here_is : slice_index rows.here.bas k ≡ label
  pub below_is : slice_index rows.below.bas k ≡ label

-- a column and the two beside it are no voids
pub record IsDataRound (row : LaneNumbers) (k : ℕ) : Type 0 where
  pub left : HasDataAt row (k - 1)
  pub middle : HasDataAt row k
  pub right : HasDataAt row (k + 1)

-- so in three rows: the cell and its neighbours have data
pub record IsInlandAt (rows : ThreeLanes) (k : ℕ) : Type 0 where
  pub above_is : IsDataRound rows.above k
  pub here_is : IsDataRound rows.here k
  pub below_is : IsDataRound rows.below k

-- the numbers of the neighbours of a column, of those that a row has of each cell
abbrev pub numbers_round : (LaneNumbers → List ℕ) → ThreeLanes → ℕ → List ℕ
numbers_round of rows k = around_in (of rows.above) (of rows.here) (of rows.below) k

-- their elevations
abbrev pub heights_round : ThreeLanes → ℕ → List ℕ
heights_round = numbers_round (λ row. row.z)

-- their conditioned elevations
abbrev pub cons_round : ThreeLanes → ℕ → List ℕ
cons_round = numbers_round (λ row. row.con)

-- their codes
abbrev pub codes_round : ThreeLanes → ℕ → List ℕ
codes_round = numbers_round (λ row. row.dir)

-- their accumulations
abbrev pub accs_round : ThreeLanes → ℕ → List ℕ
accs_round = numbers_round (λ row. row.acc)

-- their labels
abbrev pub labels_round : ThreeLanes → ℕ → List ℕ
labels_round = numbers_round (λ row. row.bas)

-- their ranks
abbrev pub ranks_round : ThreeLanes → ℕ → List ℕ
ranks_round = numbers_round (λ row. row.rnk)

-- the rules of the conditioned elevation hold
abbrev pub keeps_surface_at : ThreeLanes → ℕ → Bool
keeps_surface_at rows k = keeps_surface (slice_index rows.here.z k) (slice_index rows.here.con k) (cons_round rows k)

-- the rules of the direction hold, without ranks
abbrev pub keeps_direction_at : ThreeLanes → ℕ → Bool
keeps_direction_at rows k = keeps_way_down rows.here.bias rows.slopes (slice_index rows.here.con k) (slice_index rows.here.dir k) (cons_round rows k)

-- both hold
pub record KeepsWayAt (rows : ThreeLanes) (k : ℕ) : Type 0 where
  pub surface : IsTrue (keeps_surface_at rows k)
  pub direction : IsTrue (keeps_direction_at rows k)

-- the rule of the label holds
abbrev pub keeps_label_at : ThreeLanes → ℕ → Bool
keeps_label_at rows k = keeps_label (slice_index rows.here.dir k) (slice_index rows.here.bas k) (labels_round rows k)

-- the rule of the accumulation holds
abbrev pub adds_up_at : ThreeLanes → ℕ → Bool
adds_up_at rows k = adds_up (slice_index rows.here.acc k) (codes_round rows k) (accs_round rows k)

-- the code leads to a smaller conditioned elevation, or to a smaller rank
abbrev pub is_ranked_at : ThreeLanes → ℕ → Bool
is_ranked_at rows k =
    is_ranked (slice_index rows.here.con k) (slice_index rows.here.dir k) (cons_round rows k) (slice_index rows.here.rnk k)
    (ranks_round rows k)

-- and the rules of the conditioned elevation and of the direction hold
pub record KeepsRankedWayAt (rows : ThreeLanes) (k : ℕ) : Type 0 where
  pub way : KeepsWayAt rows k
  pub ranked : IsTrue (is_ranked_at rows k)

-- the conditioned elevation and the direction of a column aren't their products' no-data numbers
pub record HasWayAt (nodata : NoDataNumbers) (h : LaneNumbers) (k : ℕ) : Type 0 where
  pub con_differs : lowered h.bias (slice_index h.con k) ≢ nodata.con
  pub dir_differs : pos (slice_index h.dir k) ≢ nodata.dir

-- nor are its accumulation and its label
pub record HasCountsAt (nodata : NoDataNumbers) (h : LaneNumbers) (k : ℕ) : Type 0 where
  pub acc_differs : pos (slice_index h.acc k) ≢ nodata.acc
  pub bas_differs : pos (slice_index h.bas k) ≢ nodata.bas

-- the rules of the accumulation, if it is judged, and of the label hold, and the numbers are there
pub record KeepsCountsAt (rules : Rules) (rows : ThreeLanes) (k : ℕ) : Type 0 where
  pub accumulation : IfJudged (has_acc rules.judged) (IsTrue (adds_up_at rows k))
  pub label : IsTrue (keeps_label_at rows k)
  pub has_counts : HasCountsAt rules.nodata rows.here k

-- nor is its rank
abbrev pub HasRankAt : NoDataNumbers → LaneNumbers → ℕ → Type 0
HasRankAt nodata h k = pos (slice_index h.rnk k) ≢ nodata.rnk

-- the tests of ranks pass at a column
pub record RanksPassAt (nodata : NoDataNumbers) (rows : ThreeLanes) (k : ℕ) : Type 0 where
  pub ranked : IsTrue (is_ranked_at rows k)
  pub has_rank : HasRankAt nodata rows.here k

-- all tests pass at a column, those of the accumulation and of ranks if these are judged
pub record PassesAt (rules : Rules) (rows : ThreeLanes) (k : ℕ) : Type 0 where
  pub inland : IsInlandAt rows k
  pub surface : IsTrue (keeps_surface_at rows k)
  pub direction : IsTrue (keeps_direction_at rows k)
  pub label : IsTrue (keeps_label_at rows k)
  pub accumulation : IfJudged (has_acc rules.judged) (IsTrue (adds_up_at rows k))
  pub has_way : HasWayAt rules.nodata rows.here k
  pub has_counts : HasCountsAt rules.nodata rows.here k
  pub ranks : IfJudged (has_rnk rules.judged) (RanksPassAt rules.nodata rows k)

-- the columns from one up to another
abbrev pub Along : ℕ → ℕ → (ℕ → Type 0) → Type 0
Along from end P = (k : ℕ) → from ≤ k → k < end → P k
