-- What lanes show at a column, and the patch that three rows of lanes show round it.
use Rattle.std.specs.Prelude.{◌≡◌, ◌≢◌, ◌≤◌, ◌<◌, ◌+◌, ◌-◌, ◌-ℤ◌, ◌==◌, if◌then◌else◌}
use Rattle.drain_kernel.specs.Names.{ℕ, ℤ, pos, false, Option, Some, None, slice_index, length, Direction, East, SouthEast, South, SouthWest, West, NorthWest, North, NorthEast, Patch, Values}
use Rattle.drain_grid.specs.Patch.{neighbor}
use Rattle.drain_kernel.specs.LaneNumbers.{LaneNumbers}

-- the height that a lane holds: less than the lane by the bias
abbrev pub lowered : ℕ → ℕ → ℤ
lowered bias n = pos n -ℤ pos bias

-- the elevation that a lane holds: none where the lane is 0
abbrev pub height_of : ℕ → ℕ → Option ℤ
height_of bias n = if n == 0 then None else Some (lowered bias n)

-- how many columns the row has
abbrev pub cols : LaneNumbers → ℕ
cols row = length row.z

-- ranks were taken
abbrev pub HasRanks : LaneNumbers → Type 0
HasRanks row = length row.rnk ≡ cols row

-- the column is no void
abbrev pub HasDataAt : LaneNumbers → ℕ → Type 0
HasDataAt row k = slice_index row.z k ≢ 0

-- the row has these values at a column: of products only if it is no void, of the rank only if it has ranks; of spill
-- parents and lists of sinks it says nothing
pub record Shows (row : LaneNumbers) (k : ℕ) (v : Values) : Type 0 where
  pub z_is : v.z ≡ height_of row.bias (slice_index row.z k)
  pub con_is : HasDataAt row k → v.con ≡ lowered row.bias (slice_index row.con k)
  pub dir_is : HasDataAt row k → v.dir ≡ pos (slice_index row.dir k)
  pub acc_is : HasDataAt row k → v.acc ≡ pos (slice_index row.acc k)
  pub bas_is : HasDataAt row k → v.bas ≡ pos (slice_index row.bas k)
  pub rnk_is : HasRanks row → HasDataAt row k → v.rnk ≡ pos (slice_index row.rnk k)

-- the row where the neighbour in a direction lies
abbrev pub row_beside : LaneNumbers → LaneNumbers → LaneNumbers → Direction → LaneNumbers
row_beside above here below East = here
row_beside above here below SouthEast = below
row_beside above here below South = below
row_beside above here below SouthWest = below
row_beside above here below West = here
row_beside above here below NorthWest = above
row_beside above here below North = above
row_beside above here below NorthEast = above

-- and its column
abbrev pub col_beside : ℕ → Direction → ℕ
col_beside k East = k + 1
col_beside k SouthEast = k + 1
col_beside k South = k
col_beside k SouthWest = k - 1
col_beside k West = k - 1
col_beside k NorthWest = k - 1
col_beside k North = k
col_beside k NorthEast = k + 1

-- the column is not the first, nor the last of any of the three rows
pub record IsInner (above here below : LaneNumbers) (k : ℕ) : Type 0 where
  pub left : 1 ≤ k
  pub above_right : k + 1 < cols above
  pub here_right : k + 1 < cols here
  pub below_right : k + 1 < cols below

-- the values in a direction, of a neighbour that is there
pub record IsShownAt (above here below : LaneNumbers) (k : ℕ) (p : Patch) (d : Direction) (v : Values) : Type 0 where
  pub is : neighbor p d ≡ Some v
  pub shown : Shows (row_beside above here below d) (col_beside k d) v

-- the patch round a column with eight neighbours
pub record IsShownRound (above here below : LaneNumbers) (k : ℕ) (p : Patch) : Type 0 where
  pub cell : Shows here k p.here
  pub around_is : (d : Direction) → (v : Values) × IsShownAt above here below k p d v

-- the patch round a column with eight neighbours, of a cell that is not listed as a sink
pub record IsShown (above here below : LaneNumbers) (k : ℕ) (p : Patch) : Type 0 where
  pub cell : Shows here k p.here
  pub not_listed : p.here.sink ≡ false
  pub around_is : (d : Direction) → (v : Values) × IsShownAt above here below k p d v
