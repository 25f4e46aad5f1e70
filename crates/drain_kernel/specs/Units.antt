-- Heights of floats as whole numbers of one power of two, in lanes. That like heights are compared so is this project's own.
use Rattle.std.specs.Prelude.{◌≡◌, ◌+◌, ◌*◌, ◌/◌, ◌^◌, ◌<◌, ◌≤◌, ◌+ℤ◌}
use Rattle.drain_kernel.specs.Names.{ℕ, ℤ, pos, List, slice_index, single_height}
use Rattle.drain_kernel.specs.LaneNumbers.{ThreeLanes}
use Rattle.drain_kernel.specs.Shown.{lowered}

-- a lane holds the height of a number in units of this power of two, with an offset added
abbrev pub IsInUnit : ℕ → ℤ → ℤ → ℕ → Type 0
IsInUnit unit offset number lane = single_height number +ℤ offset ≡ pos (lane * 2 ^ unit)

-- the offset of lanes that were made: 2^31 units
abbrev pub made_offset : ℕ → ℤ
made_offset unit = pos (2147483648 * 2 ^ unit)

-- so do made lanes, of as many numbers of a row's lanes with this bias, from a column on
abbrev pub AreInUnit : ℕ → ℕ → List ℕ → ℕ → List ℕ → ℕ → Type 0
AreInUnit unit bias row from lanes count = (j : ℕ) → j < count → IsInUnit unit (made_offset unit) (lowered bias (slice_index row (from + j))) (slice_index lanes j)

-- so do those of three rows
pub record AreInOneUnit (bias unit : ℕ) (rows : ThreeLanes) (from count : ℕ) (above here below : List ℕ) : Type 0 where
  pub above_is : AreInUnit unit bias rows.above.con from above count
  pub here_is : AreInUnit unit bias rows.here.con from here count
  pub below_is : AreInUnit unit bias rows.below.con from below count

-- a number lies in a block: of 2^23 numbers, counted from -2^32. Each float of a block has the same exponent and sign
abbrev pub IsInBlock : ℕ → ℕ → ℕ → Type 0
IsInBlock block bias lane = (n : ℕ) × (pos n ≡ lowered bias lane +ℤ pos 4294967296) × (n / 8388608 ≡ block)

-- so do the numbers of a row from a column up to another
abbrev pub AreInBlock : ℕ → ℕ → List ℕ → ℕ → ℕ → Type 0
AreInBlock block bias row from end = (k : ℕ) → from ≤ k → k < end → IsInBlock block bias (slice_index row k)

-- so do those of three rows
pub record AreInOneBlock (bias block : ℕ) (rows : ThreeLanes) (from end : ℕ) : Type 0 where
  pub above_is : AreInBlock block bias rows.above.con from end
  pub here_is : AreInBlock block bias rows.here.con from end
  pub below_is : AreInBlock block bias rows.below.con from end
