-- Places of cells in row order.
use Rattle.std.specs.Prelude.{◌≡◌, ◌+◌, ◌*◌, ◌<◌}
use Rattle.drain_paths.specs.Names.{ℕ, List, Some, slice_index, Direction, rows_down, cols_right, Extent}
use Rattle.drain_paths.specs.declared.flow.Flow.{Flow}
use Rattle.drain_paths.specs.declared.flow.Flow.TheVariants.{Void, Lost, Ends, ToEast, ToSouthEast, ToSouth, ToSouthWest, ToWest, ToNorthWest, ToNorth, ToNorthEast}
use Rattle.drain_paths.specs.Flows.{byte_flow, direction_of}

-- a flow's number
abbrev pub lane_of : Flow → ℕ
lane_of Void = 0
lane_of Lost = 1
lane_of Ends = 2
lane_of ToEast = 3
lane_of ToSouthEast = 4
lane_of ToSouth = 5
lane_of ToSouthWest = 6
lane_of ToWest = 7
lane_of ToNorthWest = 8
lane_of ToNorth = 9
lane_of ToNorthEast = 10

-- how much further the next place is if the flow leads on, and one row and one place more
abbrev pub IsOffset : Extent → Flow → ℕ → Type 0
IsOffset e f offset = (d : Direction) → direction_of f ≡ Some d → offset ≡ rows_down d * e.cols + cols_right d

-- the same for each flow, at its number
abbrev pub AreOffsets : Extent → List ℕ → Type 0
AreOffsets e offsets = (f : Flow) → IsOffset e f (slice_index offsets (lane_of f))

-- the same for each code, at its number
abbrev pub AreCodeOffsets : Extent → List ℕ → Type 0
AreCodeOffsets e offsets = (code : ℕ) → code < 256 → IsOffset e (byte_flow code) (slice_index offsets code)
