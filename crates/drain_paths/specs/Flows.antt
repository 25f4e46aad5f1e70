-- What is kept of each cell to find which runs end: whether it has data, and where its code leads.
use Rattle.std.specs.Prelude.{◌≡◌, ◌*◌, ◌<◌, ◌∷◌, if◌then◌else◌, ◌==◌}
use Rattle.drain_paths.specs.Names.{ℕ, ℤ, pos, List, length, [], Option, Some, None, slice_index_or, map, int_eq, Cell, Direction, East, SouthEast, South, SouthWest, West, NorthWest, North, NorthEast, named_direction, index_of, Extent, Grid, Products, IsInside, HasData, RunEnds}
use Rattle.std.specs.Option.{option_map_or}
use Rattle.drain_paths.specs.declared.flow.Flow.{Flow}
use Rattle.drain_paths.specs.declared.flow.Flow.TheVariants.{Void, Lost, Ends, ToEast, ToSouthEast, ToSouth, ToSouthWest, ToWest, ToNorthWest, ToNorth, ToNorthEast}
use Rattle.drain_paths.specs.declared.flow.TheConstants.{NO_CODE}

-- on in this direction
abbrev pub flow_to : Direction → Flow
flow_to East = ToEast
flow_to SouthEast = ToSouthEast
flow_to South = ToSouth
flow_to SouthWest = ToSouthWest
flow_to West = ToWest
flow_to NorthWest = ToNorthWest
flow_to North = ToNorth
flow_to NorthEast = ToNorthEast

-- the direction in which it leads on, if it does
abbrev pub direction_of : Flow → Option Direction
direction_of Void = None
direction_of Lost = None
direction_of Ends = None
direction_of ToEast = Some East
direction_of ToSouthEast = Some SouthEast
direction_of ToSouth = Some South
direction_of ToSouthWest = Some SouthWest
direction_of ToWest = Some West
direction_of ToNorthWest = Some NorthWest
direction_of ToNorth = Some North
direction_of ToNorthEast = Some NorthEast

-- the meaning of a number at a data cell: 0 ends the run, a direction's code leads that way, and any other is no code
abbrev pub code_flow : ℤ → Flow
code_flow number = if int_eq number (pos 0) then Ends else option_map_or flow_to (named_direction number) Lost

-- the meaning of a cell's elevation and number: at a void the number has none
abbrev pub cell_flow : Option ℤ → ℤ → Flow
cell_flow None number = Void
cell_flow (Some z) number = code_flow number

-- the same for a row of elevations and of numbers
abbrev pub flows_of : List (Option ℤ) → List ℤ → List Flow
flows_of [] numbers = []
flows_of (z ∷ zs) [] = []
flows_of (z ∷ zs) (n ∷ ns) = cell_flow z n ∷ flows_of zs ns

-- the flow of a cell; that of a void past the last
abbrev pub flow_at : Extent → List Flow → Cell → Flow
flow_at e flows c = slice_index_or flows (index_of e c) Void

-- the flows in row order are those of the cells of a grid of this size
pub record AreFlowsOf (g : Grid) (ps : Products) (e : Extent) (flows : List Flow) : Type 0 where
  pub extent : g.extent ≡ e
  pub each : (c : Cell) → IsInside g c → flow_at e flows c ≡ cell_flow (g.elevation c) (ps.dir c)

-- the flows in row order are those of the first rows of a grid of this size
pub record AreFirstFlows (g : Grid) (ps : Products) (e : Extent) (rows : ℕ) (flows : List Flow) : Type 0 where
  pub extent : g.extent ≡ e
  pub counted : length flows ≡ rows * e.cols
  pub each : (c : Cell) → IsInside g c → c.row < rows → flow_at e flows c ≡ cell_flow (g.elevation c) (ps.dir c)

-- elevations and numbers are those of a row of the grid
pub record AreRowOf (g : Grid) (ps : Products) (row : ℕ) (samples : List (Option ℤ)) (numbers : List ℤ) : Type 0 where
  pub samples_are : length samples ≡ g.extent.cols
  pub numbers_are : length numbers ≡ g.extent.cols
  pub elevation : (col : ℕ) → col < g.extent.cols →
      slice_index_or samples col None ≡ g.elevation (record { row = row; col = col })
  pub code : (col : ℕ) → col < g.extent.cols → slice_index_or numbers col (pos 0) ≡ ps.dir (record { row = row; col = col })

-- What holds of every grid and products that have these flows.

-- the fact holds of each grid of this size and products whose flows in row order these are
abbrev pub OfFlows : Extent → List Flow → (Grid → Products → Type 0) → Type 0
OfFlows e flows P = (g : Grid) → (ps : Products) → AreFlowsOf g ps e flows → P g ps

-- the run of every data cell ends
abbrev pub AllFlowsEnd : Grid → Products → Type 0
AllFlowsEnd g ps = (c : Cell) → HasData g c → RunEnds g ps c

-- Flows of codes that are kept in a byte per cell.

-- that of a void, or the meaning of the code
abbrev pub byte_flow : ℕ → Flow
byte_flow code = if code == NO_CODE then Void else code_flow (pos code)

-- the same for each
abbrev pub bytes_flows : List ℕ → List Flow
bytes_flows codes = map byte_flow codes

-- each place from 0 to 255 has the flow of its number
abbrev pub IsByteTable : List Flow → Type 0
IsByteTable flows = (number : ℕ) → number < 256 → slice_index_or flows number Void ≡ byte_flow number
