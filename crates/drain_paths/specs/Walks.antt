-- What a walk found.
use Rattle.std.specs.Prelude.{◌+◌, ◌-◌, ◌&&◌, if◌then◌else◌, ◌≡◌, ◌≢◌}
use Rattle.drain_paths.specs.Names.{Cell, Grid, Products, IsInside, ℕ, List, map, nat_lt, Option, Some, None, IsSome, IsNone, run_steps, Extent, IsCellOf, Direction, IsCode, Names, next, RunEnds}
use Rattle.drain_grid.proofs.Walks.{IsWalk}
use Rattle.drain_paths.specs.declared.walk.Ahead.{Ahead}
use Rattle.drain_paths.specs.CellNumbers.{IsNumbered, Numbering, AreNumbers}
use Rattle.drain_paths.specs.declared.flow.Flow.{Flow}
use Rattle.drain_paths.specs.declared.flow.Flow.TheVariants.{Ends, Void, Lost}
use Rattle.drain_paths.specs.declared.walk.TheConstants.{UNKNOWN}
use Rattle.drain_paths.specs.declared.flow.Way.{Way}
use Rattle.drain_paths.specs.declared.flow.Way.TheVariants.{On}
use Rattle.drain_paths.specs.Flows.{direction_of, flow_at}
use Rattle.drain_paths.specs.Ways.{IsWay}
use Rattle.drain_paths.specs.declared.flow.Way.TheVariants as way

-- its steps lead from the start to the cell with this number
pub record IsAhead (g : Grid) (ps : Products) (number_of : Numbering) (start : Cell) (ahead : Ahead) : Type 0 where
  pub walk : IsWalk g ps ahead.steps start ahead.cell
  pub there : IsNumbered g ps number_of ahead.cell ahead.number

-- Numbers of steps of runs, cell by cell.

-- what is known before any walk: the run of an outlet makes no step
abbrev pub first_step : Flow → ℕ
first_step Ends = 0
first_step f = UNKNOWN

-- the same of each flow
abbrev pub first_steps_of : List Flow → List ℕ
first_steps_of flows = map first_step flows

-- every run ends; each data cell has the number of steps of its run, which is not UNKNOWN, and each void has UNKNOWN
abbrev pub AreRunSteps : Grid → Products → Extent → List ℕ → Type 0
AreRunSteps g ps e steps = AreNumbers g ps e UNKNOWN run_steps steps

-- A step by numbers of rows and columns.

-- the cell down - 1 rows down and right - 1 columns right; none outside the grid
abbrev pub stepped : Extent → Cell → ℕ → ℕ → Option Cell
stepped e c down right =
    let row = c.row + down in
    let col = c.col + right in
    if nat_lt 0 row && (nat_lt (row - 1) e.rows && (nat_lt 0 col && nat_lt (col - 1) e.cols))
    then Some (record { row = row - 1; col = col - 1 })
    else None

-- What flows say once cells whose runs end are recorded as such: less than codes, and as much as walks need.

-- what the flow says of the cell is so: a void where there is no elevation, an end where the run ends, else what the code says
pub record IsKnownFlow (g : Grid) (ps : Products) (c : Cell) (f : Flow) : Type 0 where
  pub void : f ≡ Void → IsNone (g.elevation c)
  pub has_data : f ≢ Void → IsSome (g.elevation c)
  pub ends : f ≡ Ends → RunEnds g ps c
  pub lost : f ≡ Lost → ¬ IsCode (ps.dir c)
  pub leads : (d : Direction) → direction_of f ≡ Some d → Names (ps.dir c) d

-- each flow is
pub record AreKnownFlows (g : Grid) (ps : Products) (e : Extent) (flows : List Flow) : Type 0 where
  pub extent : g.extent ≡ e
  pub each : (c : Cell) → IsInside g c → IsKnownFlow g ps c (flow_at e flows c)

-- where water goes from the cell, where an end is one that is known
abbrev pub IsKnownWay : Grid → Products → Cell → Way → Type 0
IsKnownWay g ps c way.Ends = RunEnds g ps c
IsKnownWay g ps c (On n) = next g ps c ≡ Some n
IsKnownWay g ps c way.Lost = IsWay g ps c way.Lost

-- a cell that it leads to is in the grid
abbrev pub IsWayWithin : Extent → Way → Type 0
IsWayWithin e way.Ends = Unit {0}
IsWayWithin e (On n) = IsCellOf e n
IsWayWithin e way.Lost = Unit {0}

-- the flows name an end only at the cell itself, and lead on only to data
abbrev pub IsWayOfFlows : Extent → List Flow → Cell → Way → Type 0
IsWayOfFlows e flows c way.Ends = flow_at e flows c ≡ Ends
IsWayOfFlows e flows c (On n) = flow_at e flows n ≢ Void
IsWayOfFlows e flows c way.Lost = Unit {0}
