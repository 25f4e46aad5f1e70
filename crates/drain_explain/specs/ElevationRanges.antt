-- The least and the greatest elevation, by their numbers, which are ordered as heights are. Source: this project's own.
use Rattle.std.specs.Prelude.{◌≡◌, ◌<◌, ◌≤ℤ◌}
use Rattle.drain_explain.specs.Names.{ℕ, ℤ, List, slice_index_or, Option, None, Some, Cell, Grid}
use Rattle.std.specs.Int.{int_max, int_min}
use Rattle.drain_findings.specs.declared.elevation_range.ElevationRange.{ElevationRange}

-- these are the least and the greatest of the numbers of which this holds
pub record AreBounds (Holds : ℤ → Type 0) (range : ElevationRange) : Type 0 where
  pub least_is : Holds range.least
  pub greatest_is : Holds range.greatest
  pub none_below : (z : ℤ) → Holds z → range.least ≤ℤ z
  pub none_above : (z : ℤ) → Holds z → z ≤ℤ range.greatest

-- so; without a range it holds of no number
abbrev pub IsRange : (ℤ → Type 0) → Option ElevationRange → Type 0
IsRange Holds None = (z : ℤ) → ¬ Holds z
IsRange Holds (Some range) = AreBounds Holds range

-- the elevation of a data cell of the grid's first rows
abbrev pub IsElevationAbove : Grid → ℕ → ℤ → Type 0
IsElevationAbove g rows z = (c : Cell) × (c.row < rows) × (c.col < g.extent.cols) × (g.elevation c ≡ Some z)

-- the elevation of a data cell of the grid
abbrev pub IsElevationOf : Grid → ℤ → Type 0
IsElevationOf g z = IsElevationAbove g g.extent.rows z

-- an elevation of a row before this column
abbrev pub IsOfRow : List (Option ℤ) → ℕ → ℤ → Type 0
IsOfRow row cols z = (col : ℕ) × (col < cols) × (slice_index_or row col None ≡ Some z)

-- the range of both
abbrev pub joined : Option ElevationRange → Option ElevationRange → Option ElevationRange
joined None other = other
joined (Some one) None = Some one
joined (Some one) (Some other) = Some (record { least = int_min one.least other.least; greatest = int_max one.greatest other.greatest })
