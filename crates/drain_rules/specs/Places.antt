-- Places in row order on a square, and the cells round one that is on no edge.
use Rattle.std.specs.Prelude.{◌≡◌, ◌+◌, ◌-◌, ◌*◌, ◌<◌, ◌≤◌, ◌≤ℤ◌}
use Rattle.drain_rules.specs.Names.{ℕ, ℤ, List, IsSome, slice_index_or, order_of, rows_down, cols_right, Grid, Cell}
use Rattle.drain_grid.specs.declared.direction.Direction.{Direction}
use Rattle.drain_rules.specs.Fill.{con_at}

-- each neighbour is this many places after the one in the north-west
abbrev pub AreWays : ℕ → List ℕ → Type 0
AreWays side ways = (d : Direction) → slice_index_or ways (order_of d) 0 ≡ rows_down d * side + cols_right d

-- there are places before and after it for all eight neighbours
pub record HasPlacesRound (side place : ℕ) : Type 0 where
  pub before : side + 1 ≤ place
  pub after : place + side + 1 < side * side

-- the place of the neighbour in this direction
abbrev pub place_beside : ℕ → ℕ → Direction → ℕ
place_beside side place d = place + (rows_down d * side + cols_right d) - (side + 1)

-- no neighbour has a smaller conditioned elevation than this
abbrev pub IsNoneLower : ℕ → List ℕ → ℕ → ℤ → Type 0
IsNoneLower side bytes place con = (d : Direction) → con ≤ℤ con_at side bytes (place_beside side place d)

-- the cell of this row and column and the two above and below it are in the grid, and have data
pub record HasDataAcross (g : Grid) (row col : ℕ) : Type 0 where
  pub above : 1 ≤ row
  pub below : row + 1 < g.extent.rows
  pub inside : col < g.extent.cols
  pub has_data : (c : Cell) → row ≤ c.row + 1 → c.row ≤ row + 1 → c.col ≡ col → IsSome (g.elevation c)

-- so does each of the three columns round it: the cell is on no edge, and beside no void
pub record IsInland (g : Grid) (c : Cell) : Type 0 where
  pub left : 1 ≤ c.col
  pub west : HasDataAcross g c.row (c.col - 1)
  pub here : HasDataAcross g c.row c.col
  pub east : HasDataAcross g c.row (c.col + 1)
