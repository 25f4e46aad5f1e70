-- How far apart neighbours are, and what the square of a drop is multiplied by, so that slopes over unequal distances
-- compare as whole numbers.
use Rattle.std.specs.Prelude.{ℕ, ◌+◌, ◌*◌, ◌<◌, ◌≤◌, ◌==◌, if◌then◌else◌, List, slice_index_or}
use Rattle.drain_grid.specs.declared.cell.Cell.{Cell}
use Rattle.drain_grid.specs.declared.direction.Direction.{Direction}
use Rattle.drain_grid.specs.declared.height_kind.HeightKind.{HeightKind}
use Rattle.drain_grid.specs.declared.height_kind.HeightKind.TheVariants.{Whole}
use Rattle.drain_grid.specs.declared.direction.Direction.TheVariants.{East, SouthEast, South, SouthWest, West, NorthWest, North, NorthEast}
use Rattle.drain_grid.specs.declared.spacing.TheConstants.{GREATEST_SPACING}

-- how far apart two cells of a row are, and two cells of a column: whole numbers in one unit; and what numbers of heights
-- stand for
pub record Distances : Type 0 where
  pub width : ℕ
  pub height : ℕ
  pub kind : HeightKind

-- square cells with whole heights.
-- Source: D8 (O'Callaghan and Mark 1984) is on unit spacing
abbrev pub unit_spacing : Distances
unit_spacing = record { width = 1; height = 1; kind = Whole }

-- above 0, and so small that slopes compare in 128 bits
pub record IsDistance (n : ℕ) : Type 0 where
  pub some : 0 < n
  pub most : n ≤ GREATEST_SPACING

-- both are
pub record IsSpacing (s : Distances) : Type 0 where
  pub width : IsDistance s.width
  pub height : IsDistance s.height

-- the spacing of the first rows, and that of each other row
pub record RowSpacings : Type 0 where
  pub listed : List Distances
  pub otherwise : Distances

abbrev pub spacing_of : RowSpacings → ℕ → Distances
spacing_of s row = slice_index_or s.listed row s.otherwise

-- the same distances, for heights of this kind
abbrev pub of_kind : HeightKind → Distances → Distances
of_kind kind s = record { width = s.width; height = s.height; kind = kind }

-- the square of the distance along a row, along a column, and across a corner
abbrev pub row_square : Distances → ℕ
row_square s = s.width * s.width

abbrev pub col_square : Distances → ℕ
col_square s = s.height * s.height

abbrev pub corner_square : Distances → ℕ
corner_square s = s.width * s.width + s.height * s.height

-- the square of the distance in a direction
abbrev pub distance_square : Distances → Direction → ℕ
distance_square s East = row_square s
distance_square s SouthEast = corner_square s
distance_square s South = col_square s
distance_square s SouthWest = corner_square s
distance_square s West = row_square s
distance_square s NorthWest = corner_square s
distance_square s North = col_square s
distance_square s NorthEast = corner_square s

-- the weight of a drop in a direction: the product of the other two squares, so weights are in the ratios of 1 / square.
-- On unit spacing it is 2 along rows and columns, and 1 across corners
abbrev pub weight_of : Distances → Direction → ℕ
weight_of s East = col_square s * corner_square s
weight_of s SouthEast = row_square s * col_square s
weight_of s South = row_square s * corner_square s
weight_of s SouthWest = row_square s * col_square s
weight_of s West = col_square s * corner_square s
weight_of s NorthWest = row_square s * col_square s
weight_of s North = row_square s * corner_square s
weight_of s NorthEast = row_square s * col_square s

-- the weight of a step between neighbours
abbrev pub weight_between : Distances → Cell → Cell → ℕ
weight_between s a b =
    if a.row == b.row then col_square s * corner_square s
    else (if a.col == b.col then row_square s * corner_square s else row_square s * col_square s)
