-- The bounding box of some tiles, and where each tile lies in it (the SRTM HGT documentation: adjacent tiles share their edges).
use Rattle.std.specs.Prelude.{◌+◌, ◌-◌, ◌*◌, ◌/◌, ◌*ℤ◌, ◌+ℤ◌, ◌-ℤ◌}
use Rattle.drain_mosaic.specs.Names.{ℕ, ℤ, pos, nat_abs, List, map, slice_index_or, fold, Cell, Extent, Corner}
use Rattle.std.specs.Int.{int_min, int_max}
use Rattle.drain_grid.specs.declared.degree.TheConstants.{UNITS_PER_DEGREE}

-- tiles of one side, by their corners
pub record Tiling : Type 0 where
  pub side : ℕ
  pub corners : List Corner

-- the least of the numbers, 0 where there is none
abbrev pub least : List ℤ → ℤ
least xs = fold int_min (slice_index_or xs 0 (pos 0)) xs

-- the greatest of the numbers, 0 where there is none
abbrev pub greatest : List ℤ → ℤ
greatest xs = fold int_max (slice_index_or xs 0 (pos 0)) xs

-- the box in degrees: its west and south edges, and the others, one degree past the last tiles
abbrev pub west_of : Tiling → ℤ
west_of t = least (map (λ c. c.lon) t.corners)

abbrev pub south_of : Tiling → ℤ
south_of t = least (map (λ c. c.lat) t.corners)

abbrev pub north_of : Tiling → ℤ
north_of t = greatest (map (λ c. c.lat) t.corners) +ℤ pos 1

abbrev pub east_of : Tiling → ℤ
east_of t = greatest (map (λ c. c.lon) t.corners) +ℤ pos 1

-- the box's west and north edge, in units of 10^-15 degree
abbrev pub west_edge : Tiling → ℤ
west_edge t = west_of t *ℤ pos UNITS_PER_DEGREE

abbrev pub north_edge : Tiling → ℤ
north_edge t = north_of t *ℤ pos UNITS_PER_DEGREE

-- from one sample of a tile to the next, in units of 10^-15 degree, rounded down
abbrev pub spacing_of : Tiling → ℤ
spacing_of t = pos (UNITS_PER_DEGREE / (t.side - 1))

-- how many tiles the box has from north to south, and from west to east
abbrev pub tiles_down : Tiling → ℕ
tiles_down t = nat_abs (north_of t -ℤ south_of t)

abbrev pub tiles_across : Tiling → ℕ
tiles_across t = nat_abs (east_of t -ℤ west_of t)

-- adjacent tiles share a row or a column
abbrev pub extent_of : Tiling → Extent
extent_of t = record { rows = tiles_down t * (t.side - 1) + 1; cols = tiles_across t * (t.side - 1) + 1 }

-- the first row and the first column of the tile at a corner
abbrev pub top_of : Tiling → Corner → ℕ
top_of t c = nat_abs (north_of t -ℤ pos 1 -ℤ c.lat) * (t.side - 1)

abbrev pub left_of : Tiling → Corner → ℕ
left_of t c = nat_abs (c.lon -ℤ west_of t) * (t.side - 1)

-- the north-west cell of the tile at a corner
abbrev pub top_left_of : Tiling → Corner → Cell
top_left_of t c = record { row = top_of t c; col = left_of t c }
