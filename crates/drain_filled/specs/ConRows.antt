-- Which cells of the rows of a grid have data, and their conditioned elevations, in lists.
use Rattle.std.specs.Prelude.{◌≡◌, ◌*◌, ◌<◌, ◌++◌}
use Rattle.drain_filled.specs.Names.{ℕ, ℤ, pos, List, Option, Some, None, length, map, slice_index_or, Cell, SinkLine, index_of, Grid, Products, IsInside, is_listed, UNREACHED, VOID}
use Rattle.drain_filled.specs.Grounds.{DataCells, data_mark}

-- the mark of a cell with this elevation: before a flood no data cell is reached
abbrev pub mark_of : Option ℤ → ℕ
mark_of None = VOID
mark_of (Some z) = UNREACHED

-- a mark and a conditioned elevation for each cell, in row order
pub record ConLists : Type 0 where
  pub marks : List ℕ
  pub con : List ℤ

-- the same with a row more
abbrev pub with_row : ConLists → List (Option ℤ) → List ℤ → ConLists
with_row lists z con = record { marks = lists.marks ++ map mark_of z; con = lists.con ++ con }

-- the lists are of the first rows of a grid: the marks say where it has data, and con is its own
pub record AreFirstCon (g : Grid) (ps : Products) (rows : ℕ) (lists : ConLists) : Type 0 where
  pub marks_are : length lists.marks ≡ rows * g.extent.cols
  pub con_are : length lists.con ≡ rows * g.extent.cols
  pub has_data : (c : Cell) → IsInside g c → c.row < rows →
      slice_index_or lists.marks (index_of g.extent c) 0 ≡ mark_of (g.elevation c)
  pub con : (c : Cell) → IsInside g c → c.row < rows →
      slice_index_or lists.con (index_of g.extent c) (pos 0) ≡ ps.con c

-- the cells with data are those of the grid, and the list has the conditioned elevation of each cell
pub record IsGroundAndCon (g : Grid) (ps : Products) (ground : DataCells) (con : List ℤ) : Type 0 where
  pub extent : g.extent ≡ ground.extent
  pub has_data : (c : Cell) → IsInside g c → data_mark ground c ≡ mark_of (g.elevation c)
  pub con_is : (c : Cell) → IsInside g c → slice_index_or con (index_of g.extent c) (pos 0) ≡ ps.con c

-- the sinks of the grid are the listed ones
abbrev pub HasSinks : Grid → List SinkLine → Type 0
HasSinks g sinks = (c : Cell) → IsInside g c → g.sink c ≡ is_listed sinks c
