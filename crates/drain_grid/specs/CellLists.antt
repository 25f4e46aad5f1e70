-- Lists of cells.
use Rattle.drain_grid.specs.Names.{Bool, List, list_any}
use Rattle.drain_grid.specs.declared.cell.Cell.{Cell}
use Rattle.drain_grid.specs.Extent.{same_cell}

-- the cell is one of these
abbrev pub is_among : List Cell → Cell → Bool
is_among cells c = list_any (same_cell c) cells
