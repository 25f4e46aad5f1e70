-- The meaning of a row in memory.
use Rattle.std.specs.Prelude.{◌≡◌, ◌<◌}
use Rattle.drain_rows.specs.Names.{ℕ, false, IsTrue, List, length, slice_index_or, SinkLine, is_listed, Distances, MarkedRow, RowNumbers}
use Rattle.drain_grid.specs.declared.set_product.SetProduct.{SetProduct}
use Rattle.drain_grid.specs.PerProduct.{of_product, per_product}
use Rattle.drain_kernel.specs.Columns.{AreLanesOf}
use Rattle.drain_rows.specs.declared.row_buffer.RowBuffer.{RowBuffer}

-- its numbers as lists
abbrev pub buffer_numbers : RowBuffer → RowNumbers
buffer_numbers row = record { z = row.z; products = per_product (λ p. of_product row.products p) }

-- the same with its marks, and how far apart its cells are
abbrev pub marked_of : RowBuffer → MarkedRow
marked_of row = record { numbers = buffer_numbers row; sinks = row.sinks.items; spacing = row.slopes.spacing }

-- the listed sinks of the row with this number are marked, and no other column; and it is spaced as the row of this
-- number is
pub record IsMarked (sinks : List SinkLine) (spacing : ℕ → Distances) (r : ℕ) (row : MarkedRow) : Type 0 where
  pub marks : (col : ℕ) → col < length row.numbers.z → slice_index_or row.sinks col false ≡ is_listed sinks (record { row = r; col = col })
  pub spaced : row.spacing ≡ spacing r

-- each product has as many numbers as there are elevations
abbrev pub IsEven : RowNumbers → Type 0
IsEven row = (p : SetProduct) → length (of_product row.products p) ≡ length row.z

-- if its numbers fit lanes, these are its lanes
abbrev pub LanesMatch : RowBuffer → Type 0
LanesMatch row = IsTrue row.fit → AreLanesOf row.lanes row.z (buffer_numbers row).products
