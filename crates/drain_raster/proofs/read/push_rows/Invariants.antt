use Rattle.drain_raster.proofs.Names.{◌≡◌, ◌*◌, ◌≤◌, map, vec_len, range_with_len, flat_map, vec_capacity, row_cells, IsPixel, pixel_at}
use Rattle.std.proofs.Common.{All}
use Rattle.drain_raster.proofs.read.push_rows.Given as goal

-- the numbers are those of the rows that were passed, and there is room for the rest
abbrev pub invariant-loop-row : goal.invariant-loop-row
invariant-loop-row g l = record {
  items : l.numbers.items ≡ map (pixel_at l.header l.body) (flat_map (row_cells l.header.cols) (range_with_len 0 l.row));
  len : vec_len l.numbers ≡ l.row * l.header.cols;
  room : vec_capacity l.fn.numbers ≤ vec_capacity l.numbers;
  pixels : All IsPixel l.numbers.items;
}
