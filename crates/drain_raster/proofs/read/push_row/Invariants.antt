use Rattle.drain_raster.proofs.Names.{◌≡◌, ◌+◌, ◌-◌, ◌≤◌, ◌++◌, map, vec_len, vec_capacity, IsPixel, cells_from, pixel_at}
use Rattle.std.proofs.Common.{All}
use Rattle.drain_raster.proofs.read.push_row.Given as goal

-- the numbers of the pixels passed come after the others, and there is room for the rest
abbrev pub invariant-loop-first : goal.invariant-loop-first
invariant-loop-first g l = record {
  within : l.first ≤ l.header.cols;
  items : l.numbers.items ≡ l.fn.numbers.items ++ map (pixel_at l.header l.body) (cells_from l.row 0 l.first);
  len : vec_len l.numbers ≡ vec_len l.fn.numbers + l.first;
  room : vec_capacity l.fn.numbers ≤ vec_capacity l.numbers;
  pixels : All IsPixel l.numbers.items;
}

abbrev pub decreases-loop-first : goal.decreases-loop-first
decreases-loop-first g l = l.header.cols - l.first
