use Rattle.drain_raster.proofs.Names.{◌≡◌, ◌-◌, map, take, IsPixel, cells_from, pixel_at}
use Rattle.std.proofs.Common.{All}
use Rattle.drain_raster.proofs.read.put_numbers.Given as goal

-- the numbers of the pixels that were passed are at the front
abbrev pub invariant-loop-col : goal.invariant-loop-col
invariant-loop-col g l = record {
  items : take (l.col - l.first) l.buffer ≡ map (pixel_at l.header l.body) (cells_from l.row l.first (l.col - l.first));
  pixels : All IsPixel (take (l.col - l.first) l.buffer);
}
