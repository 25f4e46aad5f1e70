use Rattle.drain_raster.proofs.Names.{◌≡◌, take, IsPixel, raster_numbers_of}
use Rattle.std.proofs.Common.{All}
use Rattle.drain_raster.proofs.number_rows.put_numbers.Given as goal

-- the numbers that were passed are at the front
abbrev pub invariant-loop-k : goal.invariant-loop-k
invariant-loop-k g l = record {
  items : take l.k l.out ≡ raster_numbers_of g.P.Pixel.len (g.P.Pixel.reads g.T.ByteOrder.number_of) l.k l.bytes;
  pixels : All IsPixel (take l.k l.out);
}
