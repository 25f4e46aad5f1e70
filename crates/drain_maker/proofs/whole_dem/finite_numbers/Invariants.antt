-- The numbers so far.
use Rattle.drain_maker.proofs.Names.{◌≡◌, ◌<◌, pos, length, slice_index_or, Cell, IsCellOf, index_of, IsPixel, IsKeptAt}
use Rattle.std.proofs.Common.{All}
use Rattle.drain_maker.proofs.whole_dem.finite_numbers.Given as goal

abbrev pub invariant-loop-place : goal.invariant-loop-place
invariant-loop-place l = record {
  long : length l.numbers.items ≡ l.place;
  pixels : All IsPixel l.numbers.items;
  numbers : (c : Cell) → IsCellOf l.raster.extent c → index_of l.raster.extent c < l.place → IsKeptAt l.raster c (slice_index_or l.numbers.items (index_of l.raster.extent c) (pos 0));
}
