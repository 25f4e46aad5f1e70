use Rattle.std.proofs.Common.{map}
use Rattle.drain_maker.proofs.TileLists.{SoFar}
use Rattle.drain_maker.proofs.mosaic.read_tiles.Given as goal

-- the tiles before this one are read
abbrev pub invariant-loop-i : goal.invariant-loop-i
invariant-loop-i g l = SoFar g.R.ByteSource.bytes_left g.R.ByteSource.counts l.side l.i l.fn.tiles l.tiles (map (λ tile. tile.items) l.samples.items)
