use Rattle.drain_raster.proofs.Names.{◌≡◌, ◌*◌, take, cells_bytes, cells_from}
use Rattle.drain_raster.proofs.write.put_kept.Given as goal

-- the pixels that were passed are at the front
abbrev pub invariant-loop-k : goal.invariant-loop-k
invariant-loop-k g l = take (l.k * g.P.Pixel.len) l.bytes ≡ cells_bytes (g.P.Pixel.spells g.T.ByteOrder.bytes_of) l.raster (cells_from l.row l.first l.k)
