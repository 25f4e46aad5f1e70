use Rattle.drain_maker.proofs.Names.{map, file_bytes}
use Rattle.drain_maker.proofs.FileLemmas.{WritesSoFar}
use Rattle.drain_maker.proofs.product_files.write_listed.Given as goal

-- the files before this one are written
abbrev pub invariant-loop-k : goal.invariant-loop-k
invariant-loop-k g l = WritesSoFar g.F.ByteSink l.fn.files l.files (map (file_bytes l.fn.con l.fn.elevations (g.S.FileSet.rasters l.fn.set)) l.fn.list) l.k
