use Rattle.drain_files.proofs.Names.{take, AllZip, names_of, IsLastPart}
use Rattle.drain_files.proofs.open_files.open_tiles.Given as goal

-- the tiles so far have the names of their paths
abbrev pub invariant-loop-path : goal.invariant-loop-path
invariant-loop-path l = AllZip (λ path name. IsLastPart path.now name) (take l.path-index l.fn.paths) (names_of l.tiles.items)
