use Rattle.drain_verdict.proofs.Names.{take, AllZip, IsNameOf, names_of}
use Rattle.drain_verdict.proofs.stages.read_names.Given as goal

-- the names that were passed are those of the tiles so far
abbrev pub invariant-loop-place : goal.invariant-loop-place
invariant-loop-place g l = AllZip IsNameOf (take l.place (names_of l.tiles)) l.names.items
