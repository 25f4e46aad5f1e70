use Rattle.drain_raster.proofs.Names.{take, true, CanSpellIn}
use Rattle.std.specs.List.{All}
use Rattle.drain_raster.proofs.range.look_at_heights.Given as goal

-- those that were passed are
abbrev pub invariant-loop-k : goal.invariant-loop-k
invariant-loop-k l = All (CanSpellIn true 16) (take l.k l.fn.numbers)
