use Rattle.drain_maker.proofs.Names.{take, true, CanSpellIn}
use Rattle.std.specs.List.{All}
use Rattle.drain_maker.proofs.products.look_at_each.Given as goal

abbrev pub invariant-loop-place : goal.invariant-loop-place
invariant-loop-place l = All (CanSpellIn true 16) (take l.place l.fn.heights)
