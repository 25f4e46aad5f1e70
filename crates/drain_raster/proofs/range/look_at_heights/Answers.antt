use Rattle.drain_raster.proofs.Names.{pos, true, rules, subst, take_all, All-more, CanSpellIn}
use Rattle.std.specs.List.{All}
use Rattle.drain_raster.proofs.range.look_at_heights.Goals as goal

pub loop-k-preserved : goal.loop-k-preserved
loop-k-preserved c = All-more (CanSpellIn true 16) c.args.numbers.now c.loop-k.k (pos 0) (search rules) c.loop-k.invariant (search rules)

pub returns : goal.returns
returns c = subst (All (CanSpellIn true 16)) (take_all c.loop-k.k c.args.numbers.now c.loop-k-test.false) c.loop-k.invariant
