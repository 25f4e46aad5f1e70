use Rattle.drain_maker.proofs.Names.{pos, true, rules, subst, take_all, All-more, CanSpellIn}
use Rattle.std.specs.List.{All}
use Rattle.drain_maker.proofs.products.look_at_each.Goals as goal

pub loop-place-preserved : goal.loop-place-preserved
loop-place-preserved c = All-more (CanSpellIn true 16) c.args.heights.now c.loop-place.place (pos 0) (search rules) c.loop-place.invariant (search rules)

pub returns : goal.returns
returns c = subst (All (CanSpellIn true 16)) (take_all c.loop-place.place c.args.heights.now c.loop-place-test.false) c.loop-place.invariant
