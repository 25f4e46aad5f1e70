use Rattle.drain_flood.proofs.Names.{refl, LEVELS}
use Rattle.drain_flood.proofs.StackLemmas.{no_items, none_stacked}
use Rattle.drain_flood.proofs.level_stacks.LevelStacks.new.Goals as goal

pub invariant_of-result : goal.invariant_of-result
invariant_of-result c = no_items c.in_ok-empty_stacks.field-0.items c.in_ok-empty_stacks.ensures.counted c.in_ok-empty_stacks.ensures.empty

pub returns : goal.returns
returns c =
    let stacks = c.in_ok-empty_stacks.field-0.items in
    none_stacked stacks LEVELS (no_items stacks c.in_ok-empty_stacks.ensures.counted c.in_ok-empty_stacks.ensures.empty) refl
