-- The stacks so far have no item.
use Rattle.drain_flood.proofs.Names.{◌≡◌, [], length, All}
use Rattle.drain_flood.proofs.level_stacks.empty_stacks.Given as goal

abbrev pub invariant-loop-place : goal.invariant-loop-place
invariant-loop-place l = record {
  counted : length l.stacks.items ≡ l._place;
  empty : All (λ stack. stack.items ≡ []) l.stacks.items;
}
