use Rattle.drain_flood.proofs.Names.{◌≡◌, ◌<◌, length, ap, ◌∙◌, subst, inl, inr, arith, rules, cases_lt, stack_at}
use Rattle.drain_flood.proofs.StackLemmas.{stack_read}
use Rattle.drain_flood.proofs.level_stacks.first_filled.Goals as goal

pub loop-place-preserved : goal.loop-place-preserved
loop-place-preserved c = λ k from below. elim (cases_lt k c.loop-place.place) [
  | inl less ↦ c.loop-place.invariant k from less
  | inr reached ↦
      let is : c.loop-place.place ≡ k = omega (arith, reached, below) in
      let within : c.loop-place.place < length c.args.stacks.now = search rules in
      let none : length c.index-stacks-place.result.items ≡ 0 = search rules in
      let read = stack_read c.args.stacks.now c.loop-place.place c.index-stacks-place.result within c.index-stacks-place.is in
      subst (λ place. length (stack_at c.args.stacks.now place) ≡ 0) is (ap length read ∙ none)
]
