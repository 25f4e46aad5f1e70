use Rattle.drain_flood.proofs.Names.{◌≡◌, ◌∷◌, ◌∙◌, ℤ, ℕ, List, set, [], ◌++◌, sym, ap, subst, arith, IsPermutation, to_z-of_z, stack_at}
use Rattle.std.specs.Int.{w16}
use Rattle.drain_flood.specs.Stacks.{stacked}
use Rattle.drain_flood.proofs.StackLemmas.{are_stacks, on_err, pushed, same_stacked, same_stacks, stack_read}
use Rattle.drain_flood.proofs.level_stacks.LevelStacks.push.Goals as goal

pub invariant_of-self : goal.invariant_of-self
invariant_of-self c =
    let s = c.self.inside in
    let p = c.place_of-place.result in
    let within = c.place_of-place.ensures.within in
    let read : stack_at s.stacks.items p ≡ c.index_mut.result.now.items =
    stack_read s.stacks.items p c.index_mut.result.now (omega (arith, c.self.invariant.counted, within)) c.index_mut.ensures.value in
    same_stacks s.stacks.items s.lowest c.self.invariant p within c.push.new.self (read ∙ sym c.in_err-push.ensures.items)

pub returns-in_err-push-clause-kept : goal.returns-in_err-push-clause-kept
returns-in_err-push-clause-kept c =
    let s = c.self.inside in
    let p = c.place_of-place.result in
    let within = c.place_of-place.ensures.within in
    let read : stack_at s.stacks.items p ≡ c.index_mut.result.now.items =
    stack_read s.stacks.items p c.index_mut.result.now (omega (arith, c.self.invariant.counted, within)) c.index_mut.ensures.value in
    on_err c.from_residual.result _ (same_stacked s.stacks.items s.lowest c.self.invariant p within c.push.new.self (read ∙ sym c.in_err-push.ensures.items) ∙ c.self.view_is)

pub invariant_of-self-2 : goal.invariant_of-self-2
invariant_of-self-2 c =
    let s = c.self.inside in
    are_stacks s.stacks.items s.lowest c.self.invariant c.place_of-place.result c.place_of-place.ensures.within c.push.new.self c.min-self-inside.result
    (omega (arith, c.min-self-inside.ensures)) (omega (arith, c.min-self-inside.ensures))

pub returns-clause-put : goal.returns-clause-put
returns-clause-put c =
    let s = c.self.inside in
    let p = c.place_of-place.result in
    let within = c.place_of-place.ensures.within in
    let new = stacked (set s.stacks.items p c.push.new.self) in
    let read : stack_at s.stacks.items p ≡ c.index_mut.result.now.items =
    stack_read s.stacks.items p c.index_mut.result.now (omega (arith, c.self.invariant.counted, within)) c.index_mut.ensures.value in
    let more : c.push.new.self.items ≡ stack_at s.stacks.items p ++ c.args.item ∷ [] = c.in_ok-push.ensures.items ∙ ap (λ xs. xs ++ c.args.item ∷ []) (sym read) in
    subst (λ (old : List (ℤ × ℕ)). IsPermutation ((c.args.level, c.args.item) ∷ old) new) c.self.view_is
    (subst (λ level. IsPermutation ((level, c.args.item) ∷ stacked s.stacks.items) new) (c.place_of-place.ensures.level ∙ to_z-of_z w16 c.args.level c.ranges.level)
    (pushed s.stacks.items s.lowest c.self.invariant p within c.push.new.self c.args.item more))
