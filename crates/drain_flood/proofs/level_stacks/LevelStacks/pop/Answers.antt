use Rattle.drain_flood.proofs.Names.{◌≡◌, ◌<◌, ◌≤ℤ◌, ◌∷◌, ◌∙◌, ℤ, ℕ, List, set, sym, refl, subst, arith, rules, SFits, to_z, of_z, All, IsPermutation, to_z-of_z, LEVELS, stack_at, level_of}
use Rattle.std.specs.Int.{w16}
use Rattle.drain_flood.specs.Stacks.{stacked}
use Rattle.drain_flood.proofs.StackLemmas.{are_stacks, none_left, none_stacked, passed, popped, stack_read}
use Rattle.drain_flood.proofs.level_stacks.LevelStacks.pop.Goals as goal

pub returns-then-place-eq-LEVELS-clause-none : goal.returns-then-place-eq-LEVELS-clause-none
returns-then-place-eq-LEVELS-clause-none c =
    let s = c.self.inside in
    let p = c.first_filled-place.result in
    none_stacked s.stacks.items p
    (passed s.stacks.items s.lowest c.self.invariant p c.first_filled-place.ensures.most (rw c.deref.ensures.value at c.first_filled-place.ensures.none_below))
    c.if-place-eq-LEVELS.true

pub returns-then-place-eq-LEVELS-clause-taken : goal.returns-then-place-eq-LEVELS-clause-taken
returns-then-place-eq-LEVELS-clause-taken c =
    let s = c.self.inside in
    let p = c.first_filled-place.result in
    sym c.self.view_is
    ∙ none_stacked s.stacks.items p
    (passed s.stacks.items s.lowest c.self.invariant p c.first_filled-place.ensures.most (rw c.deref.ensures.value at c.first_filled-place.ensures.none_below))
    c.if-place-eq-LEVELS.true

pub invariant_of-self-2 : goal.invariant_of-self-2
invariant_of-self-2 c =
    let s = c.self.inside in
    let p = c.first_filled-place.result in
    let within : p < LEVELS = omega (arith, c.first_filled-place.ensures.most, c.if-place-eq-LEVELS.false) in
    are_stacks s.stacks.items p
    (passed s.stacks.items s.lowest c.self.invariant p c.first_filled-place.ensures.most (rw c.deref.ensures.value at c.first_filled-place.ensures.none_below))
    p within c.pop.new.self p (omega arith) (omega arith)

pub returns-clause-taken : goal.returns-clause-taken
returns-clause-taken c =
    let s = c.self.inside in
    let p = c.first_filled-place.result in
    let within : p < LEVELS = omega (arith, c.first_filled-place.ensures.most, c.if-place-eq-LEVELS.false) in
    let new = stacked (set s.stacks.items p c.pop.new.self) in
    let fits : SFits w16 c.level_at.result = search rules in
    let level_is : level_of p ≡ to_z w16 (of_z w16 c.level_at.result) = sym (to_z-of_z w16 c.level_at.result fits ∙ c.level_at.ensures) in
    let read : stack_at s.stacks.items p ≡ c.index_mut.result.now.items =
    stack_read s.stacks.items p c.index_mut.result.now (omega (arith, c.self.invariant.counted, within)) c.index_mut.ensures.value in
    subst (λ level. IsPermutation c.args.self.now ((level, c.in_ok-item.item) ∷ new)) level_is
    (subst (λ (old : List (ℤ × ℕ)). IsPermutation old ((level_of p, c.in_ok-item.item) ∷ new)) c.self.view_is
    (popped s.stacks.items s.lowest c.self.invariant p within c.pop.new.self c.in_ok-item.item (read ∙ c.in_ok-item.ensures.items)))

pub returns-clause-lowest : goal.returns-clause-lowest
returns-clause-lowest c =
    let s = c.self.inside in
    let p = c.first_filled-place.result in
    let within : p < LEVELS = omega (arith, c.first_filled-place.ensures.most, c.if-place-eq-LEVELS.false) in
    let fits : SFits w16 c.level_at.result = search rules in
    let level_is : level_of p ≡ to_z w16 (of_z w16 c.level_at.result) = sym (to_z-of_z w16 c.level_at.result fits ∙ c.level_at.ensures) in
    subst (λ level. All (λ (q : ℤ × ℕ). level ≤ℤ q.0) (stacked (set s.stacks.items p c.pop.new.self))) level_is
    (none_left s.stacks.items p
    (passed s.stacks.items s.lowest c.self.invariant p c.first_filled-place.ensures.most (rw c.deref.ensures.value at c.first_filled-place.ensures.none_below))
    p within c.pop.new.self refl)
