use Rattle.drain_slope.proofs.Names.{◌≡◌, ℕ, suc, ◌+◌, ◌-◌, ◌<◌, ◌^◌, ℤ, pos, ◌*ℤ◌, ◌+ℤ◌, refl, sym, subst, arith, to_z, of_z, w128, ints, false≢true, Sum, level_of}
use Rattle.drain_slope.proofs.Sums.{IsSplit, split_first, split_next, above_from_head, below_from_head, last_decides}
use Rattle.drain_slope.proofs.terms.is_above_0.Goals as goal

-- the split one shift further down, by the numbers of the code
next : (sum : Sum) (top step : ℕ) (head level new : ℤ) → step < top → IsSplit sum (top - step) head → level ≡ level_of (top - 1 - step) sum →
    new ≡ (pos 2 *ℤ head) +ℤ level → IsSplit sum (top - (step + 1)) new
next sum top step head level new inside split is_level is_new =
    let shift : top - 1 - step ≡ top - (step + 1) = omega arith in
    let above : top - step ≡ suc (top - (step + 1)) = omega (arith, inside) in
    let number : level ≡ level_of (top - (step + 1)) sum = subst (λ s. level ≡ level_of s sum) shift is_level in
    subst (IsSplit sum (top - (step + 1))) (sym (subst (λ l. new ≡ (pos 2 *ℤ head) +ℤ l) number is_new))
    (split_next sum (top - (step + 1)) head (subst (λ s. IsSplit sum s head) above split))

pub loop-step-init : goal.loop-step-init
loop-step-init c =
    (subst (λ n. IsSplit c.args.sum_of.now n (pos 0)) (top_is c.args.top) (split_first c.args.sum_of.now c.args.top c.requires.below), omega (arith, ints), omega (arith, ints))
  where
    top_is : (n : ℕ) → n ≡ n - 0
    top_is n = omega arith

pub returns-then-head-ge-LIMIT : goal.returns-then-head-ge-LIMIT
returns-then-head-ge-LIMIT c =
    let split : IsSplit c.args.sum_of.now (c.args.top - (c.loop-step.step + 1)) (to_z w128 (of_z w128 c.next_head-head.result)) =
    next c.args.sum_of.now c.args.top c.loop-step.step (to_z w128 c.loop-step.head-bits) c.level.result (to_z w128 (of_z w128 c.next_head-head.result)) (omega (arith, c.loop-step-test.true)) c.loop-step.invariant.0 c.level.ensures.value
    (omega (arith, ints, c.next_head-head.ensures)) in
    ((λ _. above_from_head (2 ^ 110) (c.args.top - (c.loop-step.step + 1)) c.args.sum_of.now (to_z w128 (of_z w128 c.next_head-head.result)) c.requires.few split (omega (arith, ints, c.if-head-ge-LIMIT.true)) (omega arith)), (λ _. refl))

pub returns-then-head : goal.returns-then-head
returns-then-head c =
    let split : IsSplit c.args.sum_of.now (c.args.top - (c.loop-step.step + 1)) (to_z w128 (of_z w128 c.next_head-head.result)) =
    next c.args.sum_of.now c.args.top c.loop-step.step (to_z w128 c.loop-step.head-bits) c.level.result (to_z w128 (of_z w128 c.next_head-head.result)) (omega (arith, c.loop-step-test.true)) c.loop-step.invariant.0 c.level.ensures.value
    (omega (arith, ints, c.next_head-head.ensures)) in (
      (λ h. absurd (false≢true h)),
      (λ above. absurd (below_from_head (2 ^ 110) (c.args.top - (c.loop-step.step + 1)) c.args.sum_of.now (to_z w128 (of_z w128 c.next_head-head.result)) c.requires.few split (omega (arith, ints, c.if-head.true)) (omega arith) above)),
    )

pub loop-step-preserved : goal.loop-step-preserved
loop-step-preserved c = (
  next c.args.sum_of.now c.args.top c.loop-step.step _ c.level.result _ (omega (arith, c.loop-step-test.true)) c.loop-step.invariant.0 c.level.ensures.value
      (omega (arith, ints, c.next_head-head.ensures)),
  omega (arith, ints, c.if-head.false),
  omega (arith, ints, c.if-head-ge-LIMIT.false),
)

pub returns : goal.returns
returns c =
    let shift : c.args.top - c.loop-step.step ≡ c.args.bottom = omega (arith, c.loop-step-test.false, c.loop-step.auto, c.requires.ordered) in
    let decides = last_decides c.args.sum_of.now c.args.bottom _ c.requires.from
    (subst (λ s. IsSplit c.args.sum_of.now s (to_z w128 c.loop-step.head-bits)) shift c.loop-step.invariant.0) in
    ((λ h. decides.0 (omega (arith, ints, h))), (λ h. let above = decides.1 h in grind (arith, ints, above)))
