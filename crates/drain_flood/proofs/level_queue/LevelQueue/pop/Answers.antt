use Rattle.drain_flood.proofs.Names.{◌<◌, subst, ap, sym, ◌∙◌, ◌∷◌, set, arith, rules, SFits, to_z-of_z, ABSENT, Waiting}
use Rattle.std.specs.Int.{w16}
use Rattle.drain_flood.specs.Ways.{pairs_of}
use Rattle.drain_flood.proofs.PopLemmas.{nothing_held, nothing_seen, item_below, after_pop}
use Rattle.drain_flood.proofs.Turning.{rising}
use Rattle.drain_flood.proofs.level_queue.LevelQueue.pop.Goals as goal

pub returns-then-place-eq-LEVELS-clause-pairs : goal.returns-then-place-eq-LEVELS-clause-pairs
returns-then-place-eq-LEVELS-clause-pairs c =
    nothing_seen _ _ _ _ _ _ c.self.invariant c.self.view_is (rw c.deref.ensures.value at c.first_held-place.ensures.none_below) c.if-place-eq-LEVELS.true

pub returns-then-place-eq-LEVELS-clause-none : goal.returns-then-place-eq-LEVELS-clause-none
returns-then-place-eq-LEVELS-clause-none c =
    nothing_held _ _ _ _ _ _ c.self.invariant c.self.view_is (rw c.deref.ensures.value at c.first_held-place.ensures.none_below) c.if-place-eq-LEVELS.true

pub index-requires : goal.index-requires
index-requires c =
    let below = item_below _ _ _ _ _ _ c.self.invariant c.self.view_is (rw c.deref.ensures.value at c.first_held-place.ensures.none_below)
    c.first_held-place.ensures.most c.if-place-eq-LEVELS.false (rw c.deref.ensures.value at c.first_held-place.ensures.found) _ c.index-item.ensures in
    omega (arith, c.self.inside.behind.ok, below)

pub index_mut-requires-2 : goal.index_mut-requires-2
index_mut-requires-2 c =
    let below = item_below _ _ _ _ _ _ c.self.invariant c.self.view_is (rw c.deref.ensures.value at c.first_held-place.ensures.none_below)
    c.first_held-place.ensures.most c.if-place-eq-LEVELS.false (rw c.deref.ensures.value at c.first_held-place.ensures.found) _ c.index-item.ensures in
    omega (arith, c.self.inside.behind.ok, below)

pub invariant_of-self-2 : goal.invariant_of-self-2
invariant_of-self-2 c =
    (after_pop _ _ _ _ _ _ c.self.invariant c.self.view_is (rw c.deref.ensures.value at c.first_held-place.ensures.none_below)
    c.first_held-place.ensures.most c.if-place-eq-LEVELS.false (rw c.deref.ensures.value at c.first_held-place.ensures.found) _ c.index-item.ensures _ c.index.ensures).linked

pub returns-clause-pairs : goal.returns-clause-pairs
returns-clause-pairs c =
    let after = after_pop _ _ _ _ _ _ c.self.invariant c.self.view_is (rw c.deref.ensures.value at c.first_held-place.ensures.none_below)
    c.first_held-place.ensures.most c.if-place-eq-LEVELS.false (rw c.deref.ensures.value at c.first_held-place.ensures.found) _ c.index-item.ensures _ c.index.ensures in
    let fits : SFits w16 c.level_at.result = search rules in
    after.pairs ∙ ap (λ level. (level, c.index-item.result.now) ∷ pairs_of (set c.self.inside.firsts.items c.first_held-place.result c.index.result.now) (set c.self.inside.behind.items c.index-item.result.now ABSENT)) (sym (to_z-of_z w16 c.level_at.result fits ∙ c.level_at.ensures))

pub returns-clause-is_cell : goal.returns-clause-is_cell
returns-clause-is_cell c =
    let below = item_below _ _ _ _ _ _ c.self.invariant c.self.view_is (rw c.deref.ensures.value at c.first_held-place.ensures.none_below)
    c.first_held-place.ensures.most c.if-place-eq-LEVELS.false (rw c.deref.ensures.value at c.first_held-place.ensures.found) _ c.index-item.ensures in
    subst (λ (w : Waiting). c.index-item.result.now < w.cells) c.self.view_is below

pub returns-then-place-eq-LEVELS-clause-rising : goal.returns-then-place-eq-LEVELS-clause-rising
returns-then-place-eq-LEVELS-clause-rising c = rising c.self.inside.firsts.items c.self.inside.behind.items

pub returns-clause-rising : goal.returns-clause-rising
returns-clause-rising c = rising _ _
